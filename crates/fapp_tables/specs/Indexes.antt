-- Which paths share a record, and which records two paths share.
use Rattle.std.specs.Prelude.{ℕ, ◌+◌, false, Bool, ◌&&◌, ◌||◌, ◌==◌, List, length, filter, slice_index_or, sum_by, if◌then◌else◌}
use Rattle.std.specs.List.{list_any, range_with_len}
use Rattle.fapp_model.specs.declared.choice.Choice.{Choice}
use Rattle.fapp_model.specs.declared.instance.Instance.{Instance}
use Rattle.fapp_model.specs.declared.record.Record.{Record}
use Rattle.fapp_model.specs.declared.record.Record.TheVariants.{Freq}
use Rattle.fapp_model.specs.search.Clashes.{joins, shares_record, is_hard_bad}
use Rattle.fapp_model.specs.Records.{first_path}

-- a record names both paths, in either order
abbrev pub touches : ℕ → ℕ → Record → Bool
touches path other r = joins path other r || joins other path r

-- what stands past the end of a list of records
abbrev pub no_record : Record
no_record = Freq 0 0 false 0

abbrev pub record_at : Instance → ℕ → Record
record_at instance position = slice_index_or instance.records position no_record

-- the paths that share a record with a path, ascending
abbrev pub neighbours_of : Instance → ℕ → List ℕ
neighbours_of instance path =
    filter (shares_record instance path) (range_with_len 0 (length instance.paths))

-- the positions of the records that name both paths, ascending
abbrev pub records_of : Instance → ℕ → ℕ → List ℕ
records_of instance path other =
    filter (λ k. touches path other (record_at instance k))
    (range_with_len 0 (length instance.records))

-- a measure of a record of a path, by the path's choice and the other path's
abbrev pub turned : (Record → Choice → Choice → ℕ) → ℕ → Choice → Choice → Record → ℕ
turned measure path a b r = if first_path r == path then measure r a b else measure r b a

-- the sum of a measure over the records between a choice of a path and one of another path
abbrev pub between_choices : Instance → (Record → Choice → Choice → ℕ) → ℕ → ℕ → Choice → Choice → ℕ
between_choices instance measure path other a b =
    sum_by (λ r. (if joins path other r then measure r a b else 0)
    + (if joins other path r then measure r b a else 0))
    instance.records

-- a record of a path is hard-bad, by the path's choice and the other path's
abbrev pub turned_bad : ℕ → ℕ → Choice → Choice → Record → Bool
turned_bad level path a b r =
    if first_path r == path then is_hard_bad level r a b else is_hard_bad level r b a

-- some record is hard-bad between a choice of a path and one of another path
abbrev pub clashes_between : Instance → ℕ → ℕ → ℕ → Choice → Choice → Bool
clashes_between instance level path other a b =
    list_any (λ r. (joins path other r && is_hard_bad level r a b)
    || (joins other path r && is_hard_bad level r b a))
    instance.records
