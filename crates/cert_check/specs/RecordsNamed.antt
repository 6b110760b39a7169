-- What some of an instance's records say, by their positions.
use Rattle.std.specs.Prelude.{ℕ, ◌+◌, ◌<◌, Bool, false, ◌&&◌, ◌||◌, ◌==◌, List, length, sum_by, filter, slice_index_or, All, if◌then◌else◌}
use Rattle.std.specs.List.{list_any, range_with_len}
use Rattle.fapp_model.specs.declared.choice.Choice.{Choice}
use Rattle.fapp_model.specs.declared.instance.Instance.{Instance}
use Rattle.fapp_model.specs.declared.literal.Literal.{Literal}
use Rattle.fapp_model.specs.declared.record.Record.{Record}
use Rattle.fapp_model.specs.declared.record.Record.TheVariants.{Freq}
use Rattle.fapp_model.specs.search.Clashes.{joins, is_hard_bad}
use Rattle.fapp_model.specs.search.Partials.{choice_of, names}
use Rattle.fapp_model.specs.Records.{first_path, second_path}

-- what stands past the end of a list of records
abbrev pub no_record : Record
no_record = Freq 0 0 false 0

abbrev pub record_at : Instance → ℕ → Record
record_at instance k = slice_index_or instance.records k no_record

-- some of the records names the first literal's path first, the second's second, and is hard-bad
-- between them
abbrev pub blocks_at : Instance → List ℕ → ℕ → Literal → Literal → Bool
blocks_at instance places level a b = list_any (λ k. joins a.path b.path (record_at instance k)
    && is_hard_bad level (record_at instance k) (choice_of instance a) (choice_of instance b))
    places

abbrev pub clashes_at : Instance → List ℕ → ℕ → Literal → Literal → Bool
clashes_at instance places level a b =
    blocks_at instance places level a b || blocks_at instance places level b a

abbrev pub clashes_with_at : Instance → List ℕ → ℕ → List Literal → Literal → Bool
clashes_with_at instance places level literals a =
    list_any (clashes_at instance places level a) literals

-- the sum of a measure over those that name the first literal's path first and the second's second
abbrev pub between_at : Instance → List ℕ → (Record → Choice → Choice → ℕ) → Literal → Literal → ℕ
between_at instance places measure a b = sum_by (λ k. if joins a.path b.path (record_at instance k)
    then measure (record_at instance k) (choice_of instance a) (choice_of instance b) else 0) places

abbrev pub added_at : Instance → List ℕ → (Record → Choice → Choice → ℕ) → List Literal → Literal →
    ℕ
added_at instance places measure literals a =
    sum_by (λ b. between_at instance places measure a b + between_at instance places measure b a)
    literals

-- what a literal's own records add that name its path first
abbrev pub row_at : Instance → List ℕ → (Record → Choice → Choice → ℕ) → List Literal → Literal → ℕ
row_at instance places measure literals a =
    sum_by (λ b. between_at instance places measure a b) literals

-- a record names a path
abbrev pub touches : ℕ → Record → Bool
touches path r = (first_path r == path) || (second_path r == path)

-- the positions of the records that name a path
unfoldable pub places_of : Instance → ℕ → List ℕ
places_of instance path =
    filter (λ k. touches path (record_at instance k)) (range_with_len 0 (length instance.records))

-- a record names a path that one of the literals names
abbrev pub reaches : List Literal → Record → Bool
reaches literals r = names literals (first_path r) || names literals (second_path r)

-- the positions of the records between a path and those of the literals
unfoldable pub ties_of : Instance → List Literal → ℕ → List ℕ
ties_of instance literals path =
    filter (λ k. reaches literals (record_at instance k)) (places_of instance path)

-- positions of records
abbrev pub ArePlaces : Instance → List ℕ → Type 0
ArePlaces instance places = All (λ k. k < length instance.records) places
