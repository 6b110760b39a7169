-- What the records between literals add to a cost.
use Rattle.std.specs.Prelude.{ℕ, ◌+◌, ◌-◌, List, length, sum_by, count_by, if◌then◌else◌}
use Rattle.std.specs.List.{range_with_len}
use Rattle.fapp_model.specs.declared.choice.Choice.{Choice}
use Rattle.fapp_model.specs.declared.instance.Instance.{Instance}
use Rattle.fapp_model.specs.declared.literal.Literal.{Literal}
use Rattle.fapp_model.specs.declared.record.Record.{Record}
use Rattle.fapp_model.specs.search.Clashes.{joins}
use Rattle.fapp_model.specs.search.Pairs.{Pair}
use Rattle.fapp_model.specs.search.Partials.{choice_of, names}
use Rattle.fapp_model.specs.Records.{is_bad}

-- 1 where a record is bad one level below a level
abbrev pub bad_before : ℕ → Record → Choice → Choice → ℕ
bad_before level r a b = if is_bad (level - 1) r a b then 1 else 0

-- the number of levels further below at which a record is bad
abbrev pub bad_further : ℕ → Record → Choice → Choice → ℕ
bad_further level r a b = count_by (λ m. is_bad m r a b) (range_with_len 0 (level - 1))

-- the sum of a measure over the records that name the first literal's path first and the second's
-- second
abbrev pub between : Instance → (Record → Choice → Choice → ℕ) → Literal → Literal → ℕ
between instance measure a b =
    sum_by (λ r. if joins a.path b.path r
    then measure r (choice_of instance a) (choice_of instance b) else 0) instance.records

-- over the records between a literal and those of a list
abbrev pub added : Instance → (Record → Choice → Choice → ℕ) → List Literal → Literal → ℕ
added instance measure literals a =
    sum_by (λ b. between instance measure a b + between instance measure b a) literals

-- over the records between two literals of a list
abbrev pub inside : Instance → (Record → Choice → Choice → ℕ) → List Literal → ℕ
inside instance measure literals =
    sum_by (λ a. sum_by (λ b. between instance measure a b) literals) literals

-- the sum of a number for each path that no literal names
abbrev pub over_open : Instance → List Literal → (ℕ → ℕ) → ℕ
over_open instance literals f =
    sum_by (λ path. if names literals path then 0 else f path)
    (range_with_len 0 (length instance.paths))

-- the pair that a literal adds against a list
abbrev pub added_pair : Instance → ℕ → List Literal → Literal → Pair
added_pair instance level literals a =
    record {
      v = added instance (bad_before level) literals a;
      s = added instance (bad_further level) literals a;
    }

-- the pairs of the records between the literals, and one more pair for each path that they do not
-- name
abbrev pub pair_with : Instance → ℕ → List Literal → (ℕ → Pair) → Pair
pair_with instance level literals least = record {
  v = inside instance (bad_before level) literals
      + over_open instance literals (λ path. (least path).v);
  s = inside instance (bad_further level) literals
      + over_open instance literals (λ path. (least path).s);
}
