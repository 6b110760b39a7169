-- What the parts of a judgement say.
use Rattle.std.specs.Prelude.{◌≡◌, ℕ, ◌+◌, ◌<◌, ◌≤◌, ◌*◌, Bool, true, false, not, ◌&&◌, List, [], length, slice_index_or, All, sum_by, Option, Some, None, if◌then◌else◌}
use Rattle.std.specs.List.{list_any, range_with_len}
use Rattle.fapp_model.specs.declared.instance.Instance.{Instance}
use Rattle.fapp_model.specs.declared.literal.Literal.{Literal}
use Rattle.fapp_model.specs.search.Pairs.{Pair, limit_of}
use Rattle.fapp_model.specs.Tags.{has_limit, triple_from}
use Rattle.fapp_model.specs.search.Partials.{names}
use Rattle.fapp_model.specs.search.Weights.{bad_before, bad_further, between, inside, over_open}
use Rattle.fapp_model.specs.search.Clashes.{clashes_with}
use Rattle.cert_lines.specs.acceptance.Judged.{has_clash, is_pair_at_most, is_stuck, or_no_pair}
use Rattle.cert_check.specs.declared.exclusion.Scene.{Scene}
use Rattle.cert_check.specs.declared.weight.Weight.{Weight}
use Rattle.cert_check.specs.RecordsNamed.{record_at, touches, ties_of}
use Rattle.fapp_model.specs.declared.record.Record.{Record}
use Rattle.cert_check.specs.Scenes.{excluded_by, pair_by}
use Rattle.cert_check.specs.Weights.{added_most, row_most, whole_most}

-- a record between a literal and the others is hard-bad, or what those add that name its path first
abbrev pub IsWeighedRow : Instance → ℕ → List Literal → Literal → Option Weight → Type 0
IsWeighedRow instance level literals a None = clashes_with instance level literals a ≡ true
IsWeighedRow instance level literals a (Some w) = (clashes_with instance level literals a ≡ false)
    × (w.v ≡ sum_by (λ b. between instance (bad_before level) a b) literals)
    × (w.s ≡ sum_by (λ b. between instance (bad_further level) a b) literals)
    × (w.v ≤ row_most) × (w.s ≤ row_most)

-- a record between two literals is hard-bad, or the literals' own weight
abbrev pub IsOwn : Instance → ℕ → List Literal → Option Weight → Type 0
IsOwn instance level literals None = has_clash instance level literals ≡ true
IsOwn instance level literals (Some w) = (has_clash instance level literals ≡ false)
    × (w.v ≡ inside instance (bad_before level) literals)
    × (w.s ≡ inside instance (bad_further level) literals)
    × (w.v ≤ length literals * row_most) × (w.s ≤ length literals * row_most)

abbrev pub near_at : List Bool → ℕ → Bool
near_at near path = slice_index_or near path false

-- a mark for each path; no record stands between one without a mark and the literals
pub record IsNear (instance : Instance) (literals : List Literal) (near : List Bool) : Type 0 where
  pub whole : length near ≡ length instance.paths
  pub apart : (path : ℕ) → path < length instance.paths → near_at near path ≡ false →
      ties_of instance literals path ≡ []

abbrev pub weighed_paths : Scene → List ℕ
weighed_paths scene = range_with_len 0 (length scene.instance.now.paths)

-- a path has no choice left
abbrev pub stuck_by : Scene → List Literal → ℕ → Bool
stuck_by scene literals path =
    is_stuck (excluded_by scene literals) scene.instance.now scene.level literals path

abbrev pub least_by : Scene → List Literal → ℕ → Pair
least_by scene literals path = or_no_pair (pair_by scene literals path)

-- a marked path is stuck, or what the path adds
abbrev pub IsStep : Scene → List Literal → List Bool → ℕ → Option Weight → Type 0
IsStep scene literals near path None = (near_at near path && stuck_by scene literals path) ≡ true
IsStep scene literals near path (Some w) =
    ((near_at near path && stuck_by scene literals path) ≡ false)
    × (w.v ≡ (if names literals path then 0 else (least_by scene literals path).v))
    × (w.s ≡ (if names literals path then 0 else (least_by scene literals path).s))
    × (w.v ≤ added_most) × (w.s ≤ added_most)

-- some marked path is stuck
abbrev pub near_stuck : Scene → List Literal → List Bool → Bool
near_stuck scene literals near =
    list_any (λ path. near_at near path && stuck_by scene literals path) (weighed_paths scene)

-- some path without a mark is stuck
abbrev pub far_stuck : Scene → List Literal → List Bool → Bool
far_stuck scene literals near =
    list_any (λ path. not (near_at near path) && stuck_by scene literals path) (weighed_paths scene)

-- some path is stuck
abbrev pub any_stuck : Scene → List Literal → Bool
any_stuck scene literals = list_any (stuck_by scene literals) (weighed_paths scene)

-- the tag has a limit, and both weights together come to it
abbrev pub over_by : Scene → Weight → Weight → Bool
over_by scene own more = has_limit (triple_from scene.tag.code)
    && is_pair_at_most (limit_of (triple_from scene.tag.code))
    (record { v = own.v + more.v; s = own.s + more.s })

-- some marked path is stuck, or what the further paths add
abbrev pub IsWeighed : Scene → List Literal → List Bool → Option Weight → Type 0
IsWeighed scene literals near None = near_stuck scene literals near ≡ true
IsWeighed scene literals near (Some w) = (near_stuck scene literals near ≡ false)
    × (w.v ≡ over_open scene.instance.now literals (λ path. (least_by scene literals path).v))
    × (w.s ≡ over_open scene.instance.now literals (λ path. (least_by scene literals path).s))
    × (w.v ≤ whole_most) × (w.s ≤ whole_most)

-- a path without a mark had none before, and the record does not name it
abbrev pub MarksEnds : Record → List Bool → List Bool → Type 0
MarksEnds r old new = (path : ℕ) → near_at new path ≡ false →
    (near_at old path ≡ false) × (touches path r ≡ false)

abbrev pub MarksAll : Instance → List ℕ → List Bool → List Bool → Type 0
MarksAll instance places old new = (path : ℕ) → near_at new path ≡ false →
    (near_at old path ≡ false) × All (λ k. touches path (record_at instance k) ≡ false) places
