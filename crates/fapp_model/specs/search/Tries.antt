-- How many partial assignments a plain search from a prefix tries: those that it comes to and that
-- are not dead.
use Rattle.std.specs.Prelude.{◌≡◌, ℕ, ◌+◌, ◌<◌, ◌⊎◌, List, [], ◌∷◌, ◌++◌, length, drop, sum_by}
use Rattle.std.specs.List.{range_with_len}
use Rattle.fapp_model.specs.declared.instance.Instance.{Instance}
use Rattle.fapp_model.specs.declared.literal.Literal.{Literal}
use Rattle.fapp_model.specs.declared.triple.Triple.{Triple}
use Rattle.fapp_model.specs.Assignments.{count_at}
use Rattle.fapp_model.specs.search.Dead.{Dead}
use Rattle.fapp_model.specs.search.Partials.{literal}
use Rattle.fapp_model.specs.search.WorkOrder.{work_order}

-- the sum of one number for each index below a count, where a relation says what numbers they may
-- be
pub record IsSumOver (count : ℕ) (IsPart : ℕ → ℕ → Type 0) (total : ℕ) : Type 0 where
  pub part : ℕ → ℕ
  pub each : (index : ℕ) → index < count → IsPart index (part index)
  pub sum : total ≡ sum_by part (range_with_len 0 count)

-- 0 where something is dead, else 1 and what is below it
abbrev pub IsOneAndBelow : Type 0 → (ℕ → Type 0) → ℕ → Type 0
IsOneAndBelow dead IsBelow n =
    (dead × (n ≡ 0)) ⊎ ((dead → ⊥) × ((below : ℕ) × (n ≡ 1 + below) × IsBelow below))

-- the tries from some literals on, where paths with so many choices each are to come: below the
-- literals stand those of each choice of the next path, and nothing where no path is left
abbrev pub IsTriesBy : (List Literal → Type 0) → (ℕ → ℕ) → List ℕ → List Literal → ℕ → Type 0
IsTriesBy IsDead choices [] literals n = IsOneAndBelow (IsDead literals) (λ below. below ≡ 0) n
IsTriesBy IsDead choices (path ∷ paths) literals n =
    IsOneAndBelow (IsDead literals) (IsSumOver (choices path) (λ index.
    IsTriesBy IsDead choices paths (literals ++ literal path index ∷ []))) n

-- the tries at a tag from a prefix of the work order on
abbrev pub IsTries : Instance → Triple → List Literal → ℕ → Type 0
IsTries instance t prefix n =
    IsTriesBy (Dead instance t) (count_at instance) (drop (length prefix) (work_order instance))
    prefix n
