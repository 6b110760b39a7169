-- What holds of calm literals and their sums.
use Rattle.std.specs.Prelude.{◌≡◌, ◌↔◌, ◌⊎◌, ℕ, ◌≤◌, List, IsTrue}
use Rattle.fapp_model.specs.declared.instance.Instance.{Instance}
use Rattle.fapp_model.specs.declared.literal.Literal.{Literal}
use Rattle.fapp_model.specs.declared.triple.Triple.{Triple}
use Rattle.fapp_model.specs.Instances.{IsInstance}
use Rattle.fapp_model.specs.Tags.{IsTagOf, has_limit, least_tag, mode_level}
use Rattle.fapp_model.specs.search.Dead.{Dead}
use Rattle.fapp_model.specs.search.Pairs.{limit_of}
use Rattle.fapp_model.specs.search.Partials.{IsPartial}
use Rattle.fapp_tables.specs.Measures.{pair_code}
use Rattle.choice_counts.specs.CountedSums.{IsCountedSum, IsCalm}

-- Literals that are not dead at a tag are calm at its mode's level.
abbrev pub AliveIsCalm : Type 0
AliveIsCalm =
    (instance : Instance) (t : Triple) (literals : List Literal) → IsInstance instance →
    IsPartial instance literals →
    (Dead instance t literals → ⊥) → IsCalm instance (mode_level t) literals

-- Calm literals are dead at a tag exactly where it is (0, 0, 0) or its limit is at most their sum.
abbrev pub DeadIsOverBound : Type 0
DeadIsOverBound =
    (instance : Instance) (t : Triple) (literals : List Literal) (n : ℕ) → IsInstance instance →
    IsTagOf instance t →
    IsPartial instance literals → IsCalm instance (mode_level t) literals →
    IsCountedSum instance (mode_level t) literals n →
    Dead instance t literals ↔ ((t ≡ least_tag)
    ⊎ (IsTrue (has_limit t) × (pair_code (limit_of t) ≤ n)))

-- The sum of a level is one number.
abbrev pub OneBound : Type 0
OneBound = (instance : Instance) (level : ℕ) (literals : List Literal) (m n : ℕ) →
    IsCountedSum instance level literals m → IsCountedSum instance level literals n → m ≡ n
