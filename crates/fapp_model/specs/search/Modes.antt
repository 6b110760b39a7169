-- What a tag asks of an assignment that costs less.
use Rattle.std.specs.Prelude.{◌≡◌, ℕ, ◌-◌, List, IsTrue}
use Rattle.fapp_model.specs.declared.instance.Instance.{Instance}
use Rattle.fapp_model.specs.declared.triple.Triple.{Triple}
use Rattle.fapp_model.specs.Costs.{sum_under, violations}
use Rattle.fapp_model.specs.search.Pairs.{Pair, IsPairBelow, limit_of}
use Rattle.fapp_model.specs.Tags.{has_limit, mode_level}

-- a plan's violations one level below a level, and their sum further below
abbrev pub pair_below : Instance → List ℕ → ℕ → Pair
pair_below instance plan level =
    record {
      v = violations instance plan (level - 1);
      s = sum_under (violations instance plan) (level - 1);
    }

-- no violation at the tag's level, and where the tag has a limit the violations further below stay
-- below it
pub record IsWithin (instance : Instance) (t : Triple) (plan : List ℕ) : Type 0 where
  pub clear : violations instance plan (mode_level t) ≡ 0
  pub limited : IsTrue (has_limit t) → IsPairBelow (pair_below instance plan (mode_level t))
      (limit_of t)
