-- What holds of the bound on lines.
use Rattle.std.specs.Prelude.{◌≡◌, ℕ}
use Rattle.fapp_model.specs.declared.instance.Instance.{Instance}
use Rattle.fapp_model.specs.Instances.{IsInstance}
use Rattle.fapp_model.specs.search.LineBound.{IsMostLines}

-- The bound on lines is one number: at most one, and for a valid instance some.
pub record OneMostLines : Type 0 where
  pub some : (instance : Instance) (fuel split : ℕ) → IsInstance instance → (most : ℕ)
      × IsMostLines instance fuel split most
  pub one : (instance : Instance) (fuel split m n : ℕ) → IsMostLines instance fuel split m →
      IsMostLines instance fuel split n → m ≡ n
