-- What holds of arcs.
use Rattle.std.specs.Prelude.{◌↔◌, ℕ, Bool, IsTrue}
use Rattle.fapp_model.specs.declared.instance.Instance.{Instance}
use Rattle.fapp_model.specs.declared.literal.Literal.{Literal}
use Rattle.fapp_model.specs.search.Arcs.{InArc, IsSupported}
use Rattle.fapp_model.specs.Instances.{IsInstance}

-- The arcs of a level are themselves a supported family.
pub record IsArcs (instance : Instance) (level : ℕ) (family : Literal → Bool) : Type 0 where
  pub supported : IsSupported instance level family
  pub members : (a : Literal) → IsTrue (family a) ↔ InArc instance level a

abbrev pub ArcsAreSupported : Type 0
ArcsAreSupported =
    (instance : Instance) (level : ℕ) → IsInstance instance → (family : Literal → Bool)
    × IsArcs instance level family

-- Every supported family lies within them.
abbrev pub ArcsHaveEach : Type 0
ArcsHaveEach =
    (instance : Instance) (level : ℕ) (family : Literal → Bool) →
    IsSupported instance level family →
    (a : Literal) → IsTrue (family a) → InArc instance level a
