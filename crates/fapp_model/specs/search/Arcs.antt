-- Choices that keep a partner on each path that shares a record with their own.
use Rattle.std.specs.Prelude.{◌≡◌, ℕ, Bool, false, IsTrue}
use Rattle.fapp_model.specs.declared.instance.Instance.{Instance}
use Rattle.fapp_model.specs.declared.literal.Literal.{Literal}
use Rattle.fapp_model.specs.search.Clashes.{shares_record, clashes}
use Rattle.fapp_model.specs.search.Partials.{literal, IsLiteral}

-- some choice of a path is in the family, with no hard-bad record between it and the literal
pub record HasPartner (instance : Instance) (level : ℕ) (family : Literal →
    Bool) (a : Literal) (path : ℕ) : Type 0 where
  pub index : ℕ
  pub member : IsTrue (family (literal path index))
  pub apart : clashes instance level a (literal path index) ≡ false

-- a family of choices, each of which has a partner in it on each path that shares a record with its
-- own
pub record IsSupported (instance : Instance) (level : ℕ) (family : Literal → Bool) : Type 0 where
  pub in_range : (a : Literal) → IsTrue (family a) → IsLiteral instance a
  pub supported : (a : Literal) (path : ℕ) → IsTrue (family a) →
      IsTrue (shares_record instance a.path path) →
      HasPartner instance level family a path

-- the choices of a level's arcs: those of all supported families
abbrev pub InArc : Instance → ℕ → Literal → Type 0
InArc instance level a =
    (family : Literal → Bool) × IsSupported instance level family × IsTrue (family a)

abbrev pub OutsideArc : Instance → ℕ → Literal → Type 0
OutsideArc instance level a = InArc instance level a → ⊥
