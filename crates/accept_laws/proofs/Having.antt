-- Lists that have literals.
use Rattle.std.proofs.Common.{◌≡◌, true, List, [], ◌∷◌, ap, arith}
use Rattle.fapp_model.specs.declared.instance.Instance.{Instance}
use Rattle.fapp_model.specs.declared.literal.Literal.{Literal}
use Rattle.fapp_model.specs.search.Partials.{AreLiterals, IsPartial}
use Rattle.cert_lines.specs.acceptance.Excluded.{is_only}
use Rattle.cert_lines.proofs.Having.{same-literals}

pub only-literal : (a : Literal) (literals : List Literal) → is_only a literals ≡ true → literals ≡ a ∷ []
only-literal a [] h = absurd (cc)
only-literal a (b ∷ []) h = ap (λ (x : Literal). x ∷ []) (same-literals b a h)
only-literal a (b ∷ c ∷ more) h = absurd (cc)

-- the literals of a line are a partial assignment
pub formed-partial : (instance : Instance) (literals : List Literal) → AreLiterals instance literals → IsPartial instance literals
formed-partial instance literals h = record {
  in_range = h.in_range;
  distinct = λ i j d less small same. let below = h.ascending i j d less small in omega arith;
}
