-- Offers of an instance that no plan meets, for the tests.
use Rattle.std.proofs.Common.{◌≡◌, ◌<◌, ℕ, zero, suc, get_or, List, [], ◌∷◌, refl, arith}
use Rattle.std.proofs.lemmas.List.Elements.{All-cons, All-nil}
use Rattle.fapp_model.specs.declared.instance.Instance.{Instance}
use Rattle.fapp_model.specs.declared.literal.Literal.{Literal}
use Rattle.fapp_model.specs.search.Partials.{literal, AreLiterals, IsLiteral}
use Rattle.search_log.specs.Shares.{IsOffer}
use Rattle.nogood_pool.specs.Examples.{crowded, top_code}
use Rattle.nogood_pool.proofs.Crowding.{crowded-row-by}

pub crowded-offer : (instance : Instance) (lits : List Literal) (code : ℕ) → instance ≡ crowded [] → AreLiterals (crowded []) lits → code ≡ top_code → IsOffer instance lits code
crowded-offer instance lits code is formed top =
    let row = crowded-row-by instance [] lits lits code is refl top formed in
    record { above = row.above; own = row.tag; served = record { lits = row.literals; implied = row.implied } }

two-rise : (i j : ℕ) (d : Literal) → i < j → j < 2 → (get_or (literal 0 1 ∷ literal 2 1 ∷ []) i d).path < (get_or (literal 0 1 ∷ literal 2 1 ∷ []) j d).path
two-rise zero zero d less inside = absurd (omega arith)
two-rise zero (suc zero) d less inside = omega arith
two-rise zero (suc (suc j)) d less inside = absurd (omega arith)
two-rise (suc i) zero d less inside = absurd (omega arith)
two-rise (suc i) (suc zero) d less inside = absurd (omega arith)
two-rise (suc i) (suc (suc j)) d less inside = absurd (omega arith)

pub two-literals : AreLiterals (crowded []) (literal 0 1 ∷ literal 2 1 ∷ [])
unfolding crowded
two-literals = record {
  in_range = All-cons (IsLiteral (crowded [])) (literal 0 1) (literal 2 1 ∷ []) (record { path = omega arith; choice = omega arith })
      (All-cons (IsLiteral (crowded [])) (literal 2 1) [] (record { path = omega arith; choice = omega arith }) (All-nil _));
  ascending = two-rise;
}
