-- Lists that are put in order by a number of their elements.
use Rattle.std.proofs.Common.{◌≡◌, ◌≢◌, ℕ, ◌<◌, ◌≤◌, eqb, List, map, get_or, sym, ◌∙◌, inl, inr, arith, AllPairs}
use Rattle.std.specs.List.Sorted.{IsPermutation, IsNonDecreasingBy}
use Rattle.std.proofs.lemmas.Bool.{cases_eq, eq-eqb, ne_eqb}
use Rattle.std.proofs.lemmas.Bool.Decides.{Decides-eqb}
use Rattle.std.proofs.lemmas.List.{length-map, get_or-map}
use Rattle.std.proofs.lemmas.List.Sorted.{IsPermutation-map}
use Rattle.std.proofs.lemmas.Map.Keys.{IsDistinct-IsPermutation}
use Rattle.std.proofs.lemmas.Map.Made.{AllPairs-from_IsDistinct, IsDistinct-from_AllPairs}
use Rattle.fapp_model.proofs.InOrder.{pairs-map}

flips : (x y : ℕ) → eqb x y ≡ eqb y x
flips x y = elim (cases_eq x y) [
  | inl same ↦ eq-eqb x y same ∙ sym (eq-eqb y x (sym same))
  | inr apart ↦ ne_eqb x y apart ∙ sym (ne_eqb y x (λ e. apart (sym e)))
]

-- elements of different ranks rise once they are in order
pub rising_ranks : {X : Type 0} (rank : X → ℕ) (xs ys : List X) → AllPairs (λ a b. rank a ≢ rank b) xs → IsPermutation xs ys → IsNonDecreasingBy rank ys → AllPairs (λ a b. rank a < rank b) ys
rising_ranks rank xs ys apart moved ordered i j d before inside =
    let distinct = IsDistinct-IsPermutation eqb flips (map rank xs) (map rank ys) (IsPermutation-map rank xs ys moved)
    (IsDistinct-from_AllPairs Decides-eqb (map rank xs) (pairs-map (λ a b. a ≢ b) rank xs apart)) in
    let differ : get_or (map rank ys) i 0 ≢ get_or (map rank ys) j 0 = AllPairs-from_IsDistinct Decides-eqb (map rank ys) distinct i j 0 before (omega (arith, length-map ys rank)) in
    let at_i = get_or-map rank ys i d 0 (omega arith) in
    let at_j = get_or-map rank ys j d 0 inside in
    let most : rank (get_or ys i d) ≤ rank (get_or ys j d) = ordered i j d (omega arith) inside in
    let apart : rank (get_or ys i d) ≢ rank (get_or ys j d) = λ e. differ (at_i ∙ (e ∙ sym at_j)) in
    omega arith
