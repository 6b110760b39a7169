-- Seats that are joined one after another, the last first.
use Rattle.std.proofs.Common.{◌≡◌, inl, inr, ⊎_elim, ℕ, ◌≤◌, min, List, [], ◌∷◌, ◌++◌, All, Contains, refl, sym, ap, ◌∙◌, subst, arith, le_trans}
use Rattle.std.proofs.lemmas.List.{append_assoc}
use Rattle.std.proofs.lemmas.List.Elements.{All-cons, All-contains, All-contains_itself, All-nil, All-weaker, Contains-append_left, Contains-append_right, Contains-append_cases}
use Rattle.best_word.specs.declared.view.BestView.{BestView}
use Rattle.best_word.specs.declared.seat.BestSeat.{BestSeat}
use Rattle.best_word.specs.Bound.{after_join, top_code}
use Rattle.best_word.specs.Seats.{view_of, IsLeastOf, IsLeastOfAll, IsOfferedByOne, IsTopOfOne}

-- The joined view knows no more than the least of each seat that is no more among the rest, its offers are just those of these,
-- it has what they found, and its levels are those of one of them.
pub record IsJoined (all rest : List BestSeat) (v : BestView) : Type 0 where
  pub gone : List BestSeat
  pub parts : all ≡ rest ++ gone
  pub least : All (λ seat. v.least ≤ (view_of seat).least) gone
  pub top : IsTopOfOne gone (top_code v.levels)
  pub offered : (n : ℕ) → Contains v.offers n → IsOfferedByOne gone n
  pub offers : All (λ seat. All (Contains v.offers) (view_of seat).offers) gone
  pub found : All (λ seat. All (Contains v.found) (view_of seat).found) gone

contains-head : (seat : BestSeat) (gone : List BestSeat) → Contains (seat ∷ gone) seat
contains-head seat gone = (0, omega arith, refl)

offered-head : (seat : BestSeat) (gone : List BestSeat) (n : ℕ) → Contains (view_of seat).offers n → IsOfferedByOne (seat ∷ gone) n
offered-head seat gone n has = record { seat = seat; among = contains-head seat gone; offered = has }

offered-behind : (seat : BestSeat) (gone : List BestSeat) (n : ℕ) → IsOfferedByOne gone n → IsOfferedByOne (seat ∷ gone) n
offered-behind seat gone n h = record { seat = h.seat; among = Contains-append_right (seat ∷ []) gone h.seat h.among; offered = h.offered }

pub joined-first : (all rest : List BestSeat) (seat : BestSeat) → all ≡ rest ++ seat ∷ [] → IsJoined all rest (view_of seat)
joined-first all rest seat e = record {
  gone = seat ∷ [];
  parts = e;
  least = All-cons (λ (s : BestSeat). (view_of seat).least ≤ (view_of s).least) seat [] (omega arith) (All-nil _);
  top = record { seat = seat; among = contains-head seat []; top = refl };
  offered = offered-head seat [];
  offers = All-cons (λ (s : BestSeat). All (Contains (view_of seat).offers) (view_of s).offers) seat [] (All-contains_itself (view_of seat).offers) (All-nil _);
  found = All-cons (λ (s : BestSeat). All (Contains (view_of seat).found) (view_of s).found) seat [] (All-contains_itself (view_of seat).found) (All-nil _);
}

-- what stands in one list stands in both together
in-left : (xs ys some : List ℕ) → All (Contains xs) some → All (Contains (xs ++ ys)) some
in-left xs ys some all = All-weaker (Contains xs) (Contains (xs ++ ys)) (λ n c. Contains-append_left xs ys n c) some all

in-right : (xs ys : List ℕ) → All (Contains (xs ++ ys)) ys
in-right xs ys = All-weaker (Contains ys) (Contains (xs ++ ys)) (λ n c. Contains-append_right xs ys n c) ys (All-contains_itself ys)

pub joined-more : (all some rest : List BestSeat) (seat : BestSeat) (v : BestView) → some ≡ rest ++ seat ∷ [] → IsJoined all some v → IsJoined all rest (after_join v (view_of seat))
joined-more all some rest seat v e h =
    let w : BestView = view_of seat in
    let m : ℕ = min v.least w.least in
    let mv : m ≤ v.least = omega arith in
    let mw : m ≤ w.least = omega arith in
    record {
      gone = seat ∷ h.gone;
      parts = h.parts ∙ (ap (λ (xs : List BestSeat). xs ++ h.gone) e ∙ append_assoc rest (seat ∷ []) h.gone);
      least = All-cons (λ (s : BestSeat). m ≤ (view_of s).least) seat h.gone mw (All-weaker (λ (s : BestSeat). v.least ≤ (view_of s).least) (λ (s : BestSeat). m ≤ (view_of s).least) (λ s low. le_trans mv low) h.gone h.least);
      top = record { seat = h.top.seat; among = Contains-append_right (seat ∷ []) h.gone h.top.seat h.top.among; top = h.top.top };
      offered = λ n has. ⊎_elim (λ c. offered-behind seat h.gone n (h.offered n c)) (λ c. offered-head seat h.gone n c) (Contains-append_cases v.offers w.offers n has);
      offers = All-cons (λ (s : BestSeat). All (Contains (v.offers ++ w.offers)) (view_of s).offers) seat h.gone (in-right v.offers w.offers)
          (All-weaker (λ (s : BestSeat). All (Contains v.offers) (view_of s).offers) (λ (s : BestSeat). All (Contains (v.offers ++ w.offers)) (view_of s).offers) (λ s c. in-left v.offers w.offers (view_of s).offers c) h.gone h.offers);
      found = All-cons (λ (s : BestSeat). All (Contains (v.found ++ w.found)) (view_of s).found) seat h.gone (in-right v.found w.found)
          (All-weaker (λ (s : BestSeat). All (Contains v.found) (view_of s).found) (λ (s : BestSeat). All (Contains (v.found ++ w.found)) (view_of s).found) (λ s c. in-left v.found w.found (view_of s).found c) h.gone h.found);
    }

low-all : (n : ℕ) (all some : List ℕ) → All (λ m. n ≤ m) all → All (Contains all) some → All (λ m. n ≤ m) some
low-all n all some low has = All-weaker (Contains all) (λ m. n ≤ m) (λ m c. All-contains (λ k. n ≤ k) all m low c) some has

pub joined-all : (all : List BestSeat) (v : BestView) (n : ℕ) → IsJoined all [] v → IsLeastOf v n → IsLeastOfAll all n
joined-all all v n h is = record {
  from = ⊎_elim
      (λ t. inl (record { seat = h.top.seat; among = subst (λ xs. Contains xs h.top.seat) (sym h.parts) h.top.among; top = t ∙ h.top.top }))
      (λ c. let one = h.offered n c in inr (record { seat = one.seat; among = subst (λ xs. Contains xs one.seat) (sym h.parts) one.among; offered = one.offered }))
      is.from;
  least = subst (All (λ (s : BestSeat). n ≤ (view_of s).least)) (sym h.parts)
      (All-weaker (λ (s : BestSeat). v.least ≤ (view_of s).least) (λ (s : BestSeat). n ≤ (view_of s).least) (λ s low. le_trans is.least low) h.gone h.least);
  offers = subst (All (λ (s : BestSeat). All (λ m. n ≤ m) (view_of s).offers)) (sym h.parts)
      (All-weaker (λ (s : BestSeat). All (Contains v.offers) (view_of s).offers) (λ (s : BestSeat). All (λ m. n ≤ m) (view_of s).offers) (λ s c. low-all n v.offers (view_of s).offers is.offers c) h.gone h.offers);
  found = subst (All (λ (s : BestSeat). All (λ m. n ≤ m) (view_of s).found)) (sym h.parts)
      (All-weaker (λ (s : BestSeat). All (Contains v.found) (view_of s).found) (λ (s : BestSeat). All (λ m. n ≤ m) (view_of s).found) (λ s c. low-all n v.found (view_of s).found is.found c) h.gone h.found);
}
