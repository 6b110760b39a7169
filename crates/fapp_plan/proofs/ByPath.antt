-- Literals that are put in order by their paths.
use Rattle.std.proofs.Common.{◌≡◌, ◌≢◌, ◌⊎◌, ℕ, suc, ◌+◌, ◌<◌, ◌≤◌, false, ltb, List, [], ◌∷◌, length, get_or, All, AllPairs, Contains, refl, ap, ◌∙◌, subst, inl, inr, ⊎_elim, arith}
use Rattle.std.specs.List.{AllAdjacentBelow}
use Rattle.std.specs.List.Sorted.{IsPermutation}
use Rattle.std.proofs.lemmas.Bool.{cases_Bool, ltb-true}
use Rattle.std.proofs.lemmas.Bool.Decides.{nat_tests}
use Rattle.std.proofs.lemmas.List.Elements.{All-head, All-tail, All-contains}
use Rattle.std.proofs.lemmas.List.Sorted.{Contains-permutation, IsPermutation-sym, IsNonDecreasingBy-from_all_adjacent}
use Rattle.fapp_model.specs.declared.literal.Literal.{Literal}
use Rattle.fapp_model.proofs.InOrder.{pairs-nil, pairs-head, pairs-tail, pairs-cons, same_members}
use Rattle.fapp_model.proofs.Members.{at_front, behind, front_or_behind, no_member, All-from_members}
use Rattle.fapp_tables.proofs.RankLaws.{rising_ranks}
use Rattle.fapp_plan.specs.Sorting.{IsNotAfter, by_path, put_by_path}

from-put : (a : Literal) (bs : List Literal) (x : Literal) → Contains (put_by_path a bs) x → (a ≡ x) ⊎ Contains bs x
from-put a [] x h = front_or_behind a [] x h
from-put a (b ∷ bs) x h = ⊎_elim
    (λ yes. front_or_behind a (b ∷ bs) x (rw yes at h))
    (λ past. ⊎_elim
    (λ e. inr (subst (λ z. Contains (b ∷ bs) z) e (at_front b bs)))
    (λ later. ⊎_elim (λ e. inl e) (λ m. inr (behind b bs x m)) (from-put a bs x later))
    (front_or_behind b (put_by_path a bs) x (rw past at h)))
    (cases_Bool (ltb a.path b.path))

in-put : (a : Literal) (bs : List Literal) (x : Literal) → (a ≡ x) ⊎ Contains bs x → Contains (put_by_path a bs) x
in-put a [] x h = ⊎_elim (λ e. subst (λ z. Contains (a ∷ []) z) e (at_front a [])) (λ m. absurd (no_member x m)) h
in-put a (b ∷ bs) x h = ⊎_elim
    (λ yes. rw yes (⊎_elim (λ e. subst (λ z. Contains (a ∷ b ∷ bs) z) e (at_front a (b ∷ bs))) (λ m. behind a (b ∷ bs) x m) h))
    (λ past. rw past (⊎_elim
    (λ e. behind b (put_by_path a bs) x (in-put a bs x (inl e)))
    (λ m. ⊎_elim
    (λ e. subst (λ z. Contains (b ∷ put_by_path a bs) z) e (at_front b (put_by_path a bs)))
    (λ later. behind b (put_by_path a bs) x (in-put a bs x (inr later)))
    (front_or_behind b bs x m))
    h))
    (cases_Bool (ltb a.path b.path))

length-put : (a : Literal) (bs : List Literal) → length (put_by_path a bs) ≡ suc (length bs)
length-put a [] = refl
length-put a (b ∷ bs) = ⊎_elim
    (λ yes. rw yes refl)
    (λ past. rw past (ap suc (length-put a bs)))
    (cases_Bool (ltb a.path b.path))

pub from-by_path : (xs : List Literal) (x : Literal) → Contains (by_path xs) x → Contains xs x
from-by_path [] x h = h
from-by_path (y ∷ xs) x h = ⊎_elim
    (λ e. subst (λ z. Contains (y ∷ xs) z) e (at_front y xs))
    (λ m. behind y xs x (from-by_path xs x m))
    (from-put y (by_path xs) x h)

pub in-by_path : (xs : List Literal) (x : Literal) → Contains xs x → Contains (by_path xs) x
in-by_path [] x h = h
in-by_path (y ∷ xs) x h = in-put y (by_path xs) x
    (⊎_elim (λ e. inl e) (λ m. inr (in-by_path xs x m)) (front_or_behind y xs x h))

pub length-by_path : (xs : List Literal) → length (by_path xs) ≡ length xs
length-by_path [] = refl
length-by_path (x ∷ xs) = length-put x (by_path xs) ∙ ap suc (length-by_path xs)

abbrev Rise : Literal → Literal → Type 0
Rise a b = a.path < b.path

ordered-put : (a : Literal) (bs : List Literal) → All (λ b. a.path ≢ b.path) bs → AllPairs Rise bs → AllPairs Rise (put_by_path a bs)
ordered-put a [] apart h = pairs-cons Rise a [] (λ k d l. absurd (omega arith)) h
ordered-put a (b ∷ bs) apart h =
    let front : All (Rise b) bs = pairs-head Rise b bs h in
    let other : a.path ≢ b.path = All-head (λ y. a.path ≢ y.path) b bs apart in
    ⊎_elim
    (λ yes.
    let low : a.path < b.path = ltb-true a.path b.path yes in
    rw yes (pairs-cons Rise a (b ∷ bs) (above a b bs low front) h))
    (λ past.
    let low : b.path < a.path = above_by a.path b.path past other in
    rw past (pairs-cons Rise b (put_by_path a bs)
    (All-from_members (Rise b) (put_by_path a bs) (λ y m. ⊎_elim
    (λ e. subst (λ (z : Literal). b.path < z.path) e low)
    (λ later. All-contains (Rise b) bs y front later)
    (from-put a bs y m)))
    (ordered-put a bs (All-tail (λ y. a.path ≢ y.path) b bs apart) (pairs-tail Rise b bs h))))
    (cases_Bool (ltb a.path b.path))
  where
    above : (a b : Literal) (bs : List Literal) → a.path < b.path → All (Rise b) bs → All (Rise a) (b ∷ bs)
    above a b bs low front = All-from_members (Rise a) (b ∷ bs) (λ y m. ⊎_elim
        (λ e. subst (λ (z : Literal). a.path < z.path) e low)
        (λ later. let high : b.path < y.path = All-contains (Rise b) bs y front later in omega arith)
        (front_or_behind b bs y m))

    above_by : (x y : ℕ) → ltb x y ≡ false → x ≢ y → y < x
    above_by x y below other = grind (arith, nat_tests)

pub ordered-by_path : (xs : List Literal) → AllPairs (λ a b. a.path ≢ b.path) xs → AllPairs Rise (by_path xs)
ordered-by_path [] h = pairs-nil Rise
ordered-by_path (x ∷ xs) h =
    ordered-put x (by_path xs)
    (All-from_members (λ y. x.path ≢ y.path) (by_path xs) (λ y m. All-contains (λ z. x.path ≢ z.path) xs y (pairs-head (λ (u : Literal) (v : Literal). u.path ≢ v.path) x xs h) (from-by_path xs y m)))
    (ordered-by_path xs (pairs-tail (λ (u : Literal) (v : Literal). u.path ≢ v.path) x xs h))

-- literals in order are those by path
pub sorted-by_path : (xs sorted : List Literal) → AllPairs (λ a b. a.path ≢ b.path) xs → IsPermutation xs sorted → AllAdjacentBelow IsNotAfter sorted (length sorted) → sorted ≡ by_path xs
sorted-by_path xs sorted apart moved ordered =
    let rises : AllPairs Rise sorted = rising_ranks (λ (a : Literal). a.path) xs sorted apart moved
    (IsNonDecreasingBy-from_all_adjacent (λ (a : Literal). a.path) sorted (λ k d inside. no_lower (get_or sorted k d) (get_or sorted (k + 1) d) (ordered k d inside))) in
    same_members Rise (λ a b h k. omega arith) sorted (by_path xs) rises (ordered-by_path xs apart)
    (λ x m. in-by_path xs x (Contains-permutation sorted xs x (IsPermutation-sym xs sorted moved) m))
    (λ x m. Contains-permutation xs sorted x moved (from-by_path xs x m))
  where
    no_lower : (a b : Literal) → IsNotAfter a b → a.path ≤ b.path
    no_lower a b (inl less) = omega arith
    no_lower a b (inr (same, most)) = omega arith
