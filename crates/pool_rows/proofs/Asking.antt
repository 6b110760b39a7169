-- One row is asked for.
use Rattle.std.proofs.Common.{◌≡◌, ◌⊎◌, ⊎_elim, ℕ, zero, suc, ◌+◌, ◌<◌, ◌≤◌, true, false, List, [], ◌∷◌, ◌++◌, map, drop, get_or, sum_by, Contains, Option, Some, None, sym, ap, ◌∙◌, subst, inl, inr, arith}
use Rattle.std.proofs.lemmas.Bool.Decides.{nat_tests}
use mathlib.Core.Logic.{dite}
use native.Mathlib.Decide.{ℕ_discrete}
use Rattle.nogood_pool.proofs.Cells.{once_else}
use Rattle.std.proofs.lemmas.Bool.{cases_order}
use Rattle.std.proofs.lemmas.List.{get_or-map, get_or_default, length-map}
use Rattle.std.proofs.lemmas.List.Elements.{Contains-append_cases, Contains-append_left, Contains-append_right}
use Rattle.std.proofs.lemmas.List.Sums.{sum_by-cons}
use Rattle.fapp_model.proofs.Members.{at_front, behind, front_or_behind, no_member}
use Rattle.nogood.specs.declared.row.Row.{Row}
use Rattle.search_log.specs.Contents.{KnownRow}
use Rattle.search_log.specs.declared.shared.Cite.{Cite}
use Rattle.search_log.specs.Shares.{HaveOneContent}
use Rattle.nogood_pool.specs.declared.view.HeldRow.{HeldRow}
use Rattle.nogood_pool.specs.declared.view.PoolView.{PoolView}
use Rattle.nogood_pool.specs.Pool.{below, held_row, once}
use Rattle.nogood_pool.specs.Seats.{Gets, SeatReads}
use Rattle.nogood_pool.specs.PoolSteps.{AreRowsApart}
use Rattle.pool_rows.specs.Copying.{TakesRow, all_known, cite_of, held_known}

-- ---- what a load answers

gets-here : (v : PoolView) (row : ℕ) (o : Option Row) (w : PoolView) → row < v.counter → Gets v row o w → SeatReads v row o w
gets-here v row o w low h = ⊎_elim (λ here. here.1) (λ later. absurd (omega (arith, low, later.0))) h

pub takes-some : (v : PoolView) (row : ℕ) (r : Row) (w : PoolView) (old new : List Cite) → row < v.counter → Gets v row (Some r) w → new ≡ old ++ cite_of row r ∷ [] → TakesRow v row true old w new
takes-some v row r w old new low h is = let reads = gets-here v row (Some r) w low h in (r, reads.0, reads.1, reads.2, is)

pub takes-none : (v : PoolView) (row : ℕ) (w : PoolView) (old new : List Cite) → row < v.counter → Gets v row None w → new ≡ old → TakesRow v row false old w new
takes-none v row w old new low h is =
    let reads = gets-here v row None w low h in
    (reads.0, λ held m same. reads.1 held.content (inl (subst (λ n. Contains v.published (held_row n held.content)) same m)), is)

-- ---- members of mapped lists

pub from-map : {X Y : Type 0} (f : X → Y) (xs : List X) (y : Y) → Contains (map f xs) y → (x : X) × Contains xs x × (f x ≡ y)
from-map f [] y m = absurd (no_member y m)
from-map f (x ∷ xs) y m = ⊎_elim
    (λ here. (x, at_front x xs, here))
    (λ later. let r = from-map f xs y later in (r.0, behind x xs r.0 r.1, r.2))
    (front_or_behind (f x) (map f xs) y m)

pub to-map : {X Y : Type 0} (f : X → Y) (xs : List X) (x : X) → Contains xs x → Contains (map f xs) (f x)
to-map f xs x has = (has.0, omega (arith, has.1, length-map xs f), get_or-map f xs has.0 x (f x) has.1 ∙ ap f has.2)

pub from-drop : {X : Type 0} (k : ℕ) (xs : List X) (x : X) → Contains (drop k xs) x → Contains xs x
from-drop zero xs x m = m
from-drop (suc k) [] x m = m
from-drop (suc k) (y ∷ xs) x m = behind y xs x (from-drop k xs x m)

-- ---- one number has one content

pub apart-one : (held : List HeldRow) → AreRowsApart held → HaveOneContent (all_known held)
apart-one held apart a b ma mb same =
    let ra = from-map held_known held a ma in
    let rb = from-map held_known held b mb in
    let g = ra.0 in
    let h = rb.0 in
    let rows : g.row ≡ h.row = ap (λ (r : KnownRow). r.number) ra.2 ∙ (same ∙ sym (ap (λ (r : KnownRow). r.number) rb.2)) in
    let at-h : get_or held rb.1.0 g ≡ h = get_or_default held rb.1.0 g h rb.1.1 ∙ rb.1.2 in
    sym ra.2 ∙ (ap held_known (elim (cases_order ra.1.0 rb.1.0) [
      | inl here ↦ sym ra.1.2 ∙ (ap (λ k. get_or held k g) here ∙ at-h)
      | inr else ↦ absurd (elim else [
        | inl less ↦ apart ra.1.0 rb.1.0 g less rb.1.1 (ap (λ (x : HeldRow). x.row) ra.1.2 ∙ (rows ∙ sym (ap (λ (x : HeldRow). x.row) at-h)))
        | inr more ↦ apart rb.1.0 ra.1.0 g more ra.1.1 (ap (λ (x : HeldRow). x.row) at-h ∙ (sym rows ∙ sym (ap (λ (x : HeldRow). x.row) ra.1.2)))
      ])
    ]) ∙ rb.2)

-- one more row, in the middle
pub one-more : (xs ys : List KnownRow) (new : KnownRow) → HaveOneContent (xs ++ ys) → ((b : KnownRow) → Contains (xs ++ ys) b → b.number ≡ new.number → b ≡ new) → HaveOneContent ((xs ++ new ∷ []) ++ ys)
one-more xs ys new h alone a b ma mb same = elim (among a ma) [
  | inl new_a ↦ elim (among b mb) [
    | inl new_b ↦ new_a ∙ sym new_b
    | inr old_b ↦ new_a ∙ sym (alone b old_b (sym same ∙ ap (λ (r : KnownRow). r.number) new_a))
  ]
  | inr old_a ↦ elim (among b mb) [
    | inl new_b ↦ alone a old_a (same ∙ ap (λ (r : KnownRow). r.number) new_b) ∙ sym new_b
    | inr old_b ↦ h a b old_a old_b same
  ]
]
  where
    among : (a : KnownRow) → Contains ((xs ++ new ∷ []) ++ ys) a → (a ≡ new) ⊎ Contains (xs ++ ys) a
    among a m = ⊎_elim
        (λ front. ⊎_elim
        (λ old. inr (Contains-append_left xs ys a old))
        (λ last. inl (⊎_elim (λ here. sym here) (λ none. absurd (no_member a none)) (front_or_behind new [] a last)))
        (Contains-append_cases xs (new ∷ []) a front))
        (λ back. inr (Contains-append_right xs ys a back))
        (Contains-append_cases (xs ++ new ∷ []) ys a m)

-- ---- counts

pub below-zero : (row : ℕ) → below row 0 ≡ 0
below-zero row = grind (arith, nat_tests)

pub below-next : (row n : ℕ) → below row (n + 1) ≡ below row n + once row n
below-next row n = grind (arith, nat_tests)

pub below-one : (row n : ℕ) → row < n → below row n ≡ 1
below-one row n less = grind (arith, nat_tests)

pub below-past : (row n : ℕ) → n ≤ row → below row n ≡ 0
below-past row n more = grind (arith, nat_tests)

-- what is counted is there
pub counted-there : {X : Type 0} (f : X → ℕ) (row : ℕ) (xs : List X) → 0 < sum_by (λ x. once row (f x)) xs → (x : X) × Contains xs x × (f x ≡ row)
counted-there f row [] some = absurd (omega (arith, some))
counted-there f row (x ∷ xs) some = dite (ℕ_discrete row (f x))
    (λ here. (x, at_front x xs, sym here))
    (λ ne.
    let r = counted-there f row xs (omega (arith, some, sum_by-cons (λ y. once row (f y)) x xs, once_else row (f x) (λ e. ne (sym e)))) in
    (r.0, behind x xs r.0 r.1, r.2))
