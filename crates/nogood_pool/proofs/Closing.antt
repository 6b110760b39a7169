-- The first state, and the steps by which seats are cut, put together and ended, keep the rule.
use Rattle.std.proofs.Common.{◌≡◌, ◌≢◌, ◌⊎◌, ⊎_elim, ℕ, zero, suc, ◌+◌, ◌-◌, ◌*◌, ◌/◌, ◌<◌, ◌≤◌, true, false, List, [], ◌∷◌, ◌++◌, get_or, set, length, max, replicate, sym, refl, ap, ◌∙◌, subst, arith, le_refl, None}
use Rattle.seat_laws.specs.declared.TheConstants.{WHOLE_SHARE}
use mathlib.Core.Logic.{dite}
use mathlib.Core.Option.{none, some, some-injective, some-ne-none}
use native.Mathlib.Decide.{ℕ_discrete}
use lib.ListN.{get_elem?}
use Rattle.std.specs.List.{All, Contains}
use Rattle.std.specs.List.{All, AllPairs, Contains, sum_by}
use Rattle.std.proofs.Common.{Option, Some, IfSome}
use Rattle.nogood_pool.specs.declared.view.RowInWriting.{RowInWriting}
use Rattle.std.proofs.lemmas.List.Elements.{All-nil, All-append, All-contains, All-weaker, All-contains_itself, Contains-append_left, Contains-append_right}
use Rattle.std.proofs.lemmas.List.Sums.{sum_by-cons, sum_by_push, sum_by-append}
use Rattle.atomic_table.specs.Table.{step, keeps, opening, Allows, Splits, Joins, Final, Seen}
use Rattle.atomic_table.proofs.Lists.{at_set, at_snoc, at_longer, set_else}
use Rattle.fapp_model.specs.declared.instance.Instance.{Instance}
use Rattle.nogood.specs.declared.row.Row.{Row}
use Rattle.nogood_pool.specs.declared.view.HeldRow.{HeldRow}
use Rattle.nogood_pool.specs.declared.view.PoolView.{PoolView}
use Rattle.nogood_pool.specs.Pool.{Words, IsPool, IsHeld, IsRowInWriting, FitsPool, cell, Live, is_spent, share_of, counter_of, times, written, once, held_row, first_view, kept_half, given_half, after_join, spent_view}
use Rattle.nogood_pool.specs.PoolSteps.{Mine, HasPart}
use Rattle.nogood_pool.specs.Ends.{IsWholePool, RowsAreImplied, RowsStay}
use Rattle.nogood_pool.proofs.Cells.{once_same, times_live, not_below, below_most}
use Rattle.nogood_pool.proofs.Views.{alone}
use Rattle.nogood_pool.proofs.Contents.{one_content}
use Rattle.seat_laws.specs.Shares.{part_of}
use Rattle.seat_laws.proofs.Views.{same_view, set_at, live_set, live_else, part_live, shared_split, shared_join}
use Rattle.nogood_pool.proofs.Keeps.{live_me, looked}
use Rattle.std.proofs.lemmas.List.{length-replicate}
use Rattle.seat_laws.proofs.Sums.{sum_set, one_within}

zeros : (n i z : ℕ) → z ≡ 0 → get_or (replicate n z) i 0 ≡ z
zeros zero i z e = sym e
zeros (suc n) zero z e = refl
zeros (suc n) (suc i) z e = zeros n i z e

pub opens : (rows : ℕ) (instance : Instance) (ws : List ℕ) → ws ≡ replicate (1 + 9 * rows) 0 → IsPool rows instance (opening {S = Row} ws [] (first_view rows instance))
opens rows instance ws e = subst (λ (xs : List ℕ). IsPool rows instance (opening {S = Row} xs [] (first_view rows instance))) (sym e) (record {
  width = length-replicate (1 + 9 * rows) 0;
  counter = rw (zeros (1 + 9 * rows) 0 0 refl) (omega arith);
  fits = λ j v l. subst (FitsPool rows instance (replicate (1 + 9 * rows) 0)) (only j v l.there) first_fits;
  reached = (0, first_view rows instance, record { there = refl; unspent = refl }, sym (zeros (1 + 9 * rows) 0 0 refl));
  owners = λ q. sym (not_below q (counter_of (replicate (1 + 9 * rows) 0)) (rw (zeros (1 + 9 * rows) 0 0 refl) (omega arith)));
  fresh = λ q k _ _ _. zeros (1 + 9 * rows) (1 + 9 * q + k) 0 refl;
  owned = λ q lt tagged. absurd (tagged (zeros (1 + 9 * rows) (1 + 9 * q + 0) 0 refl));
  shares = record { parts = λ j v l. subst (λ (u : PoolView). 1 ≤ u.share) (only j v l.there) (omega arith); sum = refl };
})
  where
    first_fits : FitsPool rows instance (replicate (1 + 9 * rows) 0) (first_view rows instance)
    first_fits = record { instance_is = refl; rows_are = refl; counter = omega arith; writing = tt; published = All-nil (IsHeld instance (replicate (1 + 9 * rows) 0)); seen = All-nil (IsHeld instance (replicate (1 + 9 * rows) 0)) }

    only : (j : ℕ) (v : PoolView) → get_elem? (first_view rows instance ∷ []) j ≡ some v → first_view rows instance ≡ v
    only zero v at = some-injective (first_view rows instance) v at
    only (suc j) v at = absurd (some-ne-none v (sym at))

pub implies : (rows : ℕ) (instance : Instance) (s : Words) → IsPool rows instance s → RowsAreImplied rows instance s
implies rows instance s b = record {
  tagged = λ row lt tagged. let o = b.owned row lt tagged in (o.3, All-contains (IsHeld instance s.words) o.1.published (held_row row o.3) (b.fits o.0 o.1 o.2).published o.4);
  published = λ j v l. (b.fits j v l).published;
  seen = λ j v l. (b.fits j v l).seen;
}

-- a row without a tag is none of those that hold a content
apart_row : (instance : Instance) (ws : List ℕ) (o : Option RowInWriting) (known : List HeldRow) → IfSome o (IsRowInWriting instance ws) → All (IsHeld instance ws) known → IfSome o (λ w. All (λ h. h.row ≢ w.row) known)
apart_row instance ws None known is all = tt
apart_row instance ws (Some w) known is all = All-weaker (IsHeld instance ws) (λ h. h.row ≢ w.row) (λ h held_there. held_apart_from h held_there) known all
  where
    held_apart_from : (h : HeldRow) → IsHeld instance ws h → h.row ≢ w.row
    held_apart_from h there e =
        let above = there.valid.above in
        let tag : cell ws h.row 0 ≡ h.content.tag = there.tag in
        let none_yet : cell ws w.row 0 ≡ 0 = is.tag in
        let same : cell ws h.row 0 ≡ cell ws w.row 0 = ap (λ (q : ℕ). cell ws q 0) e in
        absurd (omega arith)

pub stays : (rows : ℕ) (instance : Instance) (s : Words) → IsPool rows instance s → RowsStay s
stays rows instance s b = record {
  published = λ i v l j u k. apart_row instance s.words v.writing u.published (b.fits i v l).writing (b.fits j u k).published;
  seen = λ i v l j u k. apart_row instance s.words v.writing u.seen (b.fits i v l).writing (b.fits j u k).seen;
}

-- rows that stand once each are distinct
once-distinct : (hs : List HeldRow) → ((row : ℕ) → sum_by (λ h. once row h.row) hs ≤ 1) → AllPairs (λ g h. g.row ≢ h.row) hs
once-distinct hs few i j d less small e = absurd (let two = two_terms hs i j d less small (get_or hs i d).row refl (sym e) in let most = few (get_or hs i d).row in omega arith)
  where
    one_term : (xs : List HeldRow) (j : ℕ) (d : HeldRow) → j < length xs → (row : ℕ) → (get_or xs j d).row ≡ row → 1 ≤ sum_by (λ h. once row h.row) xs
    one_term [] j d small row is = absurd (omega arith)
    one_term (x ∷ xs) zero d small row is = let o = once_same row x.row is in omega (arith, sum_by-cons (λ (h : HeldRow). once row h.row) x xs)
    one_term (x ∷ xs) (suc j) d small row is = let o = one_term xs j d (omega arith) row is in omega (arith, sum_by-cons (λ (h : HeldRow). once row h.row) x xs)

    two_terms : (xs : List HeldRow) (i j : ℕ) (d : HeldRow) → i < j → j < length xs → (row : ℕ) → (get_or xs i d).row ≡ row → (get_or xs j d).row ≡ row → 2 ≤ sum_by (λ h. once row h.row) xs
    two_terms [] i j d less small row is js = absurd (omega arith)
    two_terms (x ∷ xs) zero zero d less small row is js = absurd (omega arith)
    two_terms (x ∷ xs) zero (suc j) d less small row is js = let o = once_same row x.row is in let p = one_term xs j d (omega arith) row js in omega (arith, sum_by-cons (λ (h : HeldRow). once row h.row) x xs)
    two_terms (x ∷ xs) (suc i) zero d less small row is js = absurd (omega arith)
    two_terms (x ∷ xs) (suc i) (suc j) d less small row is js = let o = two_terms xs i j d (omega arith) (omega arith) row is js in omega (arith, sum_by-cons (λ (h : HeldRow). once row h.row) x xs)

pub splits : (rows : ℕ) (instance : Instance) (id : ℕ) (v : PoolView) → v.spent ≡ false → v.writing ≡ None → 2 ≤ v.share → Splits (IsPool rows instance) id v (kept_half v) (given_half v)
splits rows instance id v un idle two s b at =
    let l : Live s.views id v = live_me s id v un at in
    let left : PoolView = kept_half v in
    let right : PoolView = given_half v in
    let vs : List PoolView = set s.views id left in
    let f : FitsPool rows instance s.words v = b.fits id v l in
    let half : 1 ≤ v.share / 2 = omega arith in
    let other_half : 1 ≤ v.share - v.share / 2 = omega arith in
    let left_fits : FitsPool rows instance s.words left = record { instance_is = f.instance_is; rows_are = f.rows_are; counter = f.counter; writing = f.writing; published = f.published; seen = f.seen } in
    let right_fits : FitsPool rows instance s.words right = record { instance_is = f.instance_is; rows_are = f.rows_are; counter = f.counter; writing = tt; published = All-nil (IsHeld instance s.words); seen = All-append (IsHeld instance s.words) v.published v.seen f.published f.seen } in
    let here : Live vs id left = record { there = set_at s.views id v left at; unspent = refl } in
    let further : (j : ℕ) (u : PoolView) → Live vs j u → Live (vs ++ right ∷ []) j u = λ j u lu. record { there = at_longer vs (right ∷ []) j u lu.there; unspent = lu.unspent } in
    record {
      width = b.width;
      counter = b.counter;
      fits = λ j u lu. ⊎_elim
          (λ h. ⊎_elim (λ (t : (j ≡ id) × (left ≡ u)). subst (FitsPool rows instance s.words) t.1 left_fits) (λ (t : (j ≢ id) × Live s.views j u). b.fits j u t.1) (live_set is_spent s.views id left j u (record { there = h; unspent = lu.unspent })))
          (λ e. subst (FitsPool rows instance s.words) e right_fits)
          (at_snoc vs right u j lu.there);
      reached = let o = b.reached in dite (ℕ_discrete o.0 id)
          (λ e. let same = same_view is_spent s.views o.0 id o.1 v e o.2 l in (id, left, further id left here, subst (λ (u : PoolView). u.counter ≡ counter_of s.words) same o.3))
          (λ ne. (o.0, o.1, further o.0 o.1 (live_else is_spent s.views id left o.0 o.1 ne o.2), o.3));
      owners = λ q. let was = b.owners q in let change = sum_set (times q) s.views id v left at in let push = sum_by_push (times q) vs right in
          let tv = times_live q v un in let tl = times_live q left refl in let tr : times q right ≡ 0 = refl in omega arith;
      fresh = b.fresh;
      owned = λ q lt tagged. let o = b.owned q lt tagged in dite (ℕ_discrete o.0 id)
          (λ e. let same = same_view is_spent s.views o.0 id o.1 v e o.2 l in (id, left, further id left here, o.3, subst (λ (u : PoolView). Contains u.published (held_row q o.3)) same o.4))
          (λ ne. (o.0, o.1, further o.0 o.1 (live_else is_spent s.views id left o.0 o.1 ne o.2), o.3, o.4));
      shares = shared_split is_spent share_of WHOLE_SHARE s.views id v left right b.shares l refl refl other_half half (let h : v.share - v.share / 2 + v.share / 2 ≡ v.share = omega arith in h);
    }

live_joined : (views : List PoolView) (id other : ℕ) (both : PoolView) (j : ℕ) (u : PoolView) → Live (set (set views id both) other spent_view) j u → ((j ≡ id) × (both ≡ u)) ⊎ ((j ≢ id) × Live views j u)
live_joined views id other both j u l = ⊎_elim
    (λ (t : (j ≡ other) × (spent_view ≡ u)). let never : true ≡ false = ap (λ (x : PoolView). x.spent) t.1 ∙ l.unspent in absurd (cc))
    (λ (t : (j ≢ other) × (get_elem? (set views id both) j ≡ some u)). live_set is_spent views id both j u (record { there = t.1; unspent = l.unspent }))
    (at_set (set views id both) other j spent_view u l.there)

pub joins : (rows : ℕ) (instance : Instance) (id : ℕ) (v : PoolView) (other : ℕ) (w : PoolView) → v.spent ≡ false → w.spent ≡ false → w.writing ≡ None → Joins (IsPool rows instance) id v other w (after_join v w) spent_view
joins rows instance id v other w unv unw idle s b at apart at' =
    let both : PoolView = after_join v w in
    let l : Live s.views id v = live_me s id v unv at in
    let r : Live s.views other w = live_me s other w unw (sym (set_else s.views id other both apart) ∙ at') in
    let vs : List PoolView = set s.views id both in
    let ends : List PoolView = set vs other spent_view in
    let f : FitsPool rows instance s.words v = b.fits id v l in
    let g : FitsPool rows instance s.words w = b.fits other w r in
    let fits : FitsPool rows instance s.words both = record {
      instance_is = f.instance_is;
      rows_are = f.rows_are;
      counter = let a = f.counter in let c = g.counter in let m : max v.counter w.counter ≤ counter_of s.words = omega arith in m;
      writing = f.writing;
      published = All-append (IsHeld instance s.words) v.published w.published f.published g.published;
      seen = All-append (IsHeld instance s.words) v.seen w.seen f.seen g.seen;
    } in
    let here : Live ends id both = record { there = set_else vs other id spent_view (λ e. apart (sym e)) ∙ set_at s.views id v both at; unspent = refl } in
    let elsewhere : (j : ℕ) (u : PoolView) → j ≢ id → j ≢ other → Live s.views j u → Live ends j u = λ j u n m lu. live_else is_spent vs other spent_view j u m (live_else is_spent s.views id both j u n lu) in
    let reached_by : (x : PoolView) → x.counter ≡ counter_of s.words → x.counter ≤ max v.counter w.counter → max v.counter w.counter ≡ counter_of s.words = λ x e le. let c = fits.counter in omega arith in
    record {
      width = b.width;
      counter = b.counter;
      fits = λ j u lu. ⊎_elim (λ (t : (j ≡ id) × (both ≡ u)). subst (FitsPool rows instance s.words) t.1 fits) (λ (t : (j ≢ id) × Live s.views j u). b.fits j u t.1) (live_joined s.views id other both j u lu);
      reached = let o = b.reached in dite (ℕ_discrete o.0 id)
          (λ e. let same = same_view is_spent s.views o.0 id o.1 v e o.2 l in (id, both, here, reached_by v (subst (λ (u : PoolView). u.counter ≡ counter_of s.words) same o.3) (omega arith)))
          (λ ne. dite (ℕ_discrete o.0 other)
          (λ e. let same = same_view is_spent s.views o.0 other o.1 w e o.2 r in (id, both, here, reached_by w (subst (λ (u : PoolView). u.counter ≡ counter_of s.words) same o.3) (omega arith)))
          (λ nor. (o.0, o.1, elsewhere o.0 o.1 ne nor o.2, o.3)));
      owners = λ q. let was = b.owners q in let first = sum_set (times q) s.views id v both at in let second = sum_set (times q) vs other w spent_view at' in
          let tv = times_live q v unv in let tw = times_live q w unw in let tb = times_live q both refl in let none_written : written q w.writing ≡ 0 = rw idle in
          let appended = sum_by-append (λ (h : HeldRow). once q h.row) v.published w.published in let ts : times q spent_view ≡ 0 = refl in omega arith;
      fresh = b.fresh;
      owned = λ q lt tagged. let o = b.owned q lt tagged in dite (ℕ_discrete o.0 id)
          (λ e. let same = same_view is_spent s.views o.0 id o.1 v e o.2 l in (id, both, here, o.3, Contains-append_left v.published w.published (held_row q o.3) (subst (λ (u : PoolView). Contains u.published (held_row q o.3)) same o.4)))
          (λ ne. dite (ℕ_discrete o.0 other)
          (λ e. let same = same_view is_spent s.views o.0 other o.1 w e o.2 r in (id, both, here, o.3, Contains-append_right v.published w.published (held_row q o.3) (subst (λ (u : PoolView). Contains u.published (held_row q o.3)) same o.4)))
          (λ nor. (o.0, o.1, elsewhere o.0 o.1 ne nor o.2, o.3, o.4)));
      shares = shared_join is_spent share_of WHOLE_SHARE s.views id other v w both spent_view b.shares (λ e. apart (sym e)) l r refl refl refl;
    }

-- no live view published a row twice
published-apart : (rows : ℕ) (instance : Instance) (s : Words) (id : ℕ) (v : PoolView) → v.spent ≡ false → IsPool rows instance s → Live s.views id v → AllPairs (λ (g : HeldRow) (h : HeldRow). g.row ≢ h.row) v.published
published-apart rows instance s id v un b l = once-distinct v.published (λ q. let t = times_live q v un in let o = one_within (times q) s.views id v l.there in let was = b.owners q in let one = below_most q (counter_of s.words) in omega arith)

pub has_part : (rows : ℕ) (instance : Instance) (slots id : ℕ) (me : Mine) → me.0.spent ≡ false → Allows (IsPool rows instance) slots id me 0 (λ n. n) (HasPart (step slots 0 0 0 none) me)
has_part rows instance slots id me un s b _ at _ =
    let v : PoolView = me.0 in
    let l : Live s.views id v = live_me s id v un at in
    let within = one_within (part_of is_spent share_of) s.views id v at in
    let part = part_live is_spent share_of v un in
    let sum = b.shares.sum in
    (v, keeps, tt, looked rows instance s b id v v l un refl (b.fits id v l) (le_refl v.counter) refl refl 0, (omega arith, refl, published-apart rows instance s id v un b l))

pub closes : (rows : ℕ) (instance : Instance) (id : ℕ) (v : PoolView) (words : List ℕ) (slots : List Row) → v.spent ≡ false → v.share ≡ WHOLE_SHARE → Final (Seen (IsPool rows instance) id v) words slots → IsWholePool v
closes rows instance id v words slots un all f =
    let s : Words = f.0 in
    let b : IsPool rows instance s = f.1.0 in
    let l : Live s.views id v = live_me s id v un f.1.1 in
    let fits : FitsPool rows instance s.words v = b.fits id v l in
    let most = b.counter in
    record {
      seen = All-weaker (Contains v.seen) (Contains v.published) (λ h has.
          let is : IsHeld instance s.words h = All-contains (IsHeld instance s.words) v.seen h fits.seen has in
          let above = is.valid.above in
          let tag = is.tag in
          let drawn = is.drawn in
          let o = b.owned h.row (omega arith) (λ z. absurd (let t : h.content.tag ≡ 0 = sym tag ∙ z in omega arith)) in
          let same = alone rows instance s b id v l all o.0 o.1 o.2 in
          let held_there : IsHeld instance s.words (held_row h.row o.3) = All-contains (IsHeld instance s.words) o.1.published (held_row h.row o.3) (b.fits o.0 o.1 o.2).published o.4 in
          subst (Contains v.published) (one_content instance s.words h o.3 is held_there) (subst (λ (u : PoolView). Contains u.published (held_row h.row o.3)) (sym same) o.4))
          v.seen (All-contains_itself v.seen);
      distinct = once-distinct v.published (λ q. let t = times_live q v un in let o = one_within (times q) s.views id v l.there in let was = b.owners q in let one = below_most q (counter_of s.words) in omega arith);
    }
