-- Each step on the ring keeps the rule.
use Rattle.std.proofs.Common.{◌≡◌, ◌≢◌, ◌⊎◌, inl, inr, ⊎_elim, ℕ, suc, ◌+◌, ◌-◌, ◌/◌, ◌<◌, ◌≤◌, false, List, [], ◌∷◌, ◌++◌, get_or, set, length, sym, refl, ap, ◌∙◌, subst, arith, length-set, get_or-set_same, get_or-set_other}
use Rattle.std.proofs.lemmas.Bool.Decides.{nat_tests}
use Rattle.std.proofs.lemmas.List.{set-get_or}
use mathlib.Core.Logic.{dite}
use mathlib.Core.Option.{none, some}
use native.Mathlib.Decide.{ℕ_discrete}
use lib.ListN.{get_elem?}
use Rattle.std.specs.List.{All, Contains, sum_by}
use Rattle.std.proofs.lemmas.List.Elements.{All-nil, All-append, All-push, All-weaker, All-contains}
use Rattle.std.proofs.lemmas.List.Sums.{sum_by_push, sum_by-append, sum_by-cons}
use Rattle.atomic_table.specs.Table.{Me, step, keeps, stepped, Allows, Splits, Joins, Final, Seen}
use Rattle.atomic_table.proofs.Lists.{set_else}
use Rattle.seat_laws.specs.declared.TheConstants.{WHOLE_SHARE}
use Rattle.seat_laws.specs.Shares.{Live, part_of}
use Rattle.seat_laws.proofs.Views.{each_set, each_split, each_join, shared_set, shared_split, shared_join, part_live, alone_sum}
use Rattle.seat_laws.proofs.Sums.{sum_set, sum_more, one_within}
use Rattle.steal_ring.specs.declared.view.RingView.{RingView}
use Rattle.steal_ring.specs.Jobs.{Words, IsRing, word, is_spent, share_of, once, times, wins, kept_half, given_half, after_join, spent_view, after_win, after_miss}
use Rattle.steal_ring.specs.RingSteps.{TakesJob, HasPart}
use Rattle.steal_ring.specs.Seats.{IsWholeRing}

-- how often a live seat won a job
wins_live : (q : ℕ) (v : RingView) → v.spent ≡ false → part_of is_spent (wins q) v ≡ times q v.won
wins_live q v un = part_live is_spent (wins q) v un

live_me : (s : Words) (id : ℕ) (v : RingView) → v.spent ≡ false → get_elem? s.views id ≡ some v → Live is_spent s.views id v
live_me s id v un at = record { there = at; unspent = un }

-- one live view changes, and the words with it
kept : (jobs : ℕ) (s : Words) (b : IsRing jobs s) (id : ℕ) (v w : RingView) (ws : List ℕ) → Live is_spent s.views id v → w.spent ≡ false → w.share ≡ v.share → length ws ≡ length s.words
    → ((q : ℕ) → get_or ws q 0 ≤ 1) → ((q : ℕ) → get_or s.words q 0 ≤ get_or ws q 0)
    → ((q : ℕ) → times q w.won + get_or s.words q 0 ≡ times q v.won + get_or ws q 0) → All (λ q. get_or ws q 0 ≡ 1) w.found
    → IsRing jobs (record { words = ws; homes = s.homes; views = set s.views id w })
kept jobs s b id v w ws l un sh len bits up won found = record {
  width = len ∙ b.width;
  bits = bits;
  won = λ q. let change = sum_set (part_of is_spent (wins q)) s.views id v w l.there in let a = wins_live q v l.unspent in let c = wins_live q w un in let was = b.won q in let is = won q in omega arith;
  found = each_set is_spent (λ u. All (λ q. word s q ≡ 1) u.found) (λ u. All (λ q. get_or ws q 0 ≡ 1) u.found) s.views id w
      (λ u h. All-weaker (λ q. word s q ≡ 1) (λ q. get_or ws q 0 ≡ 1) (λ q e. let more = up q in let most = bits q in let is : get_or s.words q 0 ≡ 1 = e in omega arith) u.found h)
      found b.found;
  shares = shared_set is_spent share_of WHOLE_SHARE s.views id v w b.shares l un sh;
}

-- a word becomes 1
one_set : (ws : List ℕ) (job q : ℕ) → job < length ws → ((q ≡ job) × (get_or (set ws job 1) q 0 ≡ 1)) ⊎ ((q ≢ job) × (get_or (set ws job 1) q 0 ≡ get_or ws q 0))
one_set ws job q lt = dite (ℕ_discrete q job)
    (λ e. inl (e, ap (λ (i : ℕ). get_or (set ws job 1) i 0) e ∙ get_or-set_same ws job 1 0 lt))
    (λ ne. inr (ne, get_or-set_other ws job q 1 0 ne))

pub once_at : (q job : ℕ) → ((q ≡ job) × (once q job ≡ 1)) ⊎ ((q ≢ job) × (once q job ≡ 0))
once_at q job = dite (ℕ_discrete q job) (λ e. inl (e, grind (arith, nat_tests))) (λ ne. inr (ne, grind (arith, nat_tests)))

taken_kept : (jobs : ℕ) (s : Words) (b : IsRing jobs s) (id : ℕ) (v : RingView) (job : ℕ) → Live is_spent s.views id v → job < jobs
    → (word s job ≡ 0 → IsRing jobs (stepped s job 1 id [] (after_win v job) keeps)) × (word s job ≢ 0 → IsRing jobs (stepped s job 1 id [] (after_miss v job) keeps))
taken_kept jobs s b id v job l lt =
    let width = b.width in
    let inside : job < length s.words = omega arith in
    let ws : List ℕ = set s.words job 1 in
    let bit = b.bits job in
    let bits : (q : ℕ) → get_or ws q 0 ≤ 1 = λ q. let o = b.bits q in ⊎_elim (λ t. let e = t.1 in omega arith) (λ t. let e = t.1 in omega arith) (one_set s.words job q inside) in
    let up : (q : ℕ) → get_or s.words q 0 ≤ get_or ws q 0 = λ q. let o = b.bits q in ⊎_elim (λ t. let e = t.1 in omega arith) (λ t. let e = t.1 in omega arith) (one_set s.words job q inside) in
    let now : get_or ws job 0 ≡ 1 = get_or-set_same s.words job 1 0 inside in
    let found : All (λ q. get_or ws q 0 ≡ 1) (v.found ++ job ∷ []) = All-push (λ q. get_or ws q 0 ≡ 1) v.found job
    (All-weaker (λ q. word s q ≡ 1) (λ q. get_or ws q 0 ≡ 1) (λ q h. let more = up q in let most = bits q in let is : get_or s.words q 0 ≡ 1 = h in omega arith) v.found (b.found id v l)) now in (
      (λ z. kept jobs s b id v (after_win v job) ws l refl refl (length-set s.words job 1) bits up
          (λ q. let push = sum_by_push (once q) v.won job in ⊎_elim
          (λ t. ⊎_elim (λ o. let e = t.1 in let f = o.1 in let same : get_or s.words q 0 ≡ 0 = ap (λ (i : ℕ). get_or s.words i 0) t.0 ∙ z in omega arith) (λ o. absurd (o.0 t.0)) (once_at q job))
          (λ t. ⊎_elim (λ o. absurd (t.0 o.0)) (λ o. let e = t.1 in let f = o.1 in omega arith) (once_at q job))
          (one_set s.words job q inside))
          found),
      (λ nz. kept jobs s b id v (after_miss v job) ws l refl refl (length-set s.words job 1) bits up
          (λ q. ⊎_elim
          (λ t. let e = t.1 in let one : get_or s.words job 0 ≡ 1 = omega arith in let same : get_or s.words q 0 ≡ 1 = ap (λ (i : ℕ). get_or s.words i 0) t.0 ∙ one in omega arith)
          (λ t. let e = t.1 in omega arith)
          (one_set s.words job q inside))
          found),
    )

pub takes : (jobs slots id : ℕ) (me : Me (Unit {0}) RingView) (job : ℕ) → me.0.spent ≡ false → job < jobs → Allows (IsRing jobs) slots id me job (λ _. 1) (TakesJob (step slots job 1 0 none) me)
takes jobs slots id me job un lt s b _ at _ =
    let v : RingView = me.0 in
    let l : Live is_spent s.views id v = live_me s id v un at in
    let t = taken_kept jobs s b id v job l lt in
    dite (ℕ_discrete (word s job) 0)
    (λ z. (after_win v job, keeps, tt, t.0 z, (refl, (λ _. refl), λ nz. absurd (nz z))))
    (λ nz. (after_miss v job, keeps, tt, t.1 nz, (refl, (λ z. absurd (nz z)), λ _. refl)))

pub splits : (jobs id : ℕ) (v : RingView) → v.spent ≡ false → 2 ≤ v.share → Splits (IsRing jobs) id v (kept_half v) (given_half v)
splits jobs id v un two s b at =
    let l : Live is_spent s.views id v = live_me s id v un at in
    let left : RingView = kept_half v in
    let right : RingView = given_half v in
    record {
      width = b.width;
      bits = b.bits;
      won = λ q. let was = b.won q in let change = sum_set (part_of is_spent (wins q)) s.views id v left at in let push = sum_more (part_of is_spent (wins q)) (set s.views id left) right in let a = wins_live q v un in let c = wins_live q left refl in let none_won : part_of is_spent (wins q) right ≡ 0 = refl in omega arith;
      found = each_split is_spent (λ u. All (λ q. word s q ≡ 1) u.found) s.views id left right (b.found id v l) (All-nil (λ q. word s q ≡ 1)) b.found;
      shares = shared_split is_spent share_of WHOLE_SHARE s.views id v left right b.shares l refl refl
          (let h : 1 ≤ v.share - v.share / 2 = omega arith in h) (let h : 1 ≤ v.share / 2 = omega arith in h) (let h : v.share - v.share / 2 + v.share / 2 ≡ v.share = omega arith in h);
    }

pub joins : (jobs id : ℕ) (v : RingView) (other : ℕ) (w : RingView) → v.spent ≡ false → w.spent ≡ false → Joins (IsRing jobs) id v other w (after_join v w) spent_view
joins jobs id v other w unv unw s b at apart at' =
    let both : RingView = after_join v w in
    let l : Live is_spent s.views id v = live_me s id v unv at in
    let r : Live is_spent s.views other w = live_me s other w unw (sym (set_else s.views id other both apart) ∙ at') in
    let vs : List RingView = set s.views id both in
    record {
      width = b.width;
      bits = b.bits;
      won = λ q. let was = b.won q in let first = sum_set (part_of is_spent (wins q)) s.views id v both at in let second = sum_set (part_of is_spent (wins q)) vs other w spent_view at' in let a = wins_live q v unv in let c = wins_live q w unw in let d = wins_live q both refl in
          let appended = sum_by-append (once q) v.won w.won in let none_left : part_of is_spent (wins q) spent_view ≡ 0 = refl in omega arith;
      found = each_join is_spent (λ u. All (λ q. word s q ≡ 1) u.found) s.views id other both spent_view refl (All-append (λ q. word s q ≡ 1) v.found w.found (b.found id v l) (b.found other w r)) b.found;
      shares = shared_join is_spent share_of WHOLE_SHARE s.views id other v w both spent_view b.shares (λ e. apart (sym e)) l r refl refl refl;
    }

pub has_part : (jobs slots id : ℕ) (me : Me (Unit {0}) RingView) → me.0.spent ≡ false → Allows (IsRing jobs) slots id me 0 (λ n. n) (HasPart (step slots 0 0 0 none) me)
has_part jobs slots id me un s b _ at _ =
    let v : RingView = me.0 in
    let l : Live is_spent s.views id v = live_me s id v un at in
    let within = one_within (part_of is_spent share_of) s.views id v at in
    let part = part_live is_spent share_of v un in
    let sum = b.shares.sum in (
      v,
      keeps,
      tt,
      subst (λ (ws : List ℕ). IsRing jobs (record { words = ws; homes = s.homes; views = set s.views id v })) (sym (set-get_or s.words 0 0))
          (kept jobs s b id v v s.words l un refl refl b.bits (λ q. omega arith) (λ q. refl) (b.found id v l)),
      (omega arith, refl),
    )

-- who has the whole share won what was won
pub closes : (jobs id : ℕ) (v : RingView) (words : List ℕ) (slots : List (Unit {0})) → v.spent ≡ false → v.share ≡ WHOLE_SHARE → Final (Seen (IsRing jobs) id v) words slots → IsWholeRing v
closes jobs id v words slots un all f =
    let s : Words = f.0 in
    let b : IsRing jobs s = f.1.0 in
    let l : Live is_spent s.views id v = live_me s id v un f.1.1 in
    let own : (q : ℕ) → sum_by (part_of is_spent (wins q)) s.views ≡ times q v.won = λ q. alone_sum is_spent share_of (wins q) WHOLE_SHARE s.views b.shares id v l all in
    record {
      most = λ q. let was = b.won q in let bit = b.bits q in let o = own q in omega arith;
      found = λ q has. let is : word s q ≡ 1 = All-contains (λ x. word s x ≡ 1) v.found q (b.found id v l) has in let was = b.won q in let o = own q in omega arith;
    }

-- what stands in a list at least once is in it
pub stands : (job : ℕ) (xs : List ℕ) → 0 < times job xs → Contains xs job
stands job [] h = absurd (omega arith)
stands job (x ∷ xs) h = ⊎_elim
    (λ o. (0, omega arith, sym o.0))
    (λ o. let z = o.1 in let c = stands job xs (omega (arith, sum_by-cons (once job) x xs)) in let lt = c.1 in (suc c.0, omega arith, c.2))
    (once_at job x)
