-- The views of all seats after one of them changed.
use Rattle.std.proofs.Common.{◌≡◌, ◌≢◌, ◌⊎◌, ⊎_elim, ℕ, ◌+◌, ◌<◌, ◌≤◌, false, List, set, length, sym, ◌∙◌, subst, arith}
use Rattle.seat_laws.specs.declared.TheConstants.{WHOLE_SHARE}
use mathlib.Core.Logic.{dite}
use mathlib.Core.Option.{Option}
use native.Mathlib.Decide.{ℕ_discrete}
use Rattle.std.specs.List.{Contains}
use Rattle.fapp_model.specs.declared.instance.Instance.{Instance}
use Rattle.nogood.specs.declared.row.Row.{Row}
use Rattle.nogood_pool.specs.declared.view.Content.{Content}
use Rattle.nogood_pool.specs.declared.view.HeldRow.{HeldRow}
use Rattle.nogood_pool.specs.declared.view.PoolView.{PoolView}
use Rattle.nogood_pool.specs.Pool.{Words, cell, counter_of, is_spent, share_of, times, below, held_row, Live, FitsPool, IsPool}
use Rattle.seat_laws.proofs.Sums.{sum_set}
use Rattle.seat_laws.proofs.Views.{set_at, live_set, live_else, same_view, shared_set, alone as only}

-- a step that changes the words and one live view keeps the rule, if it keeps these parts
pub kept : (rows : ℕ) (instance : Instance) (s : Words) (b : IsPool rows instance s) (homes : List (Option Row)) (id : ℕ) (v w : PoolView) (ws : List ℕ)
    → Live s.views id v → w.spent ≡ false → w.share ≡ v.share → length ws ≡ length s.words → counter_of ws ≤ rows
    → FitsPool rows instance ws w → ((j : ℕ) (u : PoolView) → j ≢ id → Live s.views j u → FitsPool rows instance ws u)
    → (w.counter ≡ counter_of ws) ⊎ ((counter_of ws ≡ counter_of s.words) × (v.counter ≤ w.counter))
    → ((q : ℕ) → times q w + below q (counter_of s.words) ≡ times q v + below q (counter_of ws))
    → ((q k : ℕ) → counter_of ws ≤ q → q < rows → k < 9 → cell ws q k ≡ 0)
    → ((q : ℕ) → q < rows → cell ws q 0 ≢ 0 → (cell s.words q 0 ≢ 0) ⊎ ((c : Content) × Contains w.published (held_row q c)))
    → ((h : HeldRow) → Contains v.published h → Contains w.published h)
    → IsPool rows instance (record { words = ws; homes = homes; views = set s.views id w })
kept rows instance s b homes id v w ws l un sh len most mine others reach owners fresh owned more =
    let here : Live (set s.views id w) id w = record { there = set_at s.views id v w l.there; unspent = un } in
    record {
      width = len ∙ b.width;
      counter = most;
      fits = λ j u lu. ⊎_elim (λ (t : (j ≡ id) × (w ≡ u)). subst (FitsPool rows instance ws) t.1 mine) (λ t. others j u t.0 t.1) (live_set is_spent s.views id w j u lu);
      reached = ⊎_elim (λ e. (id, w, here, e))
          (λ (t : (counter_of ws ≡ counter_of s.words) × (v.counter ≤ w.counter)). let o = b.reached in dite (ℕ_discrete o.0 id)
          (λ e. let same : o.1 ≡ v = same_view is_spent s.views o.0 id o.1 v e o.2 l in let vc : v.counter ≡ counter_of s.words = subst (λ (u : PoolView). u.counter ≡ counter_of s.words) same o.3 in
          let f = mine.counter in (id, w, here, omega arith))
          (λ ne. (o.0, o.1, live_else is_spent s.views id w o.0 o.1 ne o.2, o.3 ∙ sym t.0)))
          reach;
      owners = λ q. let change = sum_set (times q) s.views id v w l.there in let was = b.owners q in let is = owners q in omega arith;
      fresh = fresh;
      owned = λ q lt tagged. ⊎_elim
          (λ was. let o = b.owned q lt was in dite (ℕ_discrete o.0 id)
          (λ e. let same : o.1 ≡ v = same_view is_spent s.views o.0 id o.1 v e o.2 l in (id, w, here, o.3, more (held_row q o.3) (subst (λ (u : PoolView). Contains u.published (held_row q o.3)) same o.4)))
          (λ ne. (o.0, o.1, live_else is_spent s.views id w o.0 o.1 ne o.2, o.3, o.4)))
          (λ t. (id, w, here, t.0, t.1))
          (owned q lt tagged);
      shares = shared_set is_spent share_of WHOLE_SHARE s.views id v w b.shares l un sh;
    }

-- who has the whole share is the only one
pub alone : (rows : ℕ) (instance : Instance) (s : Words) (b : IsPool rows instance s) (id : ℕ) (v : PoolView) → Live s.views id v → v.share ≡ WHOLE_SHARE → (j : ℕ) (u : PoolView) → Live s.views j u → v ≡ u
alone rows instance s b id v l all j u lu = only is_spent share_of WHOLE_SHARE s.views b.shares id j v u l all lu
