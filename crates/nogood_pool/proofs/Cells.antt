-- The words of one row, beside those of the others.
use Rattle.std.proofs.Common.{◌≡◌, ◌≢◌, ℕ, zero, suc, ◌+◌, ◌*◌, ◌<◌, ◌≤◌, false, List, [], ◌∷◌, get_or, set, length, refl, ap, ◌∙◌, arith, le_trans, get_or-set_same, get_or-set_other}
use Rattle.std.proofs.lemmas.Bool.Decides.{nat_tests}
use Rattle.std.specs.List.{All, sum_by}
use Rattle.std.proofs.Common.{Option, Some, None, IfSome}
use Rattle.std.proofs.lemmas.List.Elements.{All-weaker}
use Rattle.fapp_model.specs.declared.instance.Instance.{Instance}
use Rattle.nogood_pool.specs.declared.view.HeldRow.{HeldRow}
use Rattle.nogood_pool.specs.declared.view.PoolView.{PoolView}
use Rattle.nogood_pool.specs.declared.view.RowInWriting.{RowInWriting}
use Rattle.nogood_pool.specs.Pool.{cell, counter_of, once, times, below, written, IsHeld, IsRowInWriting, FitsPool}

pub cell_here : (ws : List ℕ) (r k n : ℕ) → 1 + 9 * r + k < length ws → cell (set ws (1 + 9 * r + k) n) r k ≡ n
cell_here ws r k n h = get_or-set_same ws (1 + 9 * r + k) n 0 h

pub cell_else : (ws : List ℕ) (r k n q j : ℕ) → k < 9 → j < 9 → (q ≡ r → j ≡ k → ⊥) → cell (set ws (1 + 9 * r + k) n) q j ≡ cell ws q j
cell_else ws r k n q j hk hj apart = get_or-set_other ws (1 + 9 * r + k) (1 + 9 * q + j) n 0 (λ e. apart (omega arith) (omega arith))

pub counter_else : (ws : List ℕ) (r k n : ℕ) → counter_of (set ws (1 + 9 * r + k) n) ≡ counter_of ws
counter_else ws r k n = get_or-set_other ws (1 + 9 * r + k) 0 n 0 (λ e. absurd (omega arith))

pub cell_counter : (ws : List ℕ) (n q j : ℕ) → cell (set ws 0 n) q j ≡ cell ws q j
cell_counter ws n q j = get_or-set_other ws 0 (1 + 9 * q + j) n 0 (λ e. absurd (omega arith))

pub once_same : (r q : ℕ) → q ≡ r → once r q ≡ 1
once_same r q e = grind (arith, nat_tests)

pub once_else : (r q : ℕ) → q ≢ r → once r q ≡ 0
once_else r q n = grind (arith, nat_tests)

pub once_zero : (r q : ℕ) → once r q ≡ 0 → q ≢ r
once_zero r q z e = let o = once_same r q e in absurd (omega arith)

-- nothing changes but the words of one row, and the counter does not fall
pub record Beside (ws new : List ℕ) (r : ℕ) : Type 0 where
  pub counter : counter_of ws ≤ counter_of new
  pub cells : (q k : ℕ) → k < 9 → q ≢ r → cell new q k ≡ cell ws q k

module _ (instance : Instance) (ws new : List ℕ) (r : ℕ) (beside : Beside ws new r) where
  -- a row that holds a content goes on to hold it
  pub held_kept : (h : HeldRow) → h.row ≢ r → IsHeld instance ws h → IsHeld instance new h
  held_kept h ne is = record {
    drawn = le_trans is.drawn beside.counter;
    short = is.short;
    tag = beside.cells h.row 0 (omega arith) ne ∙ is.tag;
    lits = λ k lt. beside.cells h.row (1 + k) (omega arith) ne ∙ is.lits k lt;
    valid = is.valid;
  }

  pub writing_kept : (o : Option RowInWriting) → written r o ≡ 0 → IfSome o (IsRowInWriting instance ws) → IfSome o (IsRowInWriting instance new)
  writing_kept None z is = tt
  writing_kept (Some w) z is = let ne = once_zero r w.row z in record {
    drawn = le_trans is.drawn beside.counter;
    short = is.short;
    within = is.within;
    tag = beside.cells w.row 0 (omega arith) ne ∙ is.tag;
    done = λ k lt. beside.cells w.row (1 + k) (let a = is.within in let b = is.short in omega arith) ne ∙ is.done k lt;
    left = λ k le lt. beside.cells w.row (1 + k) (omega arith) ne ∙ is.left k le lt;
    valid = is.valid;
  }

  -- a row with a tag is another one than a row without
  pub held_apart : cell ws r 0 ≡ 0 → (h : HeldRow) → IsHeld instance ws h → h.row ≢ r
  held_apart z h is e = let above = is.valid.above in let t : cell ws h.row 0 ≡ h.content.tag = is.tag in let same : cell ws h.row 0 ≡ cell ws r 0 = ap (λ (q : ℕ). cell ws q 0) e in absurd (omega arith)

  pub helds_kept : cell ws r 0 ≡ 0 → (hs : List HeldRow) → All (IsHeld instance ws) hs → All (IsHeld instance new) hs
  helds_kept z hs all = All-weaker (IsHeld instance ws) (IsHeld instance new) (λ h is. held_kept h (held_apart z h is) is) hs all

  pub fits_kept : (rows : ℕ) (v : PoolView) → cell ws r 0 ≡ 0 → written r v.writing ≡ 0 → FitsPool rows instance ws v → FitsPool rows instance new v
  fits_kept rows v z none f = record {
    instance_is = f.instance_is;
    rows_are = f.rows_are;
    counter = le_trans f.counter beside.counter;
    writing = writing_kept v.writing none f.writing;
    published = helds_kept z v.published f.published;
    seen = helds_kept z v.seen f.seen;
  }

pub times_live : (q : ℕ) (v : PoolView) → v.spent ≡ false → times q v ≡ written q v.writing + sum_by (λ h. once q h.row) v.published
times_live q v un = rw un

pub past : (xs : List ℕ) (k : ℕ) → length xs ≤ k → get_or xs k 0 ≡ 0
past [] k h = refl
past (x ∷ xs) zero h = absurd (omega arith)
past (x ∷ xs) (suc k) h = past xs k (omega arith)

-- one more row is drawn
pub one_more : (q n next : ℕ) → n ≡ next → once q next + below q n ≡ below q (next + 1)
one_more q n next e = grind (arith, nat_tests)

pub not_below : (q n : ℕ) → n ≤ q → below q n ≡ 0
not_below q n h = grind (arith, nat_tests)

pub below_most : (q n : ℕ) → below q n ≤ 1
below_most q n = grind (arith, nat_tests)
