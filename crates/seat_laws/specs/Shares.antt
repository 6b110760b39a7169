-- The views of all seats, in the order in which the seats were made. Some are spent, and each has a
-- share.
use Rattle.std.specs.Prelude.{◌≡◌, ℕ, ◌≤◌, Bool, false, cond, List, sum_by}
use mathlib.Core.Option.{some}
use lib.ListN.{get_elem?}

module _ {V : Type 0} (spent : V → Bool) where
  -- a seat's number and view, where it was not joined into another
  pub record Live (views : List V) (seat : ℕ) (v : V) : Type 0 where
    pub there : get_elem? views seat ≡ some v
    pub unspent : spent v ≡ false

  -- each live view has a property
  abbrev pub EachLive : (V → Type 0) → List V → Type 0
  EachLive P views = (seat : ℕ) (v : V) → Live views seat v → P v

  -- some live view has it
  abbrev pub SomeLive : (V → Type 0) → List V → Type 0
  SomeLive P views = (seat : ℕ) × (v : V) × Live views seat v × P v

module _ {V : Type 0} (spent : V → Bool) (share : V → ℕ) where
  -- what a view has of the whole: nothing once it is spent
  abbrev pub part_of : V → ℕ
  part_of v = cond (spent v) 0 (share v)

  -- each live share is at least 1, and together they are the whole
  pub record IsShared (whole : ℕ) (views : List V) : Type 0 where
    pub parts : EachLive spent (λ v. 1 ≤ share v) views
    pub sum : sum_by part_of views ≡ whole

  -- The seat of a live view that has the whole share is the only one whose view is live.
  abbrev pub WholeIsAlone : ℕ → Type 0
  WholeIsAlone whole = (views : List V) → IsShared whole views →
      (i j : ℕ) (u v : V) → Live spent views i u → share u ≡ whole → Live spent views j v → i ≡ j
