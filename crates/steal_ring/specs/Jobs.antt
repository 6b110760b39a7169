-- One word for each job, and what the seats know of them.
use Rattle.std.specs.Prelude.{◌≡◌, ℕ, ◌+◌, ◌-◌, ◌/◌, ◌≤◌, ◌==◌, Bool, true, false, cond, List, [], ◌∷◌, ◌++◌, length, slice_index, sum_by, All}
use Rattle.atomic_table.specs.Table.{State}
use Rattle.seat_laws.specs.declared.TheConstants.{WHOLE_SHARE}
use Rattle.seat_laws.specs.Shares.{EachLive, IsShared, part_of}
use Rattle.steal_ring.specs.declared.view.RingView.{RingView}

abbrev pub Words : Type 0
Words = State (Unit {0}) RingView

-- the word of a job: 0 while it is free, 1 once it was taken
abbrev pub word : Words → ℕ → ℕ
word s job = slice_index s.words job

abbrev pub is_spent : RingView → Bool
is_spent v = v.spent

abbrev pub share_of : RingView → ℕ
share_of v = v.share

-- 1 for the job itself, 0 for each other
abbrev pub once : ℕ → ℕ → ℕ
once job other = cond (job == other) 1 0

-- how often a job stands in a list
abbrev pub times : ℕ → List ℕ → ℕ
times job jobs = sum_by (once job) jobs

-- how often a seat won a job
abbrev pub wins : ℕ → RingView → ℕ
wins job v = times job v.won

-- What holds between any two steps: a job's word is 0 or 1 and tells how often it was won, by all
-- seats together; the word of each job that a seat found is 1.
pub record IsRing (jobs : ℕ) (s : Words) : Type 0 where
  pub width : length s.words ≡ jobs
  pub bits : (job : ℕ) → word s job ≤ 1
  pub won : (job : ℕ) → sum_by (part_of is_spent (wins job)) s.views ≡ word s job
  pub found : EachLive is_spent (λ v. All (λ job. word s job ≡ 1) v.found) s.views
  pub shares : IsShared is_spent share_of WHOLE_SHARE s.views

-- the view of the seat that is there first
abbrev pub first_view : RingView
first_view = record { spent = false; share = WHOLE_SHARE; found = []; won = [] }

-- the view of a seat that was joined into another
abbrev pub spent_view : RingView
spent_view = record { spent = true; share = 0; found = []; won = [] }

-- what a seat keeps, and what a new one gets, at a split
abbrev pub kept_half : RingView → RingView
kept_half v = record { spent = false; share = v.share - v.share / 2; found = v.found; won = v.won }

abbrev pub given_half : RingView → RingView
given_half v = record { spent = false; share = v.share / 2; found = []; won = [] }

-- what a seat knows after another was joined into it
abbrev pub after_join : RingView → RingView → RingView
after_join v w =
    record {
      spent = false;
      share = v.share + w.share;
      found = v.found ++ w.found;
      won = v.won ++ w.won;
    }

-- what it knows after a swap found a job's word 0
abbrev pub after_win : RingView → ℕ → RingView
after_win v job =
    record { spent = false; share = v.share; found = v.found ++ job ∷ []; won = v.won ++ job ∷ [] }

-- and after a swap found it 1
abbrev pub after_miss : RingView → ℕ → RingView
after_miss v job =
    record { spent = false; share = v.share; found = v.found ++ job ∷ []; won = v.won }
