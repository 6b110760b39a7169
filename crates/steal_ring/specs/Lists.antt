-- The list of a hand: the jobs whose numbers leave the hand's number when they are divided by the
-- number of workers.
use Rattle.std.specs.Prelude.{◌≡◌, ℕ, ◌+◌, ◌<◌, ◌%◌, ◌&&◌, ◌==◌, Bool, nat_le, nat_lt, cond, if◌then◌else◌, List, [], ◌∷◌, ◌++◌, Option, Some, None}
use Rattle.steal_ring.specs.Jobs.{times}

-- the number of a hand's neighbour: the next hand, and the first one for the last. A single hand
-- has no neighbour: no job stands in the list of the number that is given to it.
abbrev pub neighbour_of : ℕ → ℕ → ℕ
neighbour_of workers number = if workers == 1 then 1 else ((number + 1) % workers)

-- the job stands in a list, from one place on and before another
abbrev pub is_between : ℕ → ℕ → ℕ → ℕ → ℕ → Bool
is_between workers list from upto job =
    (job % workers == list) && (nat_le from job && nat_lt job upto)

abbrev pub one_if : Bool → ℕ
one_if b = cond b 1 0

-- the jobs of a list between two places were swapped, each once more
abbrev pub IsSwapped : ℕ → ℕ → ℕ → ℕ → List ℕ → List ℕ → Type 0
IsSwapped workers list from upto found found' =
    (job : ℕ) → times job found' ≡ times job found + one_if (is_between workers list from upto job)

-- the job that was found free is one of the list, and is won as the last
abbrev pub IsGiven : ℕ → ℕ → ℕ → Option ℕ → List ℕ → List ℕ → Type 0
IsGiven jobs workers list None won won' = won' ≡ won
IsGiven jobs workers list (Some job) won won' =
    (job < jobs) × (job % workers ≡ list) × (won' ≡ won ++ job ∷ [])
