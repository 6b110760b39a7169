-- What the steps on the ring tell.
use Rattle.std.specs.Prelude.{◌≡◌, ◌≢◌, ℕ, ◌≤◌}
use Rattle.atomic_table.specs.Table.{Me, Step}
use Rattle.seat_laws.specs.declared.TheConstants.{WHOLE_SHARE}
use Rattle.steal_ring.specs.declared.view.RingView.{RingView}
use Rattle.steal_ring.specs.Jobs.{after_win, after_miss}

-- a swap of a job's word with 1: the job is found, and won where its word was 0
abbrev pub TakesJob : Step (Unit {0}) → Me (Unit {0}) RingView → ℕ → Me (Unit {0}) RingView → Type 0
TakesJob st me n me' =
    (me'.1 ≡ me.1) × (n ≡ 0 → me'.0 ≡ after_win me.0 st.word)
    × (n ≢ 0 → me'.0 ≡ after_miss me.0 st.word)

-- a load that is made for the share alone: it is a part of the whole, and the view stays
abbrev pub HasPart : Step (Unit {0}) → Me (Unit {0}) RingView → ℕ → Me (Unit {0}) RingView → Type 0
HasPart st me n me' = (me.0.share ≤ WHOLE_SHARE) × (me' ≡ me)
