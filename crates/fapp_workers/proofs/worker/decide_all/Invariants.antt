use Rattle.std.proofs.Common.{◌≡◌, ◌*◌, ◌-◌, ◌++◌, [], length}
use Rattle.best_word.specs.Seats.{view_of}
use Rattle.steal_ring.specs.Hands.{IsHandOf, IsSameHand, won_of}
use Rattle.fapp_workers.specs.Jobs.{AreDecided, held}
use Rattle.fapp_workers.specs.SharedBounds.{IsLater}
use Rattle.fapp_workers.specs.States.{state_of}
use Rattle.fapp_workers.specs.Works.{IsLogClause, ids_of}
use Rattle.fapp_workers.proofs.Starting.{AreStarted}
use Rattle.fapp_workers.proofs.worker.decide_all.Given as goal

-- the jobs so far are done
abbrev pub invariant-loop-id : goal.invariant-loop-id
invariant-loop-id g l = record {
  hand : IsHandOf l.ring l.hand;
  same : IsSameHand l.fn.hand l.hand;
  given : won_of l.hand ≡ won_of l.fn.hand ++ ids_of l.done.items;
  later : IsLater l.fn.bound.seat l.bound.seat;
  shared : (was : g.row.H.Denot) → g.H.Shared.since was l.fn.shared → g.H.Shared.since was l.shared;
  serves : g.H.Shared.serves l.shared l.plan.instance;
  instance : l.forward.instance ≡ l.tables;
  empty : l.forward.pushed ≡ [];
  starts : AreStarted (view_of l.fn.bound.seat).found (view_of l.bound.seat).found l.bound.told.code l.done.items;
  decided : AreDecided l.plan l.fuel (held (state_of l.fn.bound) (g.H.Shared.state l.fn.shared) l.fn.log) l.done.items (held (state_of l.bound) (g.H.Shared.state l.shared) l.log);
  log : IsLogClause l.plan l.fuel (held (state_of l.fn.bound) (g.H.Shared.state l.fn.shared) l.fn.log) (held (state_of l.bound) (g.H.Shared.state l.shared) l.log) l.done.items;
}

-- a hand is given each job of its two lists at most once
abbrev pub decreases-loop-id : goal.decreases-loop-id
decreases-loop-id g l = 2 * l.ring.jobs - length (won_of l.hand)
