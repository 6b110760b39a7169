use Rattle.steal_ring.specs.Hands.{IsHandOf}
use Rattle.worker_rows.proofs.Popped.{last-of}
use Rattle.worker_rows.proofs.tests.works.one_after_another.Goals as goal

pub jobs_of-requires-2-clause-hand : goal.jobs_of-requires-2-clause-hand
jobs_of-requires-2-clause-hand c = last-of (IsHandOf c.in_ok-ring.ring) c.in_ok-ring.hands.items c.pop.new.self.items c.pop.result c.in-Some-Some.second c.in_ok-ring.ensures.hands.0 c.pop.ensures.items c.in-Some-Some.is-0
