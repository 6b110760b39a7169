use Rattle.steal_ring.specs.Hands.{IsHandOf}
use Rattle.steal_ring.proofs.tests.take_all.Given as goal

abbrev pub invariant-loop : goal.invariant-loop
invariant-loop l = IsHandOf l.ring l.hand
