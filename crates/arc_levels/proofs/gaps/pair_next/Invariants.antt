use Rattle.arc_levels.proofs.GapLaws.{IsNextOf}
use Rattle.arc_levels.proofs.gaps.pair_next.Given as goal

abbrev pub invariant-loop-position : goal.invariant-loop-position
invariant-loop-position l = IsNextOf l.pair l.first l.second l.position-index l.next
