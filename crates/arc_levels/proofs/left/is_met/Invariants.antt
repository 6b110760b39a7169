use Rattle.std.proofs.Common.{◌-◌, length}
use Rattle.arc_levels.proofs.LeftLaws.{AreUnmet}
use Rattle.arc_levels.proofs.left.is_met.Given as goal

abbrev pub invariant-loop-place : goal.invariant-loop-place
invariant-loop-place l = AreUnmet l.pair l.first l.polarization l.freqs l.place

abbrev pub decreases-loop-place : goal.decreases-loop-place
decreases-loop-place l = length l.freqs - l.place
