use Rattle.std.proofs.Common.{◌-◌, length}
use Rattle.choice_counts.proofs.cells.place_over.Given as goal

abbrev pub decreases-loop-place : goal.decreases-loop-place
decreases-loop-place l = length l.cells - l.place
