use Rattle.std.proofs.Common.{◌≤◌}
use Rattle.choice_counts.proofs.places.back_from.Given as goal

abbrev pub invariant-loop-place : goal.invariant-loop-place
invariant-loop-place l = l.place ≤ l.from

abbrev pub decreases-loop-place : goal.decreases-loop-place
decreases-loop-place l = l.place
