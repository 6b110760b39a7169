use Rattle.std.proofs.Common.{◌≡◌, length}
use Rattle.choice_counts.proofs.table.Links.new.Given as goal

abbrev pub invariant-loop-place : goal.invariant-loop-place
invariant-loop-place l = length l.links.items ≡ l.place
