use Rattle.std.proofs.Common.{◌≡◌, take}
use Rattle.choice_counts.specs.Tallies.{least_of_tallies}
use Rattle.forward_count.proofs.rows.least_from.Given as goal

abbrev pub invariant-loop-index : goal.invariant-loop-index
invariant-loop-index l = record {
  same : l.tallies ≡ l.fn.tallies;
  least : l.least ≡ least_of_tallies (take l.index l.tallies);
}
