use Rattle.dead_laws.proofs.TiedPair.{equal-inside, equal-outside, first-inside, first-outside, unequal-outside}
use Rattle.dead_laws.proofs.examples.tied_pair_arcs.Goals as goal

pub returns : goal.returns
returns c = record {
  first = record { outside = first-outside; inside = first-inside };
  unequal = unequal-outside;
  equal = record { outside = equal-outside; inside = equal-inside };
}
