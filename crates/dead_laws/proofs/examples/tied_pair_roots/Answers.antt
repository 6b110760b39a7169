use Rattle.dead_laws.proofs.TiedPair.{none-outside, some-inside}
use Rattle.dead_laws.proofs.examples.tied_pair_roots.Goals as goal

pub returns : goal.returns
returns c = record { none = none-outside; some = some-inside }
