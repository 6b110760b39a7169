use Rattle.tries_laws.proofs.LineParts.{some-tries, one-tries}
use Rattle.tries_laws.proofs.tries.one_number_of_tries.Goals as goal

pub returns : goal.returns
returns c = record { some = some-tries; one = one-tries }
