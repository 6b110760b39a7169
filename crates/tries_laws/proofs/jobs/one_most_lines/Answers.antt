use Rattle.tries_laws.proofs.LineParts.{some-most, one-most}
use Rattle.tries_laws.proofs.jobs.one_most_lines.Goals as goal

pub returns : goal.returns
returns c = record { some = some-most; one = one-most }
