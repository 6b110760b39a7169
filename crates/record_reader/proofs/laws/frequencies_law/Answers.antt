use Rattle.record_reader.proofs.LawProofs.{ascending, own_frequencies}
use Rattle.record_reader.proofs.laws.frequencies_law.Goals as goal

pub returns-clause-ascending : goal.returns-clause-ascending
returns-clause-ascending c = ascending

pub returns-clause-own : goal.returns-clause-own
returns-clause-own c = own_frequencies
