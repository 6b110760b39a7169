use Rattle.record_reader.proofs.LawProofs.{one_instance, valid_text}
use Rattle.record_reader.proofs.laws.one_instance_law.Goals as goal

pub returns-clause-one : goal.returns-clause-one
returns-clause-one c = one_instance

pub returns-clause-valid : goal.returns-clause-valid
returns-clause-valid c = valid_text
