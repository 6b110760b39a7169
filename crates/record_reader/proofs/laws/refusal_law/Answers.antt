use Rattle.record_reader.proofs.LawProofs.{first_refusal, link_refusals}
use Rattle.record_reader.proofs.laws.refusal_law.Goals as goal

pub returns-clause-first : goal.returns-clause-first
returns-clause-first c = first_refusal

pub returns-clause-later : goal.returns-clause-later
returns-clause-later c = link_refusals
