use Rattle.fapp_text.proofs.LawProofs.{fields_join, fields_cut}
use Rattle.fapp_text.proofs.laws.fields_law.Goals as goal

pub returns-clause-join : goal.returns-clause-join
returns-clause-join c = fields_join

pub returns-clause-cut : goal.returns-clause-cut
returns-clause-cut c = fields_cut
