use Rattle.fapp_text.proofs.LawProofs.{lines_join, lines_cut}
use Rattle.fapp_text.proofs.laws.lines_law.Goals as goal

pub returns-clause-join : goal.returns-clause-join
returns-clause-join c = lines_join

pub returns-clause-cut : goal.returns-clause-cut
returns-clause-cut c = lines_cut
