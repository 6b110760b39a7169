use Rattle.search_log.proofs.Implying.{lines-implied}
use Rattle.search_log.proofs.laws.good_lines_are_implied.Goals as goal

pub returns : goal.returns
returns c = λ instance rows lines segments valid implied good. lines-implied instance valid rows implied lines good.good_lines
