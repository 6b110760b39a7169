use Rattle.search_log.proofs.Segmenting.{log-more}
use Rattle.search_log.proofs.laws.good_with_more_rows.Goals as goal

pub returns : goal.returns
returns c = log-more
