use Rattle.search_log.proofs.Segmenting.{log-push}
use Rattle.search_log.proofs.laws.good_with_one_more_line.Goals as goal

pub returns : goal.returns
returns c = log-push
