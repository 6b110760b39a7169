use Rattle.search_log.proofs.Segmenting.{log-cut}
use Rattle.search_log.proofs.laws.good_log_is_cut.Goals as goal

pub returns : goal.returns
returns c = log-cut
