use Rattle.search_log.proofs.Segmenting.{log-home}
use Rattle.search_log.proofs.laws.good_with_one_more_segment.Goals as goal

pub returns : goal.returns
returns c = log-home
