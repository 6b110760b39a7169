use Rattle.record_reader.proofs.LawProofs.{line_feed_more, carriage_return_more}
use Rattle.record_reader.proofs.laws.line_end_law.Goals as goal

pub returns-clause-feed : goal.returns-clause-feed
returns-clause-feed c = line_feed_more

pub returns-clause-ret : goal.returns-clause-ret
returns-clause-ret c = carriage_return_more
