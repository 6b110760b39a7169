use Rattle.fapp_tables.proofs.IndexMembers.{pair-added}
use Rattle.fapp_tables.proofs.laws.pairs_are_added.Goals as goal

pub returns : goal.returns
returns c = pair-added
