use Rattle.fapp_tables.proofs.IndexMembers.{neighbours-members, neighbours-rise}
use Rattle.fapp_tables.proofs.laws.neighbours_share_records.Goals as goal

pub returns : goal.returns
returns c = record { members = neighbours-members; ascending = neighbours-rise }
