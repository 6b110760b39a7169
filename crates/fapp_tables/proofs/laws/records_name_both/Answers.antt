use Rattle.fapp_tables.proofs.IndexMembers.{records-members, records-rise, records-turned}
use Rattle.fapp_tables.proofs.laws.records_name_both.Goals as goal

pub returns : goal.returns
returns c = record { members = records-members; ascending = records-rise; turned = records-turned }
