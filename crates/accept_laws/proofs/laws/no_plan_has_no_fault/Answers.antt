use Rattle.accept_laws.proofs.Showing.{no-plan}
use Rattle.accept_laws.proofs.laws.no_plan_has_no_fault.Goals as goal

pub returns : goal.returns
returns c = no-plan
