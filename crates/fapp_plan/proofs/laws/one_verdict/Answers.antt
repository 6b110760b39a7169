use Rattle.fapp_plan.proofs.OneVerdict.{one-verdict}
use Rattle.fapp_plan.proofs.laws.one_verdict.Goals as goal

pub returns : goal.returns
returns c = one-verdict
