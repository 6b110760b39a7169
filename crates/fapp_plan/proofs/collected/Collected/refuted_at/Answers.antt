use Rattle.fapp_plan.specs.Outcomes.{refuted_at}
use Rattle.fapp_plan.proofs.collected.Collected.refuted_at.Goals as goal

pub returns : goal.returns
unfolding refuted_at
returns c = rw c.outcomes_at.ensures at c.greatest_tag.ensures
