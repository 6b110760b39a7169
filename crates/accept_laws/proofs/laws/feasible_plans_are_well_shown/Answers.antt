use Rattle.accept_laws.proofs.Showing.{well-shown}
use Rattle.accept_laws.proofs.laws.feasible_plans_are_well_shown.Goals as goal

pub returns : goal.returns
returns c = λ instance plan valid feasible. well-shown instance valid plan feasible
