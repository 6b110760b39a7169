use Rattle.dead_laws.proofs.CostLaws.{cost-within, within-cost}
use Rattle.dead_laws.proofs.tags.cost_against_mode.Goals as goal

pub returns : goal.returns
returns c = λ instance t plan v tag above _. (cost-within instance t plan v tag, within-cost instance t plan tag above)
