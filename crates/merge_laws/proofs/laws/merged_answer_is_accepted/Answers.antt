use Rattle.merge_laws.proofs.Merging.{answer-accepted}
use Rattle.merge_laws.proofs.laws.merged_answer_is_accepted.Goals as goal

pub returns : goal.returns
returns c = λ instance split logs answer plan h. answer-accepted instance split logs answer plan h
