use Rattle.merge_laws.proofs.Finishing.{rule-settles}
use Rattle.merge_laws.proofs.laws.rule_settles_prefixes.Goals as goal

pub returns : goal.returns
returns c = λ instance split outcomes word root place verdict valid count tags shown is rule above small. rule-settles instance split outcomes word root place verdict valid count tags shown is rule above small
