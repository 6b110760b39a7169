use Rattle.std.proofs.Common.{◌∙◌, refl}
use Rattle.choice_counts.proofs.KeptLaws.{kept_none}
use Rattle.forward_count.proofs.start.start.Goals as goal

pub returns : goal.returns
returns c = kept_none c.args.instance.now c.requires.instance c.args.level c.reset_rows.new.rows _ (c.reset_rows.auto.rows ∙ c.requires.rows.count) c.reset_rows.ensures c.open_of.ensures.stuck c.open_of.ensures.least refl refl
