use Rattle.std.proofs.Common.{◌≡◌, ◌∙◌, inl, inr, arith}
use Rattle.std.proofs.lemmas.Bool.{cases_lt}
use Rattle.arc_levels.specs.Heights.{height_at}
use Rattle.arc_levels.proofs.LevelLaws.{least_more}
use Rattle.arc_levels.proofs.table.least_height.Goals as goal

pub loop-choice-preserved : goal.loop-choice-preserved
loop-choice-preserved c =
    let rows = c.args.removals.now.rows.items in
    let is : c.from.result ≡ height_at rows c.args.path c.loop-choice.choice = c.from.ensures ∙ c.height.ensures in
    least_more c.args.instance.now rows c.args.path c.loop-choice.choice c.loop-choice.least c.min-least.result c.loop-choice.invariant
    (elim (cases_lt c.loop-choice.least c.from.result) [
      | inl less ↦ inl (omega (arith, less, c.min-least.ensures), omega (arith, less, is))
      | inr more ↦ inr (omega (arith, more, is, c.min-least.ensures), omega (arith, more, is))
    ])
