use Rattle.std.proofs.Common.{inl, inr, arith}
use Rattle.arc_levels.proofs.LevelLaws.{greatest_more}
use Rattle.arc_levels.proofs.table.greatest_least.Goals.{then-greatest-least, else-greatest-least}
use Rattle.arc_levels.proofs.table.greatest_least.Goals as goal

pub loop-path-preserved : goal.loop-path-preserved
loop-path-preserved c =
    elim c.if-greatest-least.branch [
      | then-greatest-least w ↦
          greatest_more c.args.instance.now c.args.removals.now.rows.items c.loop-path.path c.loop-path.greatest c.least_height-least.result c.if-greatest-least.greatest c.loop-path.invariant c.least_height-least.ensures
          (omega (arith, w.greatest-is, w.if-greatest-least.true)) (omega (arith, w.greatest-is)) (inr w.greatest-is)
      | else-greatest-least w ↦
          greatest_more c.args.instance.now c.args.removals.now.rows.items c.loop-path.path c.loop-path.greatest c.least_height-least.result c.if-greatest-least.greatest c.loop-path.invariant c.least_height-least.ensures
          (omega (arith, w.greatest-is)) (omega (arith, w.greatest-is, w.if-greatest-least.false)) (inl w.greatest-is)
    ]
