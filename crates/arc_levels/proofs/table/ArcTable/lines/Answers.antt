use Rattle.std.proofs.Common.{List, sym, subst}
use Rattle.fapp_model.specs.declared.instance.Instance.{Instance}
use Rattle.cert_lines.specs.declared.answer.Line.{Line}
use Rattle.arc_levels.specs.ArcLines.{AreArcLines}
use Rattle.arc_levels.proofs.LevelLaws.{arc_lines}
use Rattle.arc_levels.proofs.table.ArcTable.lines.Goals as goal

pub returns : goal.returns
returns c =
    subst (λ (xs : List Line). AreArcLines c.args.self.now xs) (sym c.as_slice.ensures)
    (subst (λ (i : Instance). AreArcLines i c.self.inside.removals.lines) c.self.view_is
    (arc_lines c.self.inside.instance.now c.self.inside.removals.rows.items c.self.inside.removals.lines c.self.invariant))
