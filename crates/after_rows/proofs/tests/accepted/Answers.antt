use Rattle.std.proofs.Common.{sym, subst}
use Rattle.cert_lines.proofs.Deleting.{plain-lines}
use Rattle.accept_laws.proofs.Accepting.{accepted-parts}
use Rattle.merge_laws.specs.Conditions.{AreOld}
use Rattle.after_rows.proofs.tests.accepted.Goals as goal

pub returns : goal.returns
returns c = subst (AreOld c.args.instance.now) (sym c.into_vec.ensures) (record {
  formed = plain-lines c.args.instance.now c.in-Ok.answer c.if-answer-ne1.false c.in-Ok.ensures.0;
  good = (accepted-parts c.args.instance.now c.in-Ok.answer c.in-Ok-check.ensures).lines;
})
