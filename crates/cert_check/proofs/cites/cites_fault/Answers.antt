use Rattle.std.proofs.Common.{sym, take, ◌∙◌}
use Rattle.cert_lines.specs.acceptance.Contained.{has_all_but_one}
use Rattle.cert_lines.specs.acceptance.LineFaults.{cite_fault}
use Rattle.cert_check.proofs.Firsts.{first_at, first_more}
use Rattle.cert_check.proofs.cites.cites_fault.Goals as goal

pub returns-in-Some : goal.returns-in-Some
returns-in-Some c = sym (first_at (cite_fault (take c.args.scene.n c.args.scene.lines.now) c.args.scene.tag (has_all_but_one c.args.literals.now)) c.args.cites.now c.loop-cite.cite-index 0 c.in-Some.cause c.loop-cite-test.true c.loop-cite.invariant (sym c.cite_fault.ensures ∙ c.in-Some.is))

pub loop-cite-preserved : goal.loop-cite-preserved
loop-cite-preserved c = first_more (cite_fault (take c.args.scene.n c.args.scene.lines.now) c.args.scene.tag (has_all_but_one c.args.literals.now)) c.args.cites.now c.loop-cite.cite-index 0 c.loop-cite-test.true c.loop-cite.invariant (sym c.cite_fault.ensures ∙ c.in_default.is)
