use Rattle.cert_lines.proofs.Deleting.{root-more}
use Rattle.cert_check.proofs.root.root_tag_by.Goals as goal

pub loop-place-preserved : goal.loop-place-preserved
loop-place-preserved c = root-more c.args.lines.now c.loop-place.place c.loop-place.found c.with_kept-found.result c.loop-place-test.true c.loop-place.invariant c.with_kept-found.ensures
