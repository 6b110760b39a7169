use Rattle.std.proofs.Common.{◌+◌, []}
use Rattle.cert_merge.proofs.GrowingLists.{mapped-more}
use Rattle.cert_merge.proofs.levels.children_by.Goals as goal

pub loop-index-preserved : goal.loop-index-preserved
loop-index-preserved c = mapped-more (λ index. record { choice = index; cite = c.args.next + index }) [] c.loop-index.children.items c.push.new.self.items c.loop-index.index c.loop-index.invariant c.in_ok-push.ensures.items
