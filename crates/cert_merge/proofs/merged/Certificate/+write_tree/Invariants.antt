use Rattle.std.proofs.Common.{length}
use Rattle.cert_merge.proofs.merged.Certificate.+write_tree.Given as goal

abbrev pub decreases-write_tree : goal.decreases-write_tree
decreases-write_tree l = length l.steps.now
