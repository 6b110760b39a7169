use Rattle.std.proofs.Common.{arith}
use Rattle.record_reader.proofs.Rises.{rises_first}
use Rattle.record_reader.proofs.line.rises.Goals as goal

pub loop-distance-init : goal.loop-distance-init
loop-distance-init c = rises_first c.args.dist.now 4294967295 (λ i. omega (arith, c.type_inv.dist i))
