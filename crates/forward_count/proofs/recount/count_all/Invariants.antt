use Rattle.std.proofs.Common.{take}
use Rattle.choice_counts.specs.Kept.{AreKept}
use Rattle.forward_count.proofs.recount.count_all.Given as goal

abbrev pub invariant-loop-index : goal.invariant-loop-index
invariant-loop-index l = AreKept l.tables l.level (take l.index l.literals) l.partial l.rows l.counted
