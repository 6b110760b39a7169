use Rattle.std.proofs.Common.{◌<◌, ℕ}
use Rattle.forward_count.specs.Standing.{HasLeft}
use Rattle.forward_count.proofs.afresh.Afresh.all_have_left.Given as goal

abbrev pub invariant-loop-path : goal.invariant-loop-path
invariant-loop-path l = (k : ℕ) → k < l.path → HasLeft l.self.instance l.self.level l.self.pushed k
