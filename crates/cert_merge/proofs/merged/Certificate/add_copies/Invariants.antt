use Rattle.std.proofs.Common.{◌≡◌, ◌++◌, take}
use Rattle.cert_merge.specs.Growth.{with_out}
use Rattle.cert_merge.proofs.merged.Certificate.add_copies.Given as goal

abbrev pub invariant-loop-line : goal.invariant-loop-line
invariant-loop-line l = l.self ≡ with_out l.fn.self (l.fn.self.out ++ take l.line-index l.lines)
