use Rattle.std.proofs.Common.{◌≡◌, ℕ, ◌-◌, List, length, arith, ap, ◌∙◌}
use Rattle.cert_check.proofs.Notes.{all-noted}
use Rattle.cert_check.proofs.deleters.deleters_of.Goals as goal

pub returns : goal.returns
returns c = all-noted c.args.lines.now c.loop-done.table.items c.from_vec.result c.loop-done.done (omega arith) c.from_vec.ensures c.loop-done.invariant
