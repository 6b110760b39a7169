use Rattle.std.proofs.Common.{Fits, arith, w64, ◌+◌, ◌/◌}
use Rattle.forward_count.proofs.DeadLaws.{bound_fits, bound_here, seen}
use Rattle.forward_count.proofs.forward.Forward.sum.Goals as goal

pub overflow_add-result : goal.overflow_add-result
overflow_add-result c =
    let small = bound_fits c.args.self.now.instance c.args.self.now.level c.args.self.now.pushed c.self.inside.partial c.self.inside.rows.items c.self.inside.totals c.self.inside.pushed.cap (seen c.self.inside.tables.now c.self.inside.level c.self.inside.pushed.items c.self.inside.partial c.self.inside.rows.items c.self.inside.totals c.self.inside.pushed.cap c.self.invariant.1 c.args.self.now c.self.view_is) in
    let fits : Fits w64 (c.self.inside.totals.twice_inside / 2 + c.self.inside.totals.open_paths.least) = omega (arith, small) in
    fits

pub returns : goal.returns
returns c = bound_here c.args.self.now.instance c.args.self.now.level c.args.self.now.pushed c.self.inside.partial c.self.inside.rows.items c.self.inside.totals c.self.inside.pushed.cap (seen c.self.inside.tables.now c.self.inside.level c.self.inside.pushed.items c.self.inside.partial c.self.inside.rows.items c.self.inside.totals c.self.inside.pushed.cap c.self.invariant.1 c.args.self.now c.self.view_is) c.requires
