use Rattle.std.proofs.Common.{◌+◌, arith}
use Rattle.std.proofs.lemmas.List.{get_or_read}
use Rattle.fapp_tables.proofs.PartLaws.{run_at}
use Rattle.fapp_tables.proofs.tables.Tables.records_at.Goals as goal

pub index-requires-2 : goal.index-requires-2
index-requires-2 c =
    let run = run_at c.self.inside.instance.now c.args.self.now c.self.inside.starts.items c.self.inside.neighbours.items c.self.inside.firsts.items c.self.inside.positions.items
    c.args.path c.args.place c.index.result.now c.self.view_is c.self.invariant.indexed c.requires.path c.requires.place c.index.ensures in
    omega (arith, run.inside)

pub overflow_add-run-2 : goal.overflow_add-run-2
overflow_add-run-2 c =
    let run = run_at c.self.inside.instance.now c.args.self.now c.self.inside.starts.items c.self.inside.neighbours.items c.self.inside.firsts.items c.self.inside.positions.items
    c.args.path c.args.place c.index.result.now c.self.view_is c.self.invariant.indexed c.requires.path c.requires.place c.index.ensures in
    omega (arith, run.inside)

pub slice_bounds-result-count : goal.slice_bounds-result-count
slice_bounds-result-count c =
    let run = run_at c.self.inside.instance.now c.args.self.now c.self.inside.starts.items c.self.inside.neighbours.items c.self.inside.firsts.items c.self.inside.positions.items
    c.args.path c.args.place c.index.result.now c.self.view_is c.self.invariant.indexed c.requires.path c.requires.place c.index.ensures in
    let firsts = c.self.inside.firsts.items in
    let k = c.index.result.now + c.args.place in
    let low = get_or_read firsts k c.index-2.result.now (omega (arith, run.inside)) c.index-2.ensures 0 in
    let high = get_or_read firsts (k + 1) c.index-3.result.now run.inside c.index-3.ensures 0 in
    omega (arith, low, high, run.forward)
