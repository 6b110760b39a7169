use Rattle.std.proofs.Common.{◌<◌, List, [], arith, length}
use Rattle.choice_counts.specs.declared.fill.PairCells.{PairCells}
use Rattle.choice_counts.specs.Tables.{AreLinksOf}
use Rattle.choice_counts.proofs.TableLaws.{one_more, shaped_more}
use Rattle.choice_counts.proofs.table.fill_all.Goals as goal

pub loop-path-preserved : goal.loop-path-preserved
loop-path-preserved c =
    let inside : c.loop-path.path < length c.loop-path.table = omega (arith, c.loop-path.auto.table, c.loop-path-test.true) in
    record {
      shaped = shaped_more c.args.tables.now c.loop-path.table (length c.args.tables.now.paths) c.loop-path.path c.fill.new.self inside c.loop-path.invariant.shaped c.fill.ensures.count;
      done = one_more (λ k (links : List PairCells). AreLinksOf c.args.tables.now c.args.level k links) c.loop-path.table c.loop-path.path c.fill.new.self [] inside c.loop-path.invariant.done c.fill.ensures;
    }
