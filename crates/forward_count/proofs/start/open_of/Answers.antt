use Rattle.std.proofs.Common.{get_or, take, arith}
use Rattle.std.proofs.lemmas.List.{length-take-le}
use Rattle.std.proofs.lemmas.List.Sums.{sum_by-le}
use Rattle.choice_counts.specs.declared.rows.PathTallies.{PathTallies}
use Rattle.choice_counts.specs.declared.rows.TheConstants.{HARD}
use Rattle.choice_counts.specs.Tallies.{least_part, stuck_part}
use Rattle.choice_counts.proofs.OpenSums.{least_most, stuck_most}
use Rattle.forward_count.proofs.start.open_of.Goals as goal

pub with-open_paths-requires-clause-stuck : goal.with-open_paths-requires-clause-stuck
with-open_paths-requires-clause-stuck c =
    let rows = take c.loop-row.row-index c.args.rows.now in
    let most = sum_by-le (λ (row : PathTallies). stuck_part row.least) 1 rows (λ k d _. stuck_most (get_or rows k d).least) in
    omega (arith, most, c.loop-row.invariant.stuck, c.requires, c.loop-row-test.true, length-take-le c.loop-row.row-index c.args.rows.now (omega arith))

pub with-open_paths-requires-clause-least : goal.with-open_paths-requires-clause-least
with-open_paths-requires-clause-least c =
    let rows = take c.loop-row.row-index c.args.rows.now in
    let most = sum_by-le (λ (row : PathTallies). least_part row.least) HARD rows (λ k d _. least_most (get_or rows k d).least) in
    omega (arith, most, c.loop-row.invariant.least, c.requires, c.loop-row-test.true, length-take-le c.loop-row.row-index c.args.rows.now (omega arith))
