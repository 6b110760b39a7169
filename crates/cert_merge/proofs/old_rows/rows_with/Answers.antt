use Rattle.std.proofs.Common.{ℕ, length, replicate, take, ap, arith}
use Rattle.std.proofs.lemmas.List.{length-replicate}
use Rattle.merge_laws.proofs.Starting.{length-placed}
use Rattle.cert_merge.proofs.PlacedRows.{placed-more}
use Rattle.cert_merge.proofs.old_rows.rows_with.Goals as goal

pub index_mut-requires : goal.index_mut-requires
index_mut-requires c =
    let small = c.requires c.loop-place.place-index (0, 0) c.loop-place-test.true in
    omega (arith, small, ap length c.loop-place.invariant, length-placed (take c.loop-place.place-index c.args.placed.now) (replicate c.args.count 0), length-replicate {A = ℕ} c.args.count 0)

pub loop-place-preserved : goal.loop-place-preserved
loop-place-preserved c = placed-more c.args.placed.now c.loop-place.place-index (0, 0) (replicate c.args.count 0) c.loop-place.rows.items c.loop-place-test.true c.loop-place.invariant
