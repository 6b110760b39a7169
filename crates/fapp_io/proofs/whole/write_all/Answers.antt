use Rattle.std.proofs.Common.{◌<◌, length, length-append, ap, arith, rules}
use Rattle.std.proofs.lemmas.Result.{err_from_is_err_and}
use Rattle.fapp_io.proofs.Counts.{rose_since}
use Rattle.fapp_io.proofs.Known.{front_taken, more_taken}
use Rattle.fapp_io.proofs.whole.write_all.Goals as goal

pub returns-in_err-count : goal.returns-in_err-count
returns-in_err-count g c =
    let p = err_from_is_err_and c.from_residual.result c.from_residual.ensures.1 in
    let failed = c.in_err-count.ensures in
    let so_far = c.pieces.invariant in
    let more : 0 < length c.pieces.rest.now = search rules in
    rw (p.1, p.2) (
      front_taken _ _ _ _ _ so_far.half failed.0 more,
      rose_since _ _ _ so_far.no_fewer failed.1,
      omega (arith, so_far.no_fewer, failed.2),
    )

pub pieces-preserved : goal.pieces-preserved
pieces-preserved g c =
    let taken = c.in_ok-count.ensures in
    let so_far = c.pieces.invariant in
    let more : 0 < length c.pieces.rest.now = search rules in
    record {
      half = more_taken _ _ _ _ _ _ _ so_far.half taken.2 (omega arith);
      no_fewer = omega (arith, so_far.no_fewer, taken.3);
      untouched = λ empty. absurd (omega (arith, more, ap length empty, ap length so_far.half.split, length-append so_far.half.front c.pieces.rest.now));
    }
