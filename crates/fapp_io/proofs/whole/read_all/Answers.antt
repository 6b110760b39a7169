use Rattle.std.proofs.Common.{◌≡◌, ℕ, ◌+◌, ◌≤◌, length, subst, arith}
use Rattle.std.proofs.lemmas.List.{length-take}
use Rattle.std.proofs.lemmas.Result.{err_from_is_err_and}
use Rattle.fapp_io.specs.Known.{Drops}
use Rattle.fapp_io.proofs.Counts.{rose_since}
use Rattle.fapp_io.proofs.Known.{drops_more, drops_given}
use Rattle.fapp_io.proofs.whole.read_all.Goals as goal

pub returns-in_err-count : goal.returns-in_err-count
returns-in_err-count g c =
    let p = err_from_is_err_and c.from_residual.result c.from_residual.ensures.1 in
    let so_far = c.pieces.invariant in
    let failed = c.in_err-count.ensures in
    rw (p.1, p.2) (
      (length c.pieces.bytes.items, so_far.within, drops_given _ _ _ _ so_far.given_first failed.0),
      rose_since _ _ _ so_far.no_fewer failed.1,
      omega (arith, so_far.no_fewer, failed.2),
    )

pub returns-then-count-limit : goal.returns-then-count-limit
returns-then-count-limit g c =
    let so_far = c.pieces.invariant in
    let given = c.in_ok-count.ensures in
    let taken : length c.pieces.bytes.items + c.in_ok-count.count ≡ c.args.limit + 1 =
    omega (arith, given.0, c.pieces.bytes.ok.0, so_far.within, c.read.auto.buf, c.min-room.ensures, length-take {A = ℕ}) in (
      subst (Drops (g.S.Source.moment c.args.source.now).left (g.S.Source.moment c.read.new.self).left) taken (drops_more _ _ _ _ _ so_far.given_first given.2),
      omega (arith, so_far.no_fewer, given.3),
    )

pub returns-in_err-extend_from_slice : goal.returns-in_err-extend_from_slice
returns-in_err-extend_from_slice g c =
    let p = err_from_is_err_and c.from_residual-in_err-extend_from_slice.result c.from_residual-in_err-extend_from_slice.ensures.1 in
    let so_far = c.pieces.invariant in
    let given = c.in_ok-count.ensures in
    let within : length c.pieces.bytes.items + c.in_ok-count.count ≤ c.args.limit =
    omega (arith, c.pieces.bytes.ok.0, so_far.within) in
    rw (p.1, p.2) (
      (length c.pieces.bytes.items + c.in_ok-count.count, within, drops_more _ _ _ _ _ so_far.given_first given.2),
      omega (arith, so_far.no_fewer, given.3),
    )
