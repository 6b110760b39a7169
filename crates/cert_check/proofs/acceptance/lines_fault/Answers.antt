use Rattle.std.proofs.Common.{◌≡◌, ℕ, ◌+◌, ◌-◌, length, sym, ap, ◌∙◌, arith}
use Rattle.std.specs.List.{range_with_len}
use Rattle.cert_lines.specs.acceptance.LineFaults.{fault_at, first_of, lines_fault}
use Rattle.cert_check.proofs.Firsts.{first_at_range, first_range_more}
use Rattle.cert_check.proofs.acceptance.lines_fault.Goals as goal

pub returns-then-is_some : goal.returns-then-is_some
unfolding lines_fault
returns-then-is_some c =
    let f = fault_at c.args.instance.now c.args.answer.now.lines in
    let one : c.loop-n.n + 1 - 1 ≡ c.loop-n.n = omega arith in
    first_at_range f (length c.args.answer.now.lines) c.loop-n.n c.in_ok-fault.fault (omega arith) c.loop-n.invariant (sym c.is_some.ensures ∙ c.if-is_some.true) (c.in_ok-fault.ensures ∙ ap f one)

pub loop-n-preserved : goal.loop-n-preserved
loop-n-preserved c =
    let f = fault_at c.args.instance.now c.args.answer.now.lines in
    let one : c.loop-n.n + 1 - 1 ≡ c.loop-n.n = omega arith in
    first_range_more f c.loop-n.n c.in_ok-fault.fault c.loop-n.invariant (sym c.is_some.ensures ∙ c.if-is_some.false) (c.in_ok-fault.ensures ∙ ap f one)

pub returns : goal.returns
unfolding lines_fault
returns c =
    let all : c.loop-n.n ≡ length c.args.answer.now.lines = omega arith in
    sym (ap (λ (n : ℕ). first_of (fault_at c.args.instance.now c.args.answer.now.lines) (range_with_len 0 n)) (sym all) ∙ c.loop-n.invariant)
