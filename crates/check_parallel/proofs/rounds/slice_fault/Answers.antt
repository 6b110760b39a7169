use Rattle.std.proofs.Common.{◌≡◌, ℕ, ◌+◌, ◌-◌, length, sym, ap, ◌∙◌, arith}
use Rattle.cert_lines.specs.acceptance.LineFaults.{fault_at}
use Rattle.check_parallel.specs.Slices.{edge}
use Rattle.check_parallel.proofs.Between.{first_in, none-more, some-more, single, empty}
use Rattle.check_parallel.proofs.Edges.{edge-rises}
use Rattle.check_parallel.proofs.rounds.slice_fault.Goals as goal

pub loop-n-init : goal.loop-n-init
loop-n-init c =
    let f = fault_at c.args.instance.now c.args.answer.now.lines in
    let first = edge (length c.args.answer.now.lines) c.args.from c.args.slice in
    let start : c.edge-n.result ≡ first = c.edge-n.ensures ∙ ap (λ (n : ℕ). edge n c.args.from c.args.slice) c.len-count.ensures in
    ap (λ (n : ℕ). first_in f first n) start ∙ empty f first

pub returns-then-is_some : goal.returns-then-is_some
returns-then-is_some c =
    let f = fault_at c.args.instance.now c.args.answer.now.lines in
    let count = length c.args.answer.now.lines in
    let n = c.loop-n.n in
    let one : n + 1 - 1 ≡ n = omega arith in
    some-more f (edge count c.args.from c.args.slice) n (n + 1) (edge count c.args.from (c.args.slice + 1)) c.in_ok-fault.fault (omega arith) (omega arith) (omega arith)
    c.loop-n.invariant (sym c.is_some.ensures ∙ c.if-is_some.true) (c.in_ok-fault.ensures ∙ ap f one ∙ sym (single f n))

pub loop-n-preserved : goal.loop-n-preserved
loop-n-preserved c =
    let f = fault_at c.args.instance.now c.args.answer.now.lines in
    let count = length c.args.answer.now.lines in
    let n = c.loop-n.n in
    let one : n + 1 - 1 ≡ n = omega arith in
    none-more f (edge count c.args.from c.args.slice) n (n + 1) c.in_ok-fault.fault (omega arith) (omega arith)
    c.loop-n.invariant (sym c.is_some.ensures ∙ c.if-is_some.false) (c.in_ok-fault.ensures ∙ ap f one ∙ sym (single f n))

pub returns : goal.returns
returns c =
    let f = fault_at c.args.instance.now c.args.answer.now.lines in
    let count = length c.args.answer.now.lines in
    let rises = edge-rises count c.args.from c.args.slice (c.args.slice + 1) (omega arith) in
    let end : c.loop-n.n ≡ edge count c.args.from (c.args.slice + 1) = omega (arith, rises) in
    sym (ap (λ (n : ℕ). first_in f (edge count c.args.from c.args.slice) n) (sym end) ∙ c.loop-n.invariant)
