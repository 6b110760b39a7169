use Rattle.std.proofs.Common.{◌≡◌, ℕ, length, sym, ap, ◌∙◌, arith}
use Rattle.cert_lines.specs.acceptance.LineFaults.{fault_at, lines_fault}
use Rattle.check_parallel.specs.Slices.{edge}
use Rattle.check_parallel.proofs.Between.{first_in, from-first, none-more, some-more}
use Rattle.check_parallel.proofs.Edges.{edge-first, edge-rises, edge-within}
use Rattle.check_parallel.proofs.rounds.lines_fault.Goals as goal

pub returns-then-is_some : goal.returns-then-is_some
unfolding lines_fault
returns-then-is_some g c =
    let f = fault_at c.args.instance.now c.args.answer.now.lines in
    let count = length c.args.answer.now.lines in
    let from = c.loop-from.from in
    let first = edge-first count from (omega arith) in
    let rises = edge-rises count from 0 c.args.workers (omega arith) in
    some-more f 0 from (edge count from c.args.workers) count c.in_ok-fault.fault (omega arith) (omega (arith, first, rises)) (edge-within count from c.args.workers)
    c.loop-from.invariant.1 (sym c.is_some.ensures ∙ c.if-is_some.true) c.in_ok-fault.ensures
    ∙ from-first f count

pub returns : goal.returns
unfolding lines_fault
returns g c =
    let f = fault_at c.args.instance.now c.args.answer.now.lines in
    let all : length c.args.answer.now.lines ≡ c.loop-from.from = omega (arith, c.loop-from.invariant.0, c.loop-from-test.false, c.len-count.ensures) in
    sym (sym (from-first f (length c.args.answer.now.lines)) ∙ (ap (λ (n : ℕ). first_in f 0 n) all ∙ c.loop-from.invariant.1))

pub loop-from-preserved : goal.loop-from-preserved
loop-from-preserved g c =
    let f = fault_at c.args.instance.now c.args.answer.now.lines in
    let count = length c.args.answer.now.lines in
    let from = c.loop-from.from in
    let next = edge count from c.args.workers in
    let end : c.edge-from.result ≡ next = c.edge-from.ensures ∙ ap (λ (n : ℕ). edge n from c.args.workers) c.len-count.ensures in
    let first = edge-first count from (omega arith) in
    let rises = edge-rises count from 0 c.args.workers (omega arith) in
    let within = edge-within count from c.args.workers in
    let none = none-more f 0 from next c.in_ok-fault.fault (omega arith) (omega (arith, first, rises)) c.loop-from.invariant.1 (sym c.is_some.ensures ∙ c.if-is_some.false) c.in_ok-fault.ensures in
    (omega (arith, end, within, c.len-count.ensures), ap (λ (n : ℕ). first_in f 0 n) end ∙ none)
