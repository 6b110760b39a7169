use Rattle.std.proofs.Common.{◌≡◌, ℕ, ◌+◌, ◌<◌, length, sym, ap, ◌∙◌, arith, rules}
use Rattle.cert_lines.specs.acceptance.LineFaults.{fault_at}
use Rattle.check_parallel.specs.Slices.{edge, slice_fault}
use Rattle.check_parallel.proofs.Between.{first_in, none-more, some-more, empty}
use Rattle.check_parallel.proofs.Edges.{edge-first, edge-rises}
use Rattle.check_parallel.proofs.SliceFaults.{fault_is, judged_length}
use Rattle.check_parallel.proofs.rounds.round_fault.Goals as goal

pub loop-k-init : goal.loop-k-init
loop-k-init g c =
    let f = fault_at c.args.instance.now c.args.answer.now.lines in
    ap (λ (n : ℕ). first_in f c.args.from n) (edge-first (length c.args.answer.now.lines) c.args.from c.requires.from) ∙ empty f c.args.from

pub returns-then-is_some : goal.returns-then-is_some
returns-then-is_some g c =
    let lines = c.args.answer.now.lines in
    let count = length lines in
    let from = c.args.from in
    let k = c.loop-k.k in
    let slices = slice_fault c.args.instance.now lines from in
    let faults = c.in_ok-faults.faults.items in
    let told = c.in_ok-faults.ensures in
    let size = judged_length slices c.args.workers faults told in
    let inside : k < length faults = search rules in
    let is = fault_is slices c.args.workers k faults c.index.result.now c.in_ok-fault.fault told inside c.index.ensures c.in_ok-fault.was in
    some-more (fault_at c.args.instance.now lines) from (edge count from k) (edge count from (k + 1)) (edge count from c.args.workers) c.in_ok-fault.fault
    (let first = edge-first count from c.requires.from in let rises = edge-rises count from 0 k (omega arith) in omega (arith, first, rises))
    (edge-rises count from k (k + 1) (omega arith)) (edge-rises count from (k + 1) c.args.workers (omega (arith, size, inside)))
    c.loop-k.invariant (sym c.is_some.ensures ∙ c.if-is_some.true) is

pub loop-k-preserved : goal.loop-k-preserved
loop-k-preserved g c =
    let lines = c.args.answer.now.lines in
    let count = length lines in
    let from = c.args.from in
    let k = c.loop-k.k in
    let slices = slice_fault c.args.instance.now lines from in
    let faults = c.in_ok-faults.faults.items in
    let told = c.in_ok-faults.ensures in
    let is = fault_is slices c.args.workers k faults c.index.result.now c.in_ok-fault.fault told (search rules) c.index.ensures c.in_ok-fault.was in
    none-more (fault_at c.args.instance.now lines) from (edge count from k) (edge count from (k + 1)) c.in_ok-fault.fault
    (let first = edge-first count from c.requires.from in let rises = edge-rises count from 0 k (omega arith) in omega (arith, first, rises))
    (edge-rises count from k (k + 1) (omega arith)) c.loop-k.invariant (sym c.is_some.ensures ∙ c.if-is_some.false) is

pub returns : goal.returns
returns g c =
    let lines = c.args.answer.now.lines in
    let slices = slice_fault c.args.instance.now lines c.args.from in
    let faults = c.in_ok-faults.faults.items in
    let size = judged_length slices c.args.workers faults c.in_ok-faults.ensures in
    let end : c.loop-k.k ≡ length faults = search rules in
    sym (ap (λ (n : ℕ). first_in (fault_at c.args.instance.now lines) c.args.from (edge (length lines) c.args.from n)) (sym size ∙ sym end) ∙ c.loop-k.invariant)
