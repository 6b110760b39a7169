use Rattle.std.proofs.Common.{◌≡◌, ℕ, ◌-◌, ◌<◌, IfOk, ap, ◌∙◌, subst, arith}
use Rattle.std.specs.List.{AllZip, range_with_len}
use Rattle.rayon.specs.Numbers.{nat_range}
use Rattle.rayon.proofs.ToStd.{nat_range-All}
use Rattle.check_parallel.specs.Slices.{slice_fault}
use Rattle.check_parallel.proofs.rounds.slice_faults.Goals as goal

pub collect-requires-clause-ready : goal.collect-requires-clause-ready
collect-requires-clause-ready g c κs within =
    let ends = c.into_par_iter.ensures in
    let asked = c.requires in
    let inside = nat_range-All (λ i. i < 32) 0 c.args.workers (λ i low high. omega (arith, high, asked.workers)) in
    rw (c.map.ensures.base, c.map.ensures.f, c.with_min_len.ensures.base, ends.0, ends.1) (λ k d lt. ((inside k d lt, asked.from, asked.instance, asked.answer, asked.marks, asked.few), λ y p. tt))

pub returns : goal.returns
returns g c =
    let ends = c.into_par_iter.ensures in
    let h = c.in_ok-faults.ensures in
    let chain = rw (c.map.ensures.base, c.map.ensures.f, c.with_min_len.ensures.base) at h.1 in
    let whole : c.args.workers - 0 ≡ c.args.workers = omega arith in
    let places = chain.1 ∙ (λ i. nat_range (ends.0 i) (ends.1 i)) ∙ ap (λ (n : ℕ). range_with_len 0 n) whole in
    rw h.2 (subst (λ xs. AllZip (λ k fault. IfOk fault (λ f. f ≡ slice_fault c.args.instance.now c.args.answer.now.lines c.args.from k)) xs h.0) places chain.2)
