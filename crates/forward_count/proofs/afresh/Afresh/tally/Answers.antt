use Rattle.std.proofs.Common.{◌≡◌, ◌≤◌, ◌+◌, ◌∙◌, [], ℕ, Fits, List, ap, arith, length, sum_by, w64}
use Rattle.std.proofs.lemmas.List.{take_all}
use Rattle.fapp_model.specs.search.Partials.{literal}
use Rattle.fapp_tables.specs.Indexes.{neighbours_of}
use Rattle.nogood.specs.Partials.{choice_given}
use Rattle.choice_counts.specs.Counts.{pair_tally, slot_part, tally_of}
use Rattle.choice_counts.proofs.DeadByBound.{level_few}
use Rattle.forward_count.proofs.AfreshLaws.{tally_is}
use Rattle.forward_count.proofs.Neighbours.{near_few}
use Rattle.forward_count.proofs.afresh.Afresh.tally.Goals as goal

pub new-step-requires-clause-level : goal.new-step-requires-clause-level
new-step-requires-clause-level c = level_few c.self.inside.tables.now c.self.inside.level c.self.invariant.1.low

pub overflow_add-tally : goal.overflow_add-tally
overflow_add-tally c =
    let few = near_few c.self.inside.tables.now c.args.path in
    let count : length c.neighbours-place-end.result.now ≡ length (neighbours_of c.self.inside.tables.now c.args.path) = ap (λ (ns : List ℕ). length ns) c.neighbours-place-end.ensures in
    let fits : Fits w64 (c.loop-place.tally + c.slot_tally-tally.result) = omega (arith, few, count, c.loop-place.invariant.small, c.slot_tally-tally.ensures.small, c.loop-place-test.true, c.self.invariant.1.valid.few_paths) in
    fits

pub returns : goal.returns
returns c =
    let s = c.self.inside in
    let near = neighbours_of s.tables.now c.args.path in
    let part : ℕ → ℕ = λ p. slot_part (pair_tally s.tables.now s.level (literal c.args.path c.args.choice)) p (choice_given s.partial.now p) in
    let past : length near ≤ c.loop-place.place = omega (arith, ap (λ (ns : List ℕ). length ns) c.neighbours-place-end.ensures, c.loop-place-test.false) in
    tally_is s.tables.now s.level s.pushed.now s.partial.now c.self.invariant.1 c.args.self.now c.self.view_is (literal c.args.path c.args.choice) c.loop-place.tally
    (λ arc arcs. c.loop-place.invariant.sum arc arcs ∙ ap (λ (ns : List ℕ). tally_of s.tables.now s.level arc [] (literal c.args.path c.args.choice) + sum_by part ns) (take_all c.loop-place.place near past))
