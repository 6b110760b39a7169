use Rattle.std.proofs.Common.{◌≡◌, ◌+◌, ◌<◌, ◌≤◌, ◌∙◌, [], ℕ, List, ap, inl, inr, length, refl, set, subst, sym, take, arith}
use Rattle.std.proofs.lemmas.Bool.{cases_eq, cases_lt}
use Rattle.std.proofs.lemmas.List.{get_or-set_other, get_or-set_same, length-set}
use Rattle.std.proofs.lemmas.List.FromFn.{fill_by_all}
use Rattle.dead_laws.specs.ArcLaws.{IsArcs}
use Rattle.fapp_model.specs.declared.instance.Instance.{Instance}
use Rattle.fapp_model.specs.Assignments.{count_at}
use Rattle.fapp_model.specs.search.Partials.{literal}
use Rattle.choice_counts.specs.Counts.{tally_of, tallies_of}
use Rattle.choice_counts.specs.Tallies.{least_of_tallies, tally_at}
use Rattle.choice_counts.proofs.Least.{least_none}
use Rattle.forward_count.proofs.RowLaws.{least_all, least_write, row_made}
use Rattle.forward_count.proofs.start.reset_row.Goals as goal

pub loop-choice-init : goal.loop-choice-init
loop-choice-init c = record { count = refl; done = λ k below. absurd (omega (arith, below)); least = sym least_none }

below_other : (k index : ℕ) → k < index + 1 → (k ≡ index → ⊥) → k < index
below_other k index below other = elim (cases_lt k index) [ inl less ↦ less | inr more ↦ absurd (other (omega arith)) ]

pub loop-choice-preserved : goal.loop-choice-preserved
loop-choice-preserved c =
    let index = c.loop-choice.choice in
    let tallies = c.loop-choice.row.tallies in
    let tally = c.outside_tally-tally.result in
    let same : c.set.new.self ≡ set tallies index tally = c.set.ensures in
    let inside : index < length tallies = omega (arith, c.loop-choice.invariant.count, c.requires.count, c.count-choice-end.ensures.count, c.loop-choice-test.true) in
    record {
      count = ap length same ∙ (length-set tallies index tally ∙ c.loop-choice.invariant.count);
      done = λ k below arc arcs. ap (λ (ws : List ℕ). tally_at ws k) same ∙ elim (cases_eq k index) [
        | inl e ↦ ap (tally_at (set tallies index tally)) e ∙ (get_or-set_same tallies index tally 0 inside ∙ (subst (λ (i : Instance). IsArcs i c.args.level arc → tally ≡ tally_of i c.args.level arc [] (literal c.args.path index)) c.requires.same (c.outside_tally-tally.ensures.tally arc) arcs ∙ ap (λ j. tally_of c.args.instance.now c.args.level arc [] (literal c.args.path j)) (sym e)))
        | inr other ↦ get_or-set_other tallies index k tally 0 other ∙ c.loop-choice.invariant.done k (below_other k index below other) arc arcs
      ];
      least = subst (λ (ws : List ℕ). c.min-least.result ≡ least_of_tallies (take (index + 1) ws)) (sym same) (least_write tallies index tally c.loop-choice.least _ inside c.loop-choice.invariant.least c.min-least.ensures);
    }

pub returns : goal.returns
returns c arc arcs =
    let tallies = c.loop-choice.row.tallies in
    let instance = c.args.instance.now in
    let past : length tallies ≤ c.loop-choice.choice = omega (arith, c.loop-choice.invariant.count, c.requires.count, c.count-choice-end.ensures.count, c.loop-choice-test.false) in
    let made : tallies ≡ tallies_of instance c.args.level arc [] c.args.path = fill_by_all (λ k. tally_of instance c.args.level arc [] (literal c.args.path k)) tallies (count_at instance c.args.path) 0 (c.loop-choice.invariant.count ∙ c.requires.count)
    (λ k below. c.loop-choice.invariant.done k (omega (arith, below, past, c.loop-choice.invariant.count, c.requires.count)) arc arcs) in
    row_made tallies (tallies_of instance c.args.level arc [] c.args.path) c.loop-choice.least made (least_all tallies _ c.loop-choice.choice c.loop-choice.least past c.loop-choice.invariant.least made)
