use Rattle.std.proofs.Common.{◌≡◌, ◌<◌, ◌≤◌, ◌∙◌, ℕ, List, ap, length, refl, sym, arith}
use Rattle.std.proofs.lemmas.List.{get_or_default, take_all}
use Rattle.choice_counts.specs.Tallies.{least_of_tallies, tally_at}
use Rattle.choice_counts.proofs.Least.{least_none}
use Rattle.forward_count.proofs.RowLaws.{floor_found, least_more}
use Rattle.forward_count.proofs.rows.least_from.Goals.{then-tally-least, else-tally-least}
use Rattle.forward_count.proofs.rows.least_from.Goals as goal

pub returns-then-has_marked-clause-least : goal.returns-then-has_marked-clause-least
returns-then-has_marked-clause-least c = floor_found c.args.tallies.now c.args.floor c.requires (c.has_marked.ensures c.if-has_marked.true)

pub loop-index-init : goal.loop-index-init
loop-index-init c = record { same = refl; least = sym least_none }

pub returns-then-tally-floor-clause-least : goal.returns-then-tally-floor-clause-least
returns-then-tally-floor-clause-least c =
    let tallies = c.args.tallies.now in
    let index = c.loop-index.index in
    let same : c.loop-index.tallies ≡ tallies = c.loop-index.invariant.same in
    let inside : index < length tallies = omega (arith, ap (λ (ws : List ℕ). length ws) same, c.loop-index-test.true) in
    let here : tally_at tallies index ≡ c.args.floor = sym (ap (λ (ws : List ℕ). tally_at ws index) same) ∙ (sym c.get-tally.ensures ∙ c.if-tally-floor.true) in
    floor_found tallies c.args.floor c.requires (index, inside, get_or_default tallies index c.args.floor 0 inside ∙ here)

pub loop-index-preserved : goal.loop-index-preserved
loop-index-preserved c =
    let tallies = c.loop-index.tallies in
    let index = c.loop-index.index in
    let inside : index < length tallies = omega (arith, ap (λ (ws : List ℕ). length ws) c.loop-index.invariant.same, c.loop-index-test.true) in
    let more = least_more tallies index c.loop-index.least inside c.loop-index.invariant.least in
    record {
      same = c.loop-index.invariant.same;
      least = elim c.if-tally-least.branch [
        | then-tally-least w ↦ omega (arith, more, w.least-is, w.if-tally-least.true, c.get-tally.ensures)
        | else-tally-least w ↦ omega (arith, more, w.least-is, w.if-tally-least.false, c.get-tally.ensures)
      ];
    }

pub returns-clause-least : goal.returns-clause-least
returns-clause-least c =
    let tallies = c.loop-index.tallies in
    let same = c.loop-index.invariant.same in
    let past : length tallies ≤ c.loop-index.index = omega (arith, ap (λ (ws : List ℕ). length ws) same, c.loop-index-test.false) in
    c.loop-index.invariant.least ∙ ap least_of_tallies (take_all c.loop-index.index tallies past ∙ same)
