use Rattle.std.proofs.Common.{◌≡◌, ◌<◌, ◌∙◌, ℕ, List, Some, ap, get_or, length, subst, sym}
use Rattle.fapp_model.specs.Assignments.{count_at}
use Rattle.fapp_model.specs.search.Partials.{literal}
use Rattle.nogood.specs.Partials.{choice_given}
use Rattle.choice_counts.specs.Counts.{pair_tally, slot_part}
use Rattle.choice_counts.proofs.Clash.{pair_turned}
use Rattle.forward_count.proofs.Neighbours.{near_below, near_shares}
use Rattle.choice_counts.proofs.NeighbourLaws.{shares_apart}
use Rattle.forward_count.proofs.afresh.slot_tally.Goals as goal

pub pair_tally-requires-clause-apart : goal.pair_tally-requires-clause-apart
pair_tally-requires-clause-apart c =
    let step = c.args.step.now in
    let shares = near_shares step.tables.now step.literal.path c.args.place c.requires.place in
    λ same. shares_apart step.tables.now c.requires.instance step.literal.path _ shares (same ∙ ap (λ (ns : List ℕ). get_or ns c.args.place 0) c.neighbours.ensures)

pub pair_tally-requires-clause-other : goal.pair_tally-requires-clause-other
pair_tally-requires-clause-other c =
    let step = c.args.step.now in
    subst (λ (ns : List ℕ). get_or ns c.args.place 0 < length step.tables.now.paths) (sym c.neighbours.ensures) (near_below step.tables.now step.literal.path c.args.place c.requires.place)

pub pair_tally-requires-clause-index : goal.pair_tally-requires-clause-index
pair_tally-requires-clause-index c =
    let step = c.args.step.now in
    let other = get_or c.neighbours.result.now c.args.place 0 in
    let home = c.requires.given (literal other c.in-Some.index) (sym c.get.ensures ∙ c.in-Some.is) in
    subst (λ n. n < count_at step.tables.now other) (sym c.from.ensures) home.choice

pub returns-in-Some-clause-tally : goal.returns-in-Some-clause-tally
returns-in-Some-clause-tally c =
    let step = c.args.step.now in
    let instance = step.tables.now in
    let other = get_or c.neighbours.result.now c.args.place 0 in
    let given : choice_given c.args.partial.now other ≡ Some c.in-Some.index = sym c.get.ensures ∙ c.in-Some.is in
    let tally : c.pair_tally.result ≡ slot_part (pair_tally instance step.level step.literal) other (choice_given c.args.partial.now other) =
    c.pair_tally.ensures.tally ∙ (pair_turned instance step.level (literal other c.from.result) step.literal ∙ (ap (λ k. pair_tally instance step.level step.literal (literal other k)) c.from.ensures
    ∙ ap (slot_part (pair_tally instance step.level step.literal) other) (sym given))) in
    subst (λ (ns : List ℕ). c.pair_tally.result ≡ slot_part (pair_tally instance step.level step.literal) (get_or ns c.args.place 0) (choice_given c.args.partial.now (get_or ns c.args.place 0))) c.neighbours.ensures tally
