use Rattle.std.proofs.Common.{◌≡◌, false, true, List, set, sym, ap, ◌∙◌, arith}
use Rattle.std.specs.Option.{is_some}
use Rattle.std.proofs.lemmas.List.{get_or-set_same}
use Rattle.nogood.specs.Partials.{choice_given}
use Rattle.choice_counts.specs.declared.rows.PathTallies.{PathTallies}
use Rattle.choice_counts.specs.declared.rows.TheConstants.{HARD}
use Rattle.choice_counts.specs.Moves.{tallies_with}
use Rattle.choice_counts.specs.Totals.{open_sum}
use Rattle.choice_counts.specs.Tallies.{least_part, no_tallies, tallies_at, tallies_by, stuck_part}
use Rattle.choice_counts.proofs.OpenSums.{least_most, open_changed, open_kept, open_most, open_part, stuck_most}
use Rattle.forward_count.proofs.moves.refresh.Goals as goal

pub without-requires-clause-stuck : goal.without-requires-clause-stuck
without-requires-clause-stuck c =
    let free : is_some (choice_given c.args.partial.now c.args.other) ≡ false = sym (c.is_some.ensures ∙ ap is_some c.get.ensures) ∙ c.if-is_some.false in
    omega (arith, open_part stuck_part c.args.partial.now c.args.rows.now c.args.other (omega arith) free, ap stuck_part c.move_at-change.ensures.before, c.requires.open.stuck)

pub without-requires-clause-least : goal.without-requires-clause-least
without-requires-clause-least c =
    let free : is_some (choice_given c.args.partial.now c.args.other) ≡ false = sym (c.is_some.ensures ∙ ap is_some c.get.ensures) ∙ c.if-is_some.false in
    omega (arith, open_part least_part c.args.partial.now c.args.rows.now c.args.other (omega arith) free, ap least_part c.move_at-change.ensures.before, c.requires.open.least)

pub with-requires-clause-stuck : goal.with-requires-clause-stuck
with-requires-clause-stuck c =
    omega (arith, open_most stuck_part c.args.partial.now c.args.rows.now 1 stuck_most, c.requires.open.stuck, c.without.ensures.stuck, c.args.step.now.few)

pub with-requires-clause-least : goal.with-requires-clause-least
with-requires-clause-least c =
    omega (arith, open_most least_part c.args.partial.now c.args.rows.now HARD least_most, c.requires.open.least, c.without.ensures.least, c.args.step.now.few)

pub returns-clause-open : goal.returns-clause-open
returns-clause-open c =
    let rows = c.args.rows.now in
    let slots = c.args.partial.now in
    let other = c.args.other in
    let step = c.args.step.now in
    let free : is_some (choice_given slots other) ≡ false = sym (c.is_some.ensures ∙ ap is_some c.get.ensures) ∙ c.if-is_some.false in
    let row : PathTallies = tallies_by (tallies_with step.taking step.tables.now step.level step.literal other (tallies_at rows other).tallies) in
    let new : c.move_at-change.new.rows ≡ set rows other row = c.move_at-change.ensures.rows in
    let after : c.move_at-change.result.after ≡ row.least = c.move_at-change.ensures.after ∙ (ap (λ (rs : List PathTallies). (tallies_at rs other).least) new ∙ ap (λ (r : PathTallies). r.least) (get_or-set_same rows other row no_tallies (omega arith))) in
    let stuck = open_changed stuck_part slots rows other row (omega arith) (omega arith) free in
    let least = open_changed least_part slots rows other row (omega arith) (omega arith) free in
    record {
      stuck = omega (arith, stuck, ap (open_sum stuck_part slots) new, ap stuck_part c.move_at-change.ensures.before, ap stuck_part after, c.without.ensures.stuck, c.with.ensures.stuck, c.requires.open.stuck);
      least = omega (arith, least, ap (open_sum least_part slots) new, ap least_part c.move_at-change.ensures.before, ap least_part after, c.without.ensures.least, c.with.ensures.least, c.requires.open.least);
    }

pub returns-then-is_some-clause-open : goal.returns-then-is_some-clause-open
returns-then-is_some-clause-open c =
    let rows = c.args.rows.now in
    let slots = c.args.partial.now in
    let other = c.args.other in
    let step = c.args.step.now in
    let taken : is_some (choice_given slots other) ≡ true = sym (c.is_some.ensures ∙ ap is_some c.get.ensures) ∙ c.if-is_some.true in
    let row : PathTallies = tallies_by (tallies_with step.taking step.tables.now step.level step.literal other (tallies_at rows other).tallies) in
    let new : c.move_at-change.new.rows ≡ set rows other row = c.move_at-change.ensures.rows in
    record {
      stuck = c.requires.open.stuck ∙ sym (ap (open_sum stuck_part slots) new ∙ open_kept stuck_part slots rows other row taken);
      least = c.requires.open.least ∙ sym (ap (open_sum least_part slots) new ∙ open_kept least_part slots rows other row taken);
    }
