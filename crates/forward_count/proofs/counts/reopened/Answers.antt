use Rattle.std.proofs.Common.{◌≡◌, ◌<◌, Bool, true, false, length, sym, ap, ◌∙◌, subst, arith}
use Rattle.std.specs.Option.{is_some}
use Rattle.nogood.specs.Partials.{choice_given}
use Rattle.choice_counts.specs.declared.rows.PathTallies.{PathTallies}
use Rattle.choice_counts.specs.declared.rows.TheConstants.{HARD}
use Rattle.choice_counts.specs.Totals.{AreOpenPaths}
use Rattle.choice_counts.specs.Tallies.{least_part, stuck_part}
use Rattle.choice_counts.proofs.OpenSums.{least_most, open_freed, open_most, open_part, open_taken, stuck_most}
use Rattle.forward_count.specs.SlotSteps.{slots_after}
use Rattle.forward_count.proofs.counts.reopened.Goals as goal

pub with-requires-clause-stuck : goal.with-requires-clause-stuck
with-requires-clause-stuck c =
    omega (arith, open_most stuck_part c.args.partial.now c.args.rows.now 1 stuck_most, c.requires.open.stuck, c.args.step.now.few, c.requires.slots)

pub with-requires-clause-least : goal.with-requires-clause-least
with-requires-clause-least c =
    omega (arith, open_most least_part c.args.partial.now c.args.rows.now HARD least_most, c.requires.open.least, c.args.step.now.few, c.requires.slots)

pub without-requires-clause-stuck : goal.without-requires-clause-stuck
without-requires-clause-stuck c =
    let path = c.args.step.now.literal.path in
    let inside : path < length c.args.partial.now = omega (arith, c.args.step.now.home.path, c.requires.slots) in
    let free : is_some (choice_given c.args.partial.now path) ≡ false = c.requires.slot ∙ c.if-step.false in
    omega (arith, open_part stuck_part c.args.partial.now c.args.rows.now path inside free, ap (λ (r : PathTallies). stuck_part r.least) c.tallies_at.ensures, c.requires.open.stuck)

pub without-requires-clause-least : goal.without-requires-clause-least
without-requires-clause-least c =
    let path = c.args.step.now.literal.path in
    let inside : path < length c.args.partial.now = omega (arith, c.args.step.now.home.path, c.requires.slots) in
    let free : is_some (choice_given c.args.partial.now path) ≡ false = c.requires.slot ∙ c.if-step.false in
    omega (arith, open_part least_part c.args.partial.now c.args.rows.now path inside free, ap (λ (r : PathTallies). least_part r.least) c.tallies_at.ensures, c.requires.open.least)

pub returns-then-step : goal.returns-then-step
returns-then-step c =
    let step = c.args.step.now in
    let path = step.literal.path in
    let slots = c.args.partial.now in
    let rows = c.args.rows.now in
    let inside : path < length slots = omega (arith, step.home.path, c.requires.slots) in
    let taken : is_some (choice_given slots path) ≡ true = c.requires.slot ∙ c.if-step.true in
    let stuck = open_freed stuck_part slots rows path inside taken in
    let least = open_freed least_part slots rows path inside taken in
    subst (λ (t : Bool). AreOpenPaths (slots_after t step.literal slots) rows c.with.result) (sym c.if-step.true)
    (record {
      stuck = omega (arith, stuck, ap (λ (r : PathTallies). stuck_part r.least) c.tallies_at.ensures, c.requires.open.stuck, c.with.ensures.stuck);
      least = omega (arith, least, ap (λ (r : PathTallies). least_part r.least) c.tallies_at.ensures, c.requires.open.least, c.with.ensures.least);
    })

pub returns-else-step : goal.returns-else-step
returns-else-step c =
    let step = c.args.step.now in
    let path = step.literal.path in
    let slots = c.args.partial.now in
    let rows = c.args.rows.now in
    let inside : path < length slots = omega (arith, step.home.path, c.requires.slots) in
    let free : is_some (choice_given slots path) ≡ false = c.requires.slot ∙ c.if-step.false in
    let stuck = open_taken stuck_part slots rows path step.literal.choice inside free in
    let least = open_taken least_part slots rows path step.literal.choice inside free in
    subst (λ (t : Bool). AreOpenPaths (slots_after t step.literal slots) rows c.without.result) (sym c.if-step.false)
    (record {
      stuck = omega (arith, stuck, ap (λ (r : PathTallies). stuck_part r.least) c.tallies_at.ensures, c.requires.open.stuck, c.without.ensures.stuck);
      least = omega (arith, least, ap (λ (r : PathTallies). least_part r.least) c.tallies_at.ensures, c.requires.open.least, c.without.ensures.least);
    })
