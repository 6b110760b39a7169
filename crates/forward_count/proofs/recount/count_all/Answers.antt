use Rattle.std.proofs.Common.{◌≡◌, ◌∙◌, ◌*◌, ◌/◌, ◌%◌, false, List, ap, get_or, length, refl, subst, sym, take, arith}
use Rattle.std.specs.Option.{is_some}
use Rattle.std.proofs.lemmas.List.{take_more}
use Rattle.nogood.specs.Partials.{choice_given}
use Rattle.fapp_model.specs.declared.literal.Literal.{Literal}
use Rattle.fapp_model.specs.search.Partials.{literal}
use Rattle.choice_counts.specs.declared.rows.TheConstants.{HARD}
use Rattle.choice_counts.specs.Kept.{AreKept}
use Rattle.choice_counts.specs.Moves.{CanMoveAll, moved, rows_with}
use Rattle.choice_counts.specs.Totals.{AreRows}
use Rattle.choice_counts.proofs.DeadByBound.{level_few}
use Rattle.choice_counts.proofs.KeptLaws.{own_tally}
use Rattle.forward_count.specs.SlotSteps.{CanCount, slots_after}
use Rattle.forward_count.proofs.StepLaws.{IsCounted, forward_rows, pushes, pushes_can, pushes_fit, pushes_slot, same_step}
use Rattle.forward_count.proofs.TakeLaws.{forward_take, fresh_at}
use Rattle.forward_count.proofs.recount.count_all.Goals as goal

pub new-step-requires-clause-level : goal.new-step-requires-clause-level
new-step-requires-clause-level c = level_few c.args.tables.now c.args.level c.requires.level

pub count_step-counted-requires-clause-rows : goal.count_step-counted-requires-clause-rows
count_step-counted-requires-clause-rows c =
    same_step (λ t i k b rs. AreRows i rs) c.new-step.result.taking false c.new-step.result.tables.now c.args.tables.now c.new-step.result.level c.args.level c.new-step.result.literal (get_or c.args.literals.now c.loop-index.index (literal 0 0)) c.loop-index.rows c.loop-index.rows
    c.new-step.ensures.taking c.new-step.ensures.tables c.new-step.ensures.level c.new-step.ensures.literal refl
    (forward_rows c.args.tables.now c.args.level (take c.loop-index.index c.args.literals.now) c.loop-index.partial c.loop-index.rows c.loop-index.counted (length c.args.tables.now.paths) (forward_take c.args.tables.now c.args.level c.args.literals.now c.loop-index.index c.loop-index.partial c.loop-index.rows c.loop-index.counted c.requires.instance c.requires.level c.requires.literals (omega arith) c.loop-index.invariant))

pub count_step-counted-requires-clause-slot : goal.count_step-counted-requires-clause-slot
count_step-counted-requires-clause-slot c =
    same_step (λ t i k b rs. is_some (choice_given c.loop-index.partial b.path) ≡ t) c.new-step.result.taking false c.new-step.result.tables.now c.args.tables.now c.new-step.result.level c.args.level c.new-step.result.literal (get_or c.args.literals.now c.loop-index.index (literal 0 0)) c.loop-index.rows c.loop-index.rows
    c.new-step.ensures.taking c.new-step.ensures.tables c.new-step.ensures.level c.new-step.ensures.literal refl
    (pushes_slot c.args.tables.now c.args.level (take c.loop-index.index c.args.literals.now) c.loop-index.partial c.loop-index.rows c.loop-index.counted (length c.args.tables.now.paths) (forward_take c.args.tables.now c.args.level c.args.literals.now c.loop-index.index c.loop-index.partial c.loop-index.rows c.loop-index.counted c.requires.instance c.requires.level c.requires.literals (omega arith) c.loop-index.invariant) (get_or c.args.literals.now c.loop-index.index (literal 0 0)) (c.requires.literals.in_range c.loop-index.index (literal 0 0) c.loop-index-test.true) (fresh_at c.args.literals.now c.loop-index.index (literal 0 0) c.loop-index-test.true c.requires.literals.distinct))

pub count_step-counted-requires-clause-can : goal.count_step-counted-requires-clause-can
count_step-counted-requires-clause-can c =
    same_step (λ t i k b rs. CanMoveAll t i k b rs) c.new-step.result.taking false c.new-step.result.tables.now c.args.tables.now c.new-step.result.level c.args.level c.new-step.result.literal (get_or c.args.literals.now c.loop-index.index (literal 0 0)) c.loop-index.rows c.loop-index.rows
    c.new-step.ensures.taking c.new-step.ensures.tables c.new-step.ensures.level c.new-step.ensures.literal refl
    (pushes_can c.args.tables.now c.args.level (take c.loop-index.index c.args.literals.now) c.loop-index.partial c.loop-index.rows c.loop-index.counted (length c.args.tables.now.paths) (forward_take c.args.tables.now c.args.level c.args.literals.now c.loop-index.index c.loop-index.partial c.loop-index.rows c.loop-index.counted c.requires.instance c.requires.level c.requires.literals (omega arith) c.loop-index.invariant) (get_or c.args.literals.now c.loop-index.index (literal 0 0)) (c.requires.literals.in_range c.loop-index.index (literal 0 0) c.loop-index-test.true) (fresh_at c.args.literals.now c.loop-index.index (literal 0 0) c.loop-index-test.true c.requires.literals.distinct))

pub count_step-counted-requires-clause-fits : goal.count_step-counted-requires-clause-fits
count_step-counted-requires-clause-fits c =
    same_step (λ t i k b rs. CanCount t c.loop-index.counted (own_tally rs b)) c.new-step.result.taking false c.new-step.result.tables.now c.args.tables.now c.new-step.result.level c.args.level c.new-step.result.literal (get_or c.args.literals.now c.loop-index.index (literal 0 0)) c.loop-index.rows c.loop-index.rows
    c.new-step.ensures.taking c.new-step.ensures.tables c.new-step.ensures.level c.new-step.ensures.literal refl
    (pushes_fit c.args.tables.now c.args.level (take c.loop-index.index c.args.literals.now) c.loop-index.partial c.loop-index.rows c.loop-index.counted (length c.args.tables.now.paths) (forward_take c.args.tables.now c.args.level c.args.literals.now c.loop-index.index c.loop-index.partial c.loop-index.rows c.loop-index.counted c.requires.instance c.requires.level c.requires.literals (omega arith) c.loop-index.invariant) (get_or c.args.literals.now c.loop-index.index (literal 0 0)) (c.requires.literals.in_range c.loop-index.index (literal 0 0) c.loop-index-test.true) (fresh_at c.args.literals.now c.loop-index.index (literal 0 0) c.loop-index-test.true c.requires.literals.distinct))

pub loop-index-preserved : goal.loop-index-preserved
loop-index-preserved c =
    let now = c.count_step-counted in
    let step = c.new-step in
    let a = (get_or c.args.literals.now c.loop-index.index (literal 0 0)) in
    let before = (forward_take c.args.tables.now c.args.level c.args.literals.now c.loop-index.index c.loop-index.partial c.loop-index.rows c.loop-index.counted c.requires.instance c.requires.level c.requires.literals (omega arith) c.loop-index.invariant) in
    let counted : IsCounted c.args.tables.now c.args.level (take c.loop-index.index c.args.literals.now) c.loop-index.partial c.loop-index.rows c.loop-index.counted (length c.args.tables.now.paths) before false a now.new.partial now.new.rows now.result = record {
      slots_are = now.ensures.slots ∙ (ap (λ t. slots_after t step.result.literal c.loop-index.partial) step.ensures.taking ∙ ap (λ b. slots_after false b c.loop-index.partial) step.ensures.literal);
      rows_are = same_step (λ t i k b rs. now.new.rows ≡ rows_with t i k b rs) false c.new-step.result.taking c.args.tables.now c.new-step.result.tables.now c.args.level c.new-step.result.level (get_or c.args.literals.now c.loop-index.index (literal 0 0)) c.new-step.result.literal c.loop-index.rows c.loop-index.rows
          (sym c.new-step.ensures.taking) (sym c.new-step.ensures.tables) (sym c.new-step.ensures.level) (sym c.new-step.ensures.literal) refl now.ensures.rows;
      open_paths = now.ensures.open;
      conflicts = same_step (λ t i k b rs. now.result.conflicts ≡ moved t c.loop-index.counted.conflicts (own_tally rs b / HARD * 2)) false c.new-step.result.taking c.args.tables.now c.new-step.result.tables.now c.args.level c.new-step.result.level (get_or c.args.literals.now c.loop-index.index (literal 0 0)) c.new-step.result.literal c.loop-index.rows c.loop-index.rows
          (sym c.new-step.ensures.taking) (sym c.new-step.ensures.tables) (sym c.new-step.ensures.level) (sym c.new-step.ensures.literal) refl now.ensures.conflicts;
      inside = same_step (λ t i k b rs. now.result.twice_inside ≡ moved t c.loop-index.counted.twice_inside (own_tally rs b % HARD * 2)) false c.new-step.result.taking c.args.tables.now c.new-step.result.tables.now c.args.level c.new-step.result.level (get_or c.args.literals.now c.loop-index.index (literal 0 0)) c.new-step.result.literal c.loop-index.rows c.loop-index.rows
          (sym c.new-step.ensures.taking) (sym c.new-step.ensures.tables) (sym c.new-step.ensures.level) (sym c.new-step.ensures.literal) refl now.ensures.inside;
    } in
    let after = pushes c.args.tables.now c.args.level (take c.loop-index.index c.args.literals.now) c.loop-index.partial c.loop-index.rows c.loop-index.counted (length c.args.tables.now.paths) before a (c.requires.literals.in_range c.loop-index.index (literal 0 0) c.loop-index-test.true) (fresh_at c.args.literals.now c.loop-index.index (literal 0 0) c.loop-index-test.true c.requires.literals.distinct) now.new.partial now.new.rows now.result (length c.args.tables.now.paths) (omega arith) counted in
    subst (λ (ls : List Literal). AreKept c.args.tables.now c.args.level ls now.new.partial now.new.rows now.result) (sym (take_more c.args.literals.now c.loop-index.index (literal 0 0) c.loop-index-test.true)) after.kept
