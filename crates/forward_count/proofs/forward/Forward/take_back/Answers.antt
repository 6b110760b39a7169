use Rattle.std.proofs.Common.{◌≡◌, ◌∙◌, ◌++◌, ◌*◌, ◌/◌, ◌%◌, take, drop, true, List, ap, get_or, length, subst, sym, arith}
use Rattle.std.specs.List.{remove}
use Rattle.std.specs.Option.{is_some}
use Rattle.std.proofs.lemmas.List.{take_at}
use Rattle.nogood.specs.Partials.{choice_given}
use Rattle.fapp_model.specs.declared.literal.Literal.{Literal}
use Rattle.choice_counts.specs.declared.rows.PathTallies.{PathTallies}
use Rattle.choice_counts.specs.declared.rows.TheConstants.{HARD}
use Rattle.choice_counts.specs.Moves.{CanMoveAll, moved, rows_with}
use Rattle.choice_counts.specs.Totals.{AreRows}
use Rattle.choice_counts.proofs.DeadByBound.{level_few}
use Rattle.choice_counts.proofs.KeptLaws.{own_tally}
use Rattle.forward_count.specs.Forwards.{IsForward}
use Rattle.forward_count.specs.SlotSteps.{CanCount, slots_after}
use Rattle.forward_count.proofs.StepLaws.{IsCounted, drops, drops_can, drops_fit, drops_slot, forward_rows, placed, same_step}
use Rattle.forward_count.proofs.forward.Forward.take_back.Goals as goal

pub new-step-requires-clause-level : goal.new-step-requires-clause-level
new-step-requires-clause-level c = level_few c.self.inside.tables.now c.self.inside.level c.self.invariant.1.low

pub count_step-self-inside-requires-clause-rows : goal.count_step-self-inside-requires-clause-rows
count_step-self-inside-requires-clause-rows c =
    let s = c.self.inside in
    let step = c.new-step in
    let a = c.remove-literal.result in
    same_step (λ t i k b rs. AreRows i rs) step.result.taking true step.result.tables.now s.tables.now step.result.level s.level step.result.literal a c.as_mut_slice.result.now s.rows.items
    step.ensures.taking step.ensures.tables step.ensures.level step.ensures.literal c.as_mut_slice.ensures.value
    (forward_rows s.tables.now s.level s.pushed.items s.partial s.rows.items s.totals s.pushed.cap c.self.invariant.1)

pub count_step-self-inside-requires-clause-slot : goal.count_step-self-inside-requires-clause-slot
count_step-self-inside-requires-clause-slot c =
    let s = c.self.inside in
    let step = c.new-step in
    let d = c.remove-literal.result in
    let inside = placed s.tables.now s.level s.pushed.items c.args.self.now c.args.place c.self.view_is c.requires in
    same_step (λ t i k b rs. is_some (choice_given s.partial b.path) ≡ t) step.result.taking true step.result.tables.now s.tables.now step.result.level s.level step.result.literal (get_or s.pushed.items c.args.place d) c.as_mut_slice.result.now s.rows.items
    step.ensures.taking step.ensures.tables step.ensures.level (step.ensures.literal ∙ c.remove-literal.ensures.value) c.as_mut_slice.ensures.value
    (drops_slot s.tables.now s.level s.pushed.items s.partial s.rows.items s.totals s.pushed.cap c.self.invariant.1 c.args.place d inside)

pub count_step-self-inside-requires-clause-can : goal.count_step-self-inside-requires-clause-can
count_step-self-inside-requires-clause-can c =
    let s = c.self.inside in
    let step = c.new-step in
    let d = c.remove-literal.result in
    let inside = placed s.tables.now s.level s.pushed.items c.args.self.now c.args.place c.self.view_is c.requires in
    same_step (λ t i k b rs. CanMoveAll t i k b rs) step.result.taking true step.result.tables.now s.tables.now step.result.level s.level step.result.literal (get_or s.pushed.items c.args.place d) c.as_mut_slice.result.now s.rows.items
    step.ensures.taking step.ensures.tables step.ensures.level (step.ensures.literal ∙ c.remove-literal.ensures.value) c.as_mut_slice.ensures.value
    (drops_can s.tables.now s.level s.pushed.items s.partial s.rows.items s.totals s.pushed.cap c.self.invariant.1 c.args.place d inside)

pub count_step-self-inside-requires-clause-fits : goal.count_step-self-inside-requires-clause-fits
count_step-self-inside-requires-clause-fits c =
    let s = c.self.inside in
    let step = c.new-step in
    let d = c.remove-literal.result in
    let inside = placed s.tables.now s.level s.pushed.items c.args.self.now c.args.place c.self.view_is c.requires in
    same_step (λ t i k b rs. CanCount t s.totals (own_tally rs b)) step.result.taking true step.result.tables.now s.tables.now step.result.level s.level step.result.literal (get_or s.pushed.items c.args.place d) c.as_mut_slice.result.now s.rows.items
    step.ensures.taking step.ensures.tables step.ensures.level (step.ensures.literal ∙ c.remove-literal.ensures.value) c.as_mut_slice.ensures.value
    (drops_fit s.tables.now s.level s.pushed.items s.partial s.rows.items s.totals s.pushed.cap c.self.invariant.1 c.args.place d inside)

pub invariant_of-self : goal.invariant_of-self
invariant_of-self c =
    let s = c.self.inside in
    let step = c.new-step in
    let now = c.count_step-self-inside in
    let d = c.remove-literal.result in
    let a = get_or s.pushed.items c.args.place d in
    let inside = placed s.tables.now s.level s.pushed.items c.args.self.now c.args.place c.self.view_is c.requires in
    let lit : step.result.literal ≡ a = step.ensures.literal ∙ c.remove-literal.ensures.value in
    let whole : length now.new.rows ≡ s.rows.len = now.auto.rows ∙ c.as_mut_slice.ensures.len in
    let written = take_at now.new.rows (drop (length now.new.rows) s.rows.items) s.rows.len whole in
    let counted : IsCounted s.tables.now s.level s.pushed.items s.partial s.rows.items s.totals s.pushed.cap c.self.invariant.1 true a now.new.partial now.new.rows now.result = record {
      slots_are = now.ensures.slots ∙ (ap (λ t. slots_after t step.result.literal s.partial) step.ensures.taking ∙ ap (λ b. slots_after true b s.partial) lit);
      rows_are = same_step (λ t i k b rs. now.new.rows ≡ rows_with t i k b rs) true step.result.taking s.tables.now step.result.tables.now s.level step.result.level a step.result.literal s.rows.items c.as_mut_slice.result.now
          (sym step.ensures.taking) (sym step.ensures.tables) (sym step.ensures.level) (sym lit) (sym c.as_mut_slice.ensures.value) now.ensures.rows;
      open_paths = now.ensures.open;
      conflicts = same_step (λ t i k b rs. now.result.conflicts ≡ moved t s.totals.conflicts (own_tally rs b / HARD * 2)) true step.result.taking s.tables.now step.result.tables.now s.level step.result.level a step.result.literal s.rows.items c.as_mut_slice.result.now
          (sym step.ensures.taking) (sym step.ensures.tables) (sym step.ensures.level) (sym lit) (sym c.as_mut_slice.ensures.value) now.ensures.conflicts;
      inside = same_step (λ t i k b rs. now.result.twice_inside ≡ moved t s.totals.twice_inside (own_tally rs b % HARD * 2)) true step.result.taking s.tables.now step.result.tables.now s.level step.result.level a step.result.literal s.rows.items c.as_mut_slice.result.now
          (sym step.ensures.taking) (sym step.ensures.tables) (sym step.ensures.level) (sym lit) (sym c.as_mut_slice.ensures.value) now.ensures.inside;
    } in
    let after = drops s.tables.now s.level s.pushed.items s.partial s.rows.items s.totals s.pushed.cap c.self.invariant.1 c.args.place d inside now.new.partial now.new.rows now.result c.remove-literal.new.self.cap (omega (arith, c.remove-literal.ensures.capacity)) counted in (
      c.self.invariant.0,
      subst (λ (ls : List Literal). IsForward s.tables.now s.level ls now.new.partial (take s.rows.len (now.new.rows ++ drop (length now.new.rows) s.rows.items)) now.result c.remove-literal.new.self.cap) (sym c.remove-literal.ensures.items)
          (subst (λ (rs : List PathTallies). IsForward s.tables.now s.level (remove s.pushed.items c.args.place) now.new.partial rs now.result c.remove-literal.new.self.cap) (sym written) after),
    )
