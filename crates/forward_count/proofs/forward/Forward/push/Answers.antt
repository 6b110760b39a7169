use Rattle.std.proofs.Common.{◌≡◌, ◌<◌, ◌∙◌, ◌++◌, ◌∷◌, [], ◌+◌, ◌*◌, ◌/◌, ◌%◌, take, drop, false, List, ap, length, subst, sym, arith}
use Rattle.std.specs.Option.{is_some}
use Rattle.std.specs.Result.{is_ok}
use Rattle.std.proofs.lemmas.Bool.{cond-true}
use Rattle.std.proofs.lemmas.List.{length_push, take_at}
use Rattle.std.proofs.lemmas.List.Elements.{All-push}
use Rattle.nogood.specs.Partials.{choice_given}
use Rattle.fapp_model.specs.declared.literal.Literal.{Literal}
use Rattle.fapp_model.specs.search.Partials.{literal, IsLiteral}
use Rattle.choice_counts.specs.declared.rows.PathTallies.{PathTallies}
use Rattle.choice_counts.specs.ForwardStates.{ForwardState, with_pushed}
use Rattle.choice_counts.specs.Moves.{CanMoveAll, moved, rows_with}
use Rattle.choice_counts.specs.Totals.{AreRows}
use Rattle.choice_counts.specs.declared.rows.TheConstants.{HARD}
use Rattle.choice_counts.proofs.Bounds.{distinct_push, few_literals}
use Rattle.choice_counts.proofs.DeadByBound.{level_few}
use Rattle.choice_counts.proofs.KeptLaws.{own_tally}
use Rattle.forward_count.specs.Forwards.{IsForward}
use Rattle.forward_count.specs.SlotSteps.{CanCount, slots_after}
use Rattle.forward_count.proofs.StepLaws.{IsCounted, forward_rows, home_of, pushes, pushes_can, pushes_fit, pushes_slot, same_step, unset_of}
use Rattle.forward_count.proofs.forward.Forward.push.Goals as goal

pub new-step-requires-clause-level : goal.new-step-requires-clause-level
new-step-requires-clause-level c = level_few c.self.inside.tables.now c.self.inside.level c.self.invariant.1.low

pub count_step-self-inside-requires-clause-rows : goal.count_step-self-inside-requires-clause-rows
count_step-self-inside-requires-clause-rows c =
    let s = c.self.inside in
    let step = c.new-step in
    same_step (λ t i k a rs. AreRows i rs) step.result.taking false step.result.tables.now s.tables.now step.result.level s.level step.result.literal (literal c.args.path c.args.choice) c.as_mut_slice.result.now s.rows.items
    step.ensures.taking step.ensures.tables step.ensures.level step.ensures.literal c.as_mut_slice.ensures.value
    (forward_rows s.tables.now s.level s.pushed.items s.partial s.rows.items s.totals s.pushed.cap c.self.invariant.1)

pub count_step-self-inside-requires-clause-slot : goal.count_step-self-inside-requires-clause-slot
count_step-self-inside-requires-clause-slot c =
    let s = c.self.inside in
    let step = c.new-step in
    let a = literal c.args.path c.args.choice in
    same_step (λ t i k b rs. is_some (choice_given s.partial b.path) ≡ t) step.result.taking false step.result.tables.now s.tables.now step.result.level s.level step.result.literal a c.as_mut_slice.result.now s.rows.items
    step.ensures.taking step.ensures.tables step.ensures.level step.ensures.literal c.as_mut_slice.ensures.value
    (pushes_slot s.tables.now s.level s.pushed.items s.partial s.rows.items s.totals s.pushed.cap c.self.invariant.1 a (home_of c.self.inside.tables.now c.self.inside.level c.self.inside.pushed.items c.args.self.now c.args.path c.args.choice c.self.view_is c.requires.path c.requires.choice) (unset_of c.self.inside.tables.now c.self.inside.level c.self.inside.pushed.items c.args.self.now c.args.path c.self.view_is c.requires.free))

pub count_step-self-inside-requires-clause-can : goal.count_step-self-inside-requires-clause-can
count_step-self-inside-requires-clause-can c =
    let s = c.self.inside in
    let step = c.new-step in
    let a = literal c.args.path c.args.choice in
    same_step (λ t i k b rs. CanMoveAll t i k b rs) step.result.taking false step.result.tables.now s.tables.now step.result.level s.level step.result.literal a c.as_mut_slice.result.now s.rows.items
    step.ensures.taking step.ensures.tables step.ensures.level step.ensures.literal c.as_mut_slice.ensures.value
    (pushes_can s.tables.now s.level s.pushed.items s.partial s.rows.items s.totals s.pushed.cap c.self.invariant.1 a (home_of c.self.inside.tables.now c.self.inside.level c.self.inside.pushed.items c.args.self.now c.args.path c.args.choice c.self.view_is c.requires.path c.requires.choice) (unset_of c.self.inside.tables.now c.self.inside.level c.self.inside.pushed.items c.args.self.now c.args.path c.self.view_is c.requires.free))

pub count_step-self-inside-requires-clause-fits : goal.count_step-self-inside-requires-clause-fits
count_step-self-inside-requires-clause-fits c =
    let s = c.self.inside in
    let step = c.new-step in
    let a = literal c.args.path c.args.choice in
    same_step (λ t i k b rs. CanCount t s.totals (own_tally rs b)) step.result.taking false step.result.tables.now s.tables.now step.result.level s.level step.result.literal a c.as_mut_slice.result.now s.rows.items
    step.ensures.taking step.ensures.tables step.ensures.level step.ensures.literal c.as_mut_slice.ensures.value
    (pushes_fit s.tables.now s.level s.pushed.items s.partial s.rows.items s.totals s.pushed.cap c.self.invariant.1 a (home_of c.self.inside.tables.now c.self.inside.level c.self.inside.pushed.items c.args.self.now c.args.path c.args.choice c.self.view_is c.requires.path c.requires.choice) (unset_of c.self.inside.tables.now c.self.inside.level c.self.inside.pushed.items c.args.self.now c.args.path c.self.view_is c.requires.free))

-- there was room for it
stored : (c : goal.After-push) → c.push.new.self.items ≡ c.self.inside.pushed.items ++ literal c.args.path c.args.choice ∷ []
stored c =
    let s = c.self.inside in
    let f = c.self.invariant.1 in
    let few = few_literals s.tables.now (s.pushed.items ++ literal c.args.path c.args.choice ∷ []) (record {
      in_range = All-push (IsLiteral s.tables.now) s.pushed.items (literal c.args.path c.args.choice) f.partial.in_range (home_of c.self.inside.tables.now c.self.inside.level c.self.inside.pushed.items c.args.self.now c.args.path c.args.choice c.self.view_is c.requires.path c.requires.choice);
      distinct = distinct_push s.pushed.items (literal c.args.path c.args.choice) f.partial.distinct (unset_of c.self.inside.tables.now c.self.inside.level c.self.inside.pushed.items c.args.self.now c.args.path c.self.view_is c.requires.free);
    }) in
    let longer : length (s.pushed.items ++ literal c.args.path c.args.choice ∷ []) ≡ length s.pushed.items + 1 = length_push s.pushed.items (literal c.args.path c.args.choice) in
    let room : s.pushed.len < s.pushed.cap = omega (arith, few, longer, f.roomy, s.pushed.ok.0) in
    c.push.ensures.items ∙ cond-true (is_ok c.push.result) (s.pushed.items ++ literal c.args.path c.args.choice ∷ []) s.pushed.items (c.push.ensures.succeeds room)

pub invariant_of-self : goal.invariant_of-self
invariant_of-self c =
    let s = c.self.inside in
    let a = literal c.args.path c.args.choice in
    let step = c.new-step in
    let now = c.count_step-self-inside in
    let whole : length now.new.rows ≡ s.rows.len = now.auto.rows ∙ c.as_mut_slice.ensures.len in
    let written = take_at now.new.rows (drop (length now.new.rows) s.rows.items) s.rows.len whole in
    let counted : IsCounted s.tables.now s.level s.pushed.items s.partial s.rows.items s.totals s.pushed.cap c.self.invariant.1 false a now.new.partial now.new.rows now.result = record {
      slots_are = now.ensures.slots ∙ (ap (λ t. slots_after t step.result.literal s.partial) step.ensures.taking ∙ ap (λ b. slots_after false b s.partial) step.ensures.literal);
      rows_are = same_step (λ t i k b rs. now.new.rows ≡ rows_with t i k b rs) false step.result.taking s.tables.now step.result.tables.now s.level step.result.level a step.result.literal s.rows.items c.as_mut_slice.result.now
          (sym step.ensures.taking) (sym step.ensures.tables) (sym step.ensures.level) (sym step.ensures.literal) (sym c.as_mut_slice.ensures.value) now.ensures.rows;
      open_paths = now.ensures.open;
      conflicts = same_step (λ t i k b rs. now.result.conflicts ≡ moved t s.totals.conflicts (own_tally rs b / HARD * 2)) false step.result.taking s.tables.now step.result.tables.now s.level step.result.level a step.result.literal s.rows.items c.as_mut_slice.result.now
          (sym step.ensures.taking) (sym step.ensures.tables) (sym step.ensures.level) (sym step.ensures.literal) (sym c.as_mut_slice.ensures.value) now.ensures.conflicts;
      inside = same_step (λ t i k b rs. now.result.twice_inside ≡ moved t s.totals.twice_inside (own_tally rs b % HARD * 2)) false step.result.taking s.tables.now step.result.tables.now s.level step.result.level a step.result.literal s.rows.items c.as_mut_slice.result.now
          (sym step.ensures.taking) (sym step.ensures.tables) (sym step.ensures.level) (sym step.ensures.literal) (sym c.as_mut_slice.ensures.value) now.ensures.inside;
    } in
    let after = pushes s.tables.now s.level s.pushed.items s.partial s.rows.items s.totals s.pushed.cap c.self.invariant.1 a (home_of c.self.inside.tables.now c.self.inside.level c.self.inside.pushed.items c.args.self.now c.args.path c.args.choice c.self.view_is c.requires.path c.requires.choice) (unset_of c.self.inside.tables.now c.self.inside.level c.self.inside.pushed.items c.args.self.now c.args.path c.self.view_is c.requires.free) now.new.partial now.new.rows now.result c.push.new.self.cap c.push.ensures.capacity counted in (
      c.self.invariant.0,
      subst (λ (ls : List Literal). IsForward s.tables.now s.level ls now.new.partial (take s.rows.len (now.new.rows ++ drop (length now.new.rows) s.rows.items)) now.result c.push.new.self.cap) (sym (stored c))
          (subst (λ (rs : List PathTallies). IsForward s.tables.now s.level (s.pushed.items ++ a ∷ []) now.new.partial rs now.result c.push.new.self.cap) (sym written) after),
    )

pub returns : goal.returns
returns c =
    let s = c.self.inside in
    ap (λ (ls : List Literal). let st : ForwardState = record { instance = s.tables.now; level = s.level; pushed = ls } in st) (stored c)
    ∙ ap (λ (st : ForwardState). with_pushed st c.args.path c.args.choice) c.self.view_is
