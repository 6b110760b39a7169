use Rattle.std.proofs.Common.{◌≡◌, ℕ, length, sym, ap, ◌∙◌, arith}
use Rattle.std.specs.List.{list_any, range_with_len}
use Rattle.fapp_model.specs.Choices.{choice, choices, no_choice}
use Rattle.fapp_model.specs.declared.choice.Choice.{Choice}
use Rattle.cert_lines.specs.acceptance.PlanFaults.{is_same_choice}
use Rattle.cert_check.proofs.Filters.{any-places}
use Rattle.cert_check.proofs.OneMoreNumber.{none_range}
use Rattle.cert_check.proofs.plan.is_offered.Goals as goal

pub loop-index-preserved : goal.loop-index-preserved
loop-index-preserved c =
    let same = c.is_same_choice.ensures ∙ ap (λ (x : Choice). is_same_choice c.args.c x) c.choice_at.ensures in
    none_range (λ (k : ℕ). is_same_choice c.args.c (choice c.args.path.now k)) c.loop-index.index c.loop-index.invariant (sym same ∙ c.if-is_same_choice.false)

pub returns : goal.returns
returns c =
    let test = λ (k : ℕ). is_same_choice c.args.c (choice c.args.path.now k) in
    let all : c.loop-index.index ≡ length (choices c.args.path.now) = omega (arith, c.choice_count-index-end.ensures.count) in
    sym (sym (any-places (is_same_choice c.args.c) (choices c.args.path.now) no_choice) ∙ (ap (λ (n : ℕ). list_any test (range_with_len 0 n)) (sym all) ∙ c.loop-index.invariant))
