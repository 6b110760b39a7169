use Rattle.std.proofs.Common.{◌≡◌, false}
use Rattle.std.specs.List.{list_any, range_with_len}
use Rattle.fapp_model.specs.Choices.{choice}
use Rattle.cert_lines.specs.acceptance.PlanFaults.{is_same_choice}
use Rattle.cert_check.proofs.plan.is_offered.Given as goal

-- none of the choices so far
abbrev pub invariant-loop-index : goal.invariant-loop-index
invariant-loop-index l = list_any (λ k. is_same_choice l.c (choice l.path k)) (range_with_len 0 l.index) ≡ false
