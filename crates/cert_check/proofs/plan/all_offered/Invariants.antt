use Rattle.std.proofs.Common.{◌≡◌, true}
use Rattle.std.specs.List.{list_all, range_with_len}
use Rattle.fapp_model.specs.Assignments.{path_at}
use Rattle.cert_lines.specs.acceptance.PlanFaults.{is_offered, shown_at}
use Rattle.cert_check.proofs.plan.all_offered.Given as goal

-- each position so far
abbrev pub invariant-loop-position : goal.invariant-loop-position
invariant-loop-position l = list_all (λ p. is_offered (path_at l.instance p) (shown_at l.shown p)) (range_with_len 0 l.position) ≡ true
