use Rattle.std.proofs.Common.{ℕ, ◌<◌, ◌≤◌}
use Rattle.fapp_plan.specs.Outcomes.{refuted_at}
use Rattle.fapp_plan.proofs.collected.Collected.first_open.Given as goal

abbrev pub invariant-loop-place : goal.invariant-loop-place
invariant-loop-place l = (earlier : ℕ) → earlier < l.place → l.word.code ≤ refuted_at l.plan.instance l.self earlier
