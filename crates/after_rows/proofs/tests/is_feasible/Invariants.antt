use Rattle.std.proofs.Common.{ℕ, ◌<◌}
use Rattle.std.specs.Prelude.{slice_index}
use Rattle.fapp_model.specs.Assignments.{count_at}
use Rattle.after_rows.proofs.tests.is_feasible.Given as goal

abbrev pub invariant-loop-position : goal.invariant-loop-position
invariant-loop-position l = (p : ℕ) → p < l.position → slice_index l.plan p < count_at l.instance p
