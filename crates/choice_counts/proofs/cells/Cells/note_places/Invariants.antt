use Rattle.std.proofs.Common.{◌≡◌}
use Rattle.choice_counts.proofs.cells.Cells.note_places.Given as goal

abbrev pub invariant-loop-slot : goal.invariant-loop-slot
invariant-loop-slot l = l.self-inside.cells.items ≡ l.fn.self
