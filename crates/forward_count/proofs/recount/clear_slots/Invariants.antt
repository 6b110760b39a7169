use Rattle.std.proofs.Common.{◌≡◌, ◌<◌, ℕ, None, length}
use Rattle.nogood.specs.Partials.{choice_given}
use Rattle.forward_count.proofs.recount.clear_slots.Given as goal

abbrev pub invariant-loop-path : goal.invariant-loop-path
invariant-loop-path l = record {
  count : length l.partial ≡ l.paths;
  done : (k : ℕ) → k < l.path → choice_given l.partial k ≡ None;
}
