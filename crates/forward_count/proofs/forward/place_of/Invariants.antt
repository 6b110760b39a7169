use Rattle.std.proofs.Common.{◌≡◌, ◌<◌, ℕ, slice_index_or}
use Rattle.fapp_model.specs.search.Partials.{literal}
use Rattle.forward_count.proofs.forward.place_of.Given as goal

abbrev pub invariant-loop-place : goal.invariant-loop-place
invariant-loop-place l = (k : ℕ) → k < l.place → (slice_index_or l.literals k (literal 0 0)).path ≡ l.path → ⊥
