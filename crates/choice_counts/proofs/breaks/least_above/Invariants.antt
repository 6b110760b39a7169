use Rattle.std.proofs.Common.{◌⊎◌, ℕ, ◌<◌, ◌≤◌, get_or}
use Rattle.choice_counts.specs.declared.breaks.TheConstants.{NO_REACH}
use Rattle.choice_counts.proofs.breaks.least_above.Given as goal

abbrev pub invariant-loop-reach : goal.invariant-loop-reach
invariant-loop-reach l = record {
  above : l.distance < l.least;
  within : l.least ≤ NO_REACH;
  least : (level : ℕ) → level < l.reach-index → (get_or l.dist level 0 ≤ l.distance) ⊎ (l.least ≤ get_or l.dist level 0);
}
