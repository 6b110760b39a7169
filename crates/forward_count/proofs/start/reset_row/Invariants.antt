use Rattle.std.proofs.Common.{◌≡◌, ◌<◌, [], ℕ, Bool, length, take}
use Rattle.dead_laws.specs.ArcLaws.{IsArcs}
use Rattle.fapp_model.specs.declared.literal.Literal.{Literal}
use Rattle.fapp_model.specs.search.Partials.{literal}
use Rattle.choice_counts.specs.Counts.{tally_of}
use Rattle.choice_counts.specs.Tallies.{least_of_tallies, tally_at}
use Rattle.forward_count.proofs.start.reset_row.Given as goal

abbrev pub invariant-loop-choice : goal.invariant-loop-choice
invariant-loop-choice l = record {
  count : length l.row.tallies ≡ length l.fn.row.tallies;
  done : (k : ℕ) → k < l.choice → (arc : Literal → Bool) → IsArcs l.instance l.level arc → tally_at l.row.tallies k ≡ tally_of l.instance l.level arc [] (literal l.path k);
  least : l.least ≡ least_of_tallies (take l.choice l.row.tallies);
}
