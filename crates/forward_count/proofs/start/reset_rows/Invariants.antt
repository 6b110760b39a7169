use Rattle.std.proofs.Common.{◌≡◌, ◌<◌, ◌≤◌, [], ℕ, Bool, length}
use Rattle.dead_laws.specs.ArcLaws.{IsArcs}
use Rattle.fapp_model.specs.declared.literal.Literal.{Literal}
use Rattle.choice_counts.specs.Counts.{tallies_of}
use Rattle.choice_counts.specs.Tallies.{tallies_at, tallies_by}
use Rattle.forward_count.proofs.start.reset_rows.Given as goal

abbrev pub invariant-loop-path : goal.invariant-loop-path
invariant-loop-path l = record {
  count : length l.rows ≡ length l.fn.rows;
  done : (q : ℕ) → q < l.path → (arc : Literal → Bool) → IsArcs l.instance l.level arc → tallies_at l.rows q ≡ tallies_by (tallies_of l.instance l.level arc [] q);
  waiting : (q : ℕ) → l.path ≤ q → tallies_at l.rows q ≡ tallies_at l.fn.rows q;
}
