use Rattle.std.proofs.Common.{take}
use Rattle.fapp_tables.specs.Indexes.{neighbours_of}
use Rattle.choice_counts.specs.Moves.{tallies_with}
use Rattle.choice_counts.specs.Totals.{AreOpenPaths}
use Rattle.choice_counts.specs.Tallies.{tallies_at}
use Rattle.forward_count.proofs.Added.{IsAdded}
use Rattle.forward_count.proofs.Neighbours.{leads}
use Rattle.forward_count.proofs.moves.move_all.Given as goal

abbrev pub invariant-loop-place : goal.invariant-loop-place
invariant-loop-place l = record {
  added : IsAdded (λ q. tallies_with l.step.taking l.step.tables.now l.step.level l.step.literal q (tallies_at l.fn.rows q).tallies)
      (leads (take l.place (neighbours_of l.step.tables.now l.step.literal.path))) l.fn.rows l.rows;
  open_paths : AreOpenPaths l.partial l.rows l.counted;
}
