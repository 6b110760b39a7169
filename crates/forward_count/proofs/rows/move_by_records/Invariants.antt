use Rattle.fapp_model.specs.search.Partials.{literal}
use Rattle.choice_counts.specs.Counts.{pair_tally}
use Rattle.choice_counts.specs.Moves.{moved}
use Rattle.forward_count.specs.Floors.{IsFloor}
use Rattle.forward_count.proofs.RowLaws.{IsMapped}
use Rattle.forward_count.proofs.rows.move_by_records.Given as goal

abbrev pub invariant-loop-index : goal.invariant-loop-index
invariant-loop-index l = record {
  mapped : IsMapped (λ k tally. moved l.step.taking tally (pair_tally l.step.tables.now l.step.level (literal l.other k) l.step.literal)) l.fn.tallies l.tallies l.index;
  floor : IsFloor l.tallies l.lowest;
}
