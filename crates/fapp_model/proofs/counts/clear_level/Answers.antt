use Rattle.std.proofs.Common.{slice_index, sym, arith}
use Rattle.fapp_model.proofs.CostParts.{clear_at}
use Rattle.fapp_model.proofs.counts.clear_level.Goals as goal

pub returns-then-counts-level-eq0-clause-clear : goal.returns-then-counts-level-eq0-clause-clear
returns-then-counts-level-eq0-clause-clear c =
    sym (clear_at (slice_index c.args.counts.now) c.args.levels c.loop-level.level (omega arith) c.loop-level.invariant (λ _. c.if-counts-level-eq0.true))

pub returns-clause-clear : goal.returns-clause-clear
returns-clause-clear c = sym (clear_at (slice_index c.args.counts.now) c.args.levels c.args.levels (omega arith) (λ k below. c.loop-level.invariant k (omega arith)) (λ h. absurd (omega arith)))
