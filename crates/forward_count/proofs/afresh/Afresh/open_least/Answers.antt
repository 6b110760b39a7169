use Rattle.std.proofs.Common.{arith, cond}
use Rattle.fapp_model.specs.search.Partials.{names}
use Rattle.choice_counts.specs.Counts.{tallies_of}
use Rattle.choice_counts.specs.Tallies.{least_of_tallies, least_part}
use Rattle.forward_count.proofs.AfreshLaws.{range_next}
use Rattle.forward_count.proofs.afresh.Afresh.open_least.Goals as goal

pub loop-path-preserved : goal.loop-path-preserved
loop-path-preserved c = record {
  sum = λ arc arcs.
      let st = c.args.self.now in
      range_next (λ p. cond (names st.pushed p) 0 (least_part (least_of_tallies (tallies_of st.instance st.level arc st.pushed p)))) c.loop-path.path c.loop-path.sum c.open_part-sum.result (c.loop-path.invariant.sum arc arcs) (c.open_part-sum.ensures.part arc arcs);
  small = omega (arith, c.loop-path.invariant.small, c.open_part-sum.ensures.small);
}
