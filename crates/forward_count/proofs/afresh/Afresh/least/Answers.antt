use Rattle.std.proofs.Common.{sym}
use Rattle.fapp_model.specs.search.Partials.{literal}
use Rattle.choice_counts.specs.Counts.{tally_of}
use Rattle.choice_counts.proofs.Least.{least_none}
use Rattle.forward_count.proofs.AfreshLaws.{least_map}
use Rattle.forward_count.proofs.afresh.Afresh.least.Goals as goal

pub loop-choice-init : goal.loop-choice-init
loop-choice-init c arc arcs = sym least_none

pub loop-choice-preserved : goal.loop-choice-preserved
loop-choice-preserved c arc arcs =
    let st = c.args.self.now in
    least_map (λ k. tally_of st.instance st.level arc st.pushed (literal c.args.path k)) c.loop-choice.choice c.loop-choice.least c.tally.result c.min-least.result (c.loop-choice.invariant arc arcs) (c.tally.ensures arc arcs) c.min-least.ensures
