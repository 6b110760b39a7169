use Rattle.fapp_model.specs.search.Partials.{literal}
use Rattle.choice_counts.proofs.LinkLaws.{tally_by_choices}
use Rattle.forward_count.proofs.step.Step.pair_tally.Goals as goal

pub returns-clause-tally : goal.returns-clause-tally
returns-clause-tally c =
    let step = c.args.self.now in
    tally_by_choices step.tables.now c.instance.result.now step.level step.literal (literal c.args.other c.args.index) step.choice c.choice_at-second.result c.tally.result
    c.instance.ensures.value step.chosen c.choice_at-second.ensures c.tally.ensures.tally
