use Rattle.std.proofs.Common.{◌∙◌, ap}
use Rattle.fapp_model.specs.declared.choice.Choice.{Choice}
use Rattle.choice_counts.specs.Distances.{choices_tally, near}
use Rattle.choice_counts.proofs.pair.Edge.tally_apart.Goals as goal

pub returns : goal.returns
returns c =
    let p = c.args.self.now in
    c.tally.ensures.tally ∙ (ap (λ (a : Choice). choices_tally p.instance.now p.level p.path p.other a c.far.result) c.near.ensures
    ∙ ap (λ (b : Choice). choices_tally p.instance.now p.level p.path p.other near b) c.far.ensures)
