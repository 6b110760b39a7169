use Rattle.std.proofs.Common.{◌∙◌, ap}
use Rattle.std.specs.Option.{is_some}
use Rattle.fapp_model.specs.search.Partials.{names}
use Rattle.choice_counts.specs.ForwardStates.{ForwardState}
use Rattle.choice_counts.proofs.Slots.{named}
use Rattle.forward_count.proofs.forward.Forward.is_set.Goals as goal

pub returns : goal.returns
returns c =
    let s = c.self.inside in
    c.is_some.ensures ∙ (ap is_some c.get.ensures ∙ (named s.tables.now s.pushed.items s.partial c.self.invariant.1.kept.counted.held c.args.path ∙ ap (λ (st : ForwardState). names st.pushed c.args.path) c.self.view_is))
