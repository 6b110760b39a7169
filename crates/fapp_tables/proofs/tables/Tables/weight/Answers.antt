use Rattle.std.proofs.Common.{ap, sym, ◌∙◌}
use Rattle.fapp_model.specs.declared.choice.Choice.{Choice}
use Rattle.fapp_model.specs.declared.instance.Instance.{Instance}
use Rattle.fapp_model.specs.search.Partials.{choice_of, literal}
use Rattle.fapp_tables.specs.Indexes.{between_choices}
use Rattle.fapp_tables.specs.Measures.{coded_part}
use Rattle.fapp_tables.proofs.ClashLaws.{coded_is}
use Rattle.fapp_tables.proofs.PairLaws.{both_is}
use Rattle.fapp_tables.proofs.tables.Tables.weight.Goals as goal

pub returns : goal.returns
returns c =
    let a = literal c.args.i c.args.c in
    let b = literal c.args.j c.args.d in
    let measure = coded_part c.args.level in
    let instance = c.args.self.now in
    c.pair_counts.ensures.sum
    ∙ (ap (λ (i : Instance). between_choices i measure c.args.i c.args.j c.choice-first.result c.choice-second.result) c.self.view_is
    ∙ (ap (λ (x : Choice). between_choices instance measure c.args.i c.args.j x c.choice-second.result) c.choice-first.ensures
    ∙ (ap (λ (x : Choice). between_choices instance measure c.args.i c.args.j (choice_of instance a) x) c.choice-second.ensures
    ∙ (sym (both_is instance measure a b) ∙ coded_is instance c.args.level a b))))
