use Rattle.std.proofs.Common.{ap, sym, ◌∙◌}
use Rattle.fapp_model.specs.declared.choice.Choice.{Choice}
use Rattle.fapp_model.specs.declared.instance.Instance.{Instance}
use Rattle.fapp_model.specs.search.Partials.{choice_of, literal}
use Rattle.fapp_tables.specs.Indexes.{clashes_between}
use Rattle.fapp_tables.proofs.ClashLaws.{clashes_is}
use Rattle.fapp_tables.proofs.tables.Tables.hard_bad.Goals as goal

pub returns : goal.returns
returns c =
    let a = literal c.args.i c.args.c in
    let b = literal c.args.j c.args.d in
    let instance = c.args.self.now in
    c.pair_clashes.ensures
    ∙ (ap (λ (i : Instance). clashes_between i c.args.level c.args.i c.args.j c.choice-first.result c.choice-second.result) c.self.view_is
    ∙ (ap (λ (x : Choice). clashes_between instance c.args.level c.args.i c.args.j x c.choice-second.result) c.choice-first.ensures
    ∙ (ap (λ (x : Choice). clashes_between instance c.args.level c.args.i c.args.j (choice_of instance a) x) c.choice-second.ensures
    ∙ sym (clashes_is instance c.args.level a b))))
