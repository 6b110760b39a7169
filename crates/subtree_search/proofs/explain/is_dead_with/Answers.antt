use Rattle.std.proofs.Common.{◌≡◌, subst}
use Rattle.fapp_model.specs.Tags.{triple_from}
use Rattle.fapp_model.specs.search.Dead.{Dead}
use Rattle.choice_counts.specs.ForwardStates.{ForwardState}
use Rattle.subtree_search.proofs.Explaining.{dead-with}
use Rattle.subtree_search.proofs.explain.is_dead_with.Goals as goal

pub returns-clause-dead : goal.returns-clause-dead
returns-clause-dead c = λ t. dead-with c.args.forward.now.instance c.args.forward.now.pushed c.args.path c.args.choice c.args.tag.code c.requires.valid c.requires.partial c.requires.path c.requires.choice c.requires.free
    (subst (λ (s : ForwardState). Dead s.instance (triple_from c.args.tag.code) s.pushed) c.push.ensures (c.is_dead-dead.ensures.0 t))
