use Rattle.std.proofs.Common.{◌≡◌, sym, ◌∙◌}
use Rattle.std.proofs.lemmas.Bool.{true≢false}
use Rattle.fapp_model.specs.search.Partials.{literal}
use Rattle.subtree_search.proofs.Explaining.{left-dead, over-false}
use Rattle.subtree_search.proofs.explain.is_left.Goals as goal

pub is_over-requires-clause-level : goal.is_over-requires-clause-level
is_over-requires-clause-level c = sym c.level.ensures.level ∙ (sym c.if-level_of-level.false ∙ c.level_of.ensures)

pub returns-then-not-remains : goal.returns-then-not-remains
returns-then-not-remains c = λ e. left-dead c.args.forward.now.instance c.args.forward.now.pushed (literal c.args.path c.args.choice) c.args.tag.code c.args.forward.now.level c.requires.valid c.requires.partial
    (sym c.level.ensures.level ∙ (sym c.if-level_of-level.false ∙ c.level_of.ensures))
    (λ left. true≢false (sym (c.remains.ensures.1 left) ∙ c.if-not-remains.true))

pub returns : goal.returns
returns c = λ e. c.is_over.ensures (over-false c.is_over.result e)
