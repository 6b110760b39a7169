use Rattle.std.proofs.Common.{◌≡◌, false, List, sym, subst, ◌∙◌}
use Rattle.fapp_model.specs.declared.literal.Literal.{Literal}
use Rattle.fapp_model.specs.search.Partials.{names}
use Rattle.subtree_search.proofs.explain.may_name.Goals as goal

pub returns-in-Some-find : goal.returns-in-Some-find
returns-in-Some-find c = λ e. rw (c.in-Row.is) (c.in-Some-find.cite, c.in-Some-find.ensures, subst (λ (ls : List Literal). names ls c.args.path ≡ false) c.literals.ensures (sym c.names_path-in-Some-find.ensures ∙ e))
