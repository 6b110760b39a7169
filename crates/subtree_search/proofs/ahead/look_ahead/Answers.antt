use Rattle.std.proofs.Common.{sym, subst}
use Rattle.tries_laws.proofs.PrefixParts.{prefix-is_partial}
use Rattle.choice_counts.specs.ForwardStates.{ForwardState}
use Rattle.settle_laws.specs.Explained.{IsClosedBy}
use Rattle.subtree_search.proofs.Looking.{closes-shut}
use Rattle.subtree_search.proofs.ahead.look_ahead.Goals as goal

pub shut_behind-requires-clause-partial : goal.shut_behind-requires-clause-partial
shut_behind-requires-clause-partial c = prefix-is_partial c.args.forward.now.instance c.args.forward.now.pushed c.requires.prefix

pub add_explained-requires-clause-closed : goal.add_explained-requires-clause-closed
add_explained-requires-clause-closed c = subst (λ (s : ForwardState). IsClosedBy s.instance s.pushed c.in-Some.node) (sym c.in-Some.ensures.front) c.in-Some.ensures.shut.1

pub returns-clause-looks : goal.returns-clause-looks
returns-clause-looks c = closes-shut c.args.forward.now c.shut_behind.new.forward c.in-Some.ensures.front c.args.tag c.args.log.now c.add_explained.new.log c.in-Some.node c.in_ok-found.found c.in-Some.ensures.shut c.args.seen.now.cites.items c.in_ok-found.ensures.lined
