use Rattle.std.proofs.Common.{◌≡◌, ◌<◌, false, length, get_or, sym, subst}
use Rattle.fapp_model.specs.Assignments.{count_at}
use Rattle.fapp_model.specs.search.Partials.{names}
use Rattle.choice_counts.specs.ForwardStates.{ForwardState}
use Rattle.tries_laws.proofs.PrefixParts.{prefix-is_partial}
use Rattle.subtree_search.proofs.Fronts.{front-apart}
use Rattle.subtree_search.proofs.prefix.push_from.Goals as goal

pub push-requires-clause-path : goal.push-requires-clause-path
push-requires-clause-path c =
    let partial = prefix-is_partial c.args.forward.now.instance c.args.prefix.now c.requires.prefix in
    subst (λ (f : ForwardState). (get_or c.args.prefix.now c.loop-place.place (record { path = 0; choice = 0 })).path < length f.instance.paths) (sym c.loop-place.invariant)
    (partial.in_range c.loop-place.place (record { path = 0; choice = 0 }) c.loop-place-test.true).path

pub push-requires-clause-choice : goal.push-requires-clause-choice
push-requires-clause-choice c =
    let partial = prefix-is_partial c.args.forward.now.instance c.args.prefix.now c.requires.prefix in
    subst (λ (f : ForwardState). (get_or c.args.prefix.now c.loop-place.place (record { path = 0; choice = 0 })).choice < count_at f.instance (get_or c.args.prefix.now c.loop-place.place (record { path = 0; choice = 0 })).path) (sym c.loop-place.invariant)
    (partial.in_range c.loop-place.place (record { path = 0; choice = 0 }) c.loop-place-test.true).choice

pub push-requires-clause-free : goal.push-requires-clause-free
push-requires-clause-free c =
    let partial = prefix-is_partial c.args.forward.now.instance c.args.prefix.now c.requires.prefix in
    subst (λ (f : ForwardState). names f.pushed (get_or c.args.prefix.now c.loop-place.place (record { path = 0; choice = 0 })).path ≡ false) (sym c.loop-place.invariant)
    (front-apart c.args.prefix.now c.loop-place.place (record { path = 0; choice = 0 }) partial.distinct c.loop-place-test.true)
