use Rattle.std.proofs.Common.{◌≡◌, ◌<◌, ◌∙◌, ap, get_or, length, subst, List, ℕ}
use Rattle.fapp_model.specs.declared.literal.Literal.{Literal}
use Rattle.fapp_model.specs.search.Partials.{literal}
use Rattle.dead_laws.proofs.Picks.{AreDistinct}
use Rattle.nogood.specs.Literals.{other_paths}
use Rattle.choice_counts.specs.ForwardStates.{ForwardState, with_literals}
use Rattle.choice_counts.proofs.Slots.{remove_is}
use Rattle.forward_count.proofs.forward.Forward.remove.Goals as goal

pub returns : goal.returns
returns c =
    let s = c.self.inside in
    let view : s.pushed.items ≡ c.args.self.now.pushed = ap (λ (st : ForwardState). st.pushed) c.self.view_is in
    let same : c.deref.result.now ≡ c.args.self.now.pushed = c.deref.ensures.value ∙ view in
    let place = c.place_of-place.result in
    let inside : place < length c.args.self.now.pushed = subst (λ (ls : List Literal). place < length ls) same c.place_of-place.ensures.inside in
    let path : (get_or c.args.self.now.pushed place (literal 0 0)).path ≡ c.args.path = subst (λ (ls : List Literal). (get_or ls place (literal 0 0)).path ≡ c.args.path) same c.place_of-place.ensures.path in
    let distinct : AreDistinct c.args.self.now.pushed = subst (λ (ls : List Literal). AreDistinct ls) view c.self.invariant.1.partial.distinct in
    c.take_back.ensures ∙ ap (with_literals c.args.self.now) (remove_is c.args.self.now.pushed place (literal 0 0) distinct inside ∙ ap (λ (p : ℕ). other_paths p c.args.self.now.pushed) path)
