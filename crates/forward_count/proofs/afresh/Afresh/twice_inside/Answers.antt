use Rattle.std.proofs.Common.{◌<◌, ◌+◌, ◌∙◌, Fits, List, ap, arith, get_or, length, subst, w64}
use Rattle.fapp_model.specs.declared.literal.Literal.{Literal}
use Rattle.fapp_model.specs.search.Partials.{literal}
use Rattle.choice_counts.specs.Counts.{tally_of}
use Rattle.choice_counts.specs.ForwardStates.{ForwardState}
use Rattle.forward_count.proofs.AfreshLaws.{calm_small, few_pushed, seen, take_next}
use Rattle.forward_count.proofs.afresh.Afresh.twice_inside.Goals as goal

pub overflow_add-sum : goal.overflow_add-sum
overflow_add-sum c =
    let st = c.args.self.now in
    let f = (seen c.self.inside.tables.now c.self.inside.level c.self.inside.pushed.now c.self.inside.partial.now c.self.invariant.1 c.args.self.now c.self.view_is) in
    let few = few_pushed c.args.self.now.instance c.args.self.now.level c.args.self.now.pushed c.self.inside.partial.now f in
    let same = ap (λ (s : ForwardState). s.pushed) c.self.view_is in
    let inside : c.loop-index.index < length st.pushed = subst (λ (ls : List Literal). c.loop-index.index < length ls) same c.loop-index-test.true in
    let small = calm_small c.args.self.now.instance c.args.self.now.level c.args.self.now.pushed c.self.inside.partial.now f c.requires.calm c.loop-index.index (literal 0 0) inside c.tally-sum.result
    (λ arc arcs. c.tally-sum.ensures arc arcs ∙ ap (λ (ls : List Literal). tally_of st.instance st.level arc st.pushed (get_or ls c.loop-index.index (literal 0 0))) same) in
    let fits : Fits w64 (c.loop-index.sum + c.tally-sum.result) = omega (arith, few, small, inside, c.loop-index.invariant.small) in
    fits

pub loop-index-preserved : goal.loop-index-preserved
loop-index-preserved c =
    let st = c.args.self.now in
    let f = (seen c.self.inside.tables.now c.self.inside.level c.self.inside.pushed.now c.self.inside.partial.now c.self.invariant.1 c.args.self.now c.self.view_is) in
    let same = ap (λ (s : ForwardState). s.pushed) c.self.view_is in
    let inside : c.loop-index.index < length st.pushed = subst (λ (ls : List Literal). c.loop-index.index < length ls) same c.loop-index-test.true in
    let small = calm_small c.args.self.now.instance c.args.self.now.level c.args.self.now.pushed c.self.inside.partial.now f c.requires.calm c.loop-index.index (literal 0 0) inside c.tally-sum.result
    (λ arc arcs. c.tally-sum.ensures arc arcs ∙ ap (λ (ls : List Literal). tally_of st.instance st.level arc st.pushed (get_or ls c.loop-index.index (literal 0 0))) same) in
    record {
      sum = λ arc arcs. take_next (tally_of st.instance st.level arc st.pushed) st.pushed c.loop-index.index c.loop-index.sum c.tally-sum.result (literal 0 0) inside (c.loop-index.invariant.sum arc arcs)
          (c.tally-sum.ensures arc arcs ∙ ap (λ (ls : List Literal). tally_of st.instance st.level arc st.pushed (get_or ls c.loop-index.index (literal 0 0))) same);
      small = omega (arith, small, c.loop-index.invariant.small);
    }

pub returns-clause-small : goal.returns-clause-small
returns-clause-small c =
    let f = (seen c.self.inside.tables.now c.self.inside.level c.self.inside.pushed.now c.self.inside.partial.now c.self.invariant.1 c.args.self.now c.self.view_is) in
    let few = few_pushed c.args.self.now.instance c.args.self.now.level c.args.self.now.pushed c.self.inside.partial.now f in
    let same = ap (λ (s : ForwardState). length s.pushed) c.self.view_is in
    omega (arith, few, same, c.loop-index.invariant.small, c.loop-index.auto.index-end)
