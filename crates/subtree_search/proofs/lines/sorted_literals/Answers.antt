use Rattle.std.proofs.Common.{length, drop, subst, ap, ◌∙◌, sym, arith}
use Rattle.std.specs.List.Sorted.{IsPermutation}
use Rattle.std.proofs.lemmas.List.{take_at}
use Rattle.fapp_model.specs.search.Partials.{IsPartial}
use Rattle.settle_laws.specs.Lines.{AreSorted}
use Rattle.subtree_search.proofs.Planned.{sorted-are}
use Rattle.subtree_search.proofs.lines.sorted_literals.Goals as goal

pub returns : goal.returns
returns c =
    let f = c.args.forward.now in
    let sorted = c.sort_literals.new.literals in
    let whole = take_at sorted (drop (length sorted) c.in_ok-literals.literals.items) c.in_ok-literals.literals.len (omega (arith, c.sort_literals.auto.literals, ap length c.deref_mut.ensures.value)) in
    let same = subst (λ xs. IsPermutation xs sorted) (c.deref_mut.ensures.value ∙ (c.in_ok-literals.ensures.items ∙ c.pushed.ensures.literals)) c.sort_literals.ensures.same in
    subst (AreSorted f.instance f.pushed) (sym (c.from_vec.ensures ∙ whole))
    (sorted-are f.instance f.pushed sorted (subst (IsPartial f.instance) c.pushed.ensures.literals c.pushed.ensures.partial) same c.sort_literals.ensures.ordered)
