use Rattle.std.proofs.Common.{length, drop, subst, ap, ◌∙◌, arith}
use Rattle.std.specs.List.Sorted.{IsPermutation}
use Rattle.std.proofs.lemmas.List.{take_at}
use Rattle.fapp_plan.proofs.ByPath.{sorted-by_path}
use Rattle.fapp_plan.proofs.sorting.sorted_by_path.Goals as goal

pub returns : goal.returns
returns c =
    let sorted = c.sort_literals.new.literals in
    let whole = take_at sorted (drop (length sorted) c.in_ok-sorted.sorted.items) c.in_ok-sorted.sorted.len (omega (arith, c.sort_literals.auto.literals, ap length c.deref_mut.ensures.value)) in
    let same = subst (λ xs. IsPermutation xs sorted) (c.deref_mut.ensures.value ∙ c.in_ok-sorted.ensures.items) c.sort_literals.ensures.same in
    c.from_vec.ensures ∙ (whole ∙ sorted-by_path c.args.literals.now sorted c.requires same c.sort_literals.ensures.ordered)
