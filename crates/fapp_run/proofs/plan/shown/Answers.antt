use Rattle.std.proofs.Common.{ap, sym, ◌∙◌, ◌+◌, ◌++◌, ◌∷◌, [], map, zero-add}
use Rattle.std.specs.List.{range_with_len}
use Rattle.std.proofs.lemmas.List.{map-append}
use Rattle.fapp_model.proofs.CostParts.{range_more}
use Rattle.fapp_model.specs.Assignments.{chosen}
use Rattle.fapp_run.proofs.plan.shown.Goals as goal

pub loop-position-preserved : goal.loop-position-preserved
loop-position-preserved c =
    let choose = chosen c.args.instance.now c.args.plan.now in
    let n = c.loop-position.position in
    let more = ap (map choose) (range_more 0 n) ∙ map-append choose (range_with_len 0 n) ((0 + n) ∷ []) ∙ ap (λ k. map choose (range_with_len 0 n) ++ choose k ∷ []) (zero-add n) in
    c.in_ok-push.ensures.items ∙ ap (λ xs. xs ++ c.chosen.result ∷ []) c.loop-position.invariant
    ∙ ap (λ x. map choose (range_with_len 0 n) ++ x ∷ []) c.chosen.ensures ∙ sym more
