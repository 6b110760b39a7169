use Rattle.std.proofs.Common.{ℕ, ◌<◌, not, slice_index, count_by, ap, sym, ◌∙◌, arith}
use Rattle.std.specs.List.{list_all}
use Rattle.std.proofs.lemmas.List.{take_all}
use Rattle.fapp_model.specs.Assignments.{violates, breaks}
use Rattle.fapp_model.specs.Costs.{cost_by, violations}
use Rattle.fapp_model.proofs.CostParts.{cost_agrees}
use Rattle.cert_lines.specs.acceptance.PlanFaults.{indices}
use Rattle.cert_check.proofs.plan.cost.Goals as goal

pub returns : goal.returns
returns c =
    let instance = c.args.instance.now in
    let plan = indices instance c.args.shown.now in
    let all = take_all c.loop-record.record-index c.as_slice-record-items.result.now (omega arith) ∙ c.as_slice-record-items.ensures in
    let met = ap (list_all (λ r. not (breaks instance plan r))) (sym all) ∙ c.loop-record.invariant.met in
    let levels = c.levels-levels.result in
    let counted = λ (level : ℕ) (within : level < levels). c.loop-record.invariant.counted level within ∙ ap (count_by (violates instance plan level)) all in
    (met, c.triple_of_counts.ensures ∙ (cost_agrees (slice_index c.loop-record.counts) (violations instance plan) levels counted ∙ ap (λ n. cost_by n (violations instance plan)) c.levels-levels.ensures.levels))
