use Rattle.std.proofs.Common.{◌≡◌, take, ap, sym, ◌∙◌}
use Rattle.fapp_model.specs.search.WorkOrder.{work_order}
use Rattle.fapp_plan.specs.NamedPaths.{steps_along}
use Rattle.fapp_plan.proofs.Depths.{prefix_paths-in, prefix_paths-length, prefixes-count}
use Rattle.fapp_plan.proofs.jobs.Plan.new.Goals as goal

pub slice_bounds-steps_along-end : goal.slice_bounds-steps_along-end
slice_bounds-steps_along-end c =
    let instance = c.instance-instance.result.now in
    let order : c.order-order.result.now ≡ work_order instance = c.order-order.ensures ∙ ap work_order (sym c.instance-instance.ensures.value) in
    rw (order, c.reach_of-depth.ensures.depth) (sym (prefix_paths-length instance c.args.split))

pub steps_along-requires-clause-paths : goal.steps_along-requires-clause-paths
steps_along-requires-clause-paths c =
    let instance = c.instance-instance.result.now in
    let order : c.order-order.result.now ≡ work_order instance = c.order-order.ensures ∙ ap work_order (sym c.instance-instance.ensures.value) in
    rw (order, c.reach_of-depth.ensures.depth) (prefix_paths-in instance c.args.split)

pub invariant_of-result : goal.invariant_of-result
invariant_of-result c =
    let instance = c.instance-instance.result.now in
    let order : c.order-order.result.now ≡ work_order instance = c.order-order.ensures ∙ ap work_order (sym c.instance-instance.ensures.value) in
    record {
      valid = c.instance-instance.ensures.valid;
      some = c.requires.some;
      few = c.requires.few;
      along = c.in_ok-steps.ensures ∙ (ap (λ xs. steps_along instance (take c.reach_of-depth.result.depth xs)) order
          ∙ ap (λ n. steps_along instance (take n (work_order instance))) c.reach_of-depth.ensures.depth);
      count = c.reach_of-depth.ensures.ways ∙ sym (prefixes-count instance c.args.split);
    }
