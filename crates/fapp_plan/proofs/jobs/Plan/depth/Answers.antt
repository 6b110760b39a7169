use Rattle.std.proofs.Common.{◌≡◌, length, ap, arith, ◌∙◌}
use Rattle.fapp_model.specs.search.Jobs.{depth}
use Rattle.fapp_plan.specs.Plans.{Split}
use Rattle.fapp_plan.specs.NamedPaths.{prefix_paths}
use Rattle.fapp_plan.proofs.Depths.{depth-few, prefix_paths-length, steps_along-length}
use Rattle.fapp_plan.proofs.jobs.Plan.depth.Goals as goal

many : (c : goal.After-len) → c.len.result ≡ depth c.self.inside.instance.now c.self.inside.split
many c =
    c.len.ensures ∙ (c.self.inside.steps.ok.0 ∙ (ap length c.self.invariant.along
    ∙ (steps_along-length c.self.inside.instance.now (prefix_paths c.self.inside.instance.now c.self.inside.split)
    ∙ prefix_paths-length c.self.inside.instance.now c.self.inside.split)))

pub overflow_cast-result : goal.overflow_cast-result
overflow_cast-result c = omega (arith, many c, depth-few c.self.inside.instance.now c.self.inside.split c.self.invariant.some)

pub returns : goal.returns
returns c = many c ∙ ap (λ (v : Split). depth v.instance v.split) c.self.view_is
