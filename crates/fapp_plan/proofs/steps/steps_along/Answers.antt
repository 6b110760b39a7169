use Rattle.std.proofs.Common.{◌/◌, refl, ap, ◌∙◌}
use Rattle.fapp_plan.specs.NamedPaths.{steps_along}
use Rattle.fapp_plan.proofs.Depths.{steps-more, ways-behind}
use Rattle.fapp_plan.proofs.steps.steps_along.Goals as goal

pub loop-path-preserved : goal.loop-path-preserved
loop-path-preserved c =
    let instance = c.args.instance.now in
    let paths = c.args.paths.now in
    let n = c.loop-path.path-index in
    let left = ap (λ k. c.loop-path.behind / k) c.choices_of-choices.ensures.count ∙ ways-behind instance paths n c.loop-path.behind c.requires.instance c.requires.paths c.loop-path-test.true c.loop-path.invariant.behind in
    record {
      behind = left;
      so_far = steps-more instance paths n _ _ _ c.loop-path.steps.items c.push.new.self.items (steps_along instance paths) c.loop-path-test.true
          refl c.choices_of-choices.ensures.count left c.in_ok-push.ensures.items c.loop-path.invariant.so_far;
    }
