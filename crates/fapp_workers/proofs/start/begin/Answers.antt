use Rattle.std.proofs.Common.{◌≡◌, ◌<◌, ◌≤◌, sym, ap, ◌∙◌, subst, arith}
use Rattle.fapp_model.specs.Costs.{cost}
use Rattle.fapp_model.specs.Instances.{IsInstance}
use Rattle.fapp_model.specs.Levels.{levels_of}
use Rattle.fapp_model.specs.Tags.{code_of}
use Rattle.best_word.specs.Bound.{top_code}
use Rattle.fapp_workers.proofs.LeastWords.{cost-level}
use Rattle.settle_laws.proofs.Offering.{cost-tag-code}
use Rattle.fapp_workers.proofs.start.begin.Goals as goal

pub tag_of-requires : goal.tag_of-requires
tag_of-requires c =
    let instance = c.args.plan.now.instance in
    let valid = subst IsInstance c.instance.ensures.value c.instance.ensures.valid in
    let costs : c.in-Some.triple ≡ cost instance c.args.start.now = c.in-Some.ensures.1 ∙ ap (λ i. cost i c.args.start.now) c.instance.ensures.value in
    cost-tag-code instance c.args.start.now c.in-Some.triple valid costs

pub offer-requires-clause-tag : goal.offer-requires-clause-tag
offer-requires-clause-tag c =
    let instance = c.args.plan.now.instance in
    let valid = subst IsInstance c.instance.ensures.value c.instance.ensures.valid in
    let costs : c.in-Some.triple ≡ cost instance c.args.start.now = c.in-Some.ensures.1 ∙ ap (λ i. cost i c.args.start.now) c.instance.ensures.value in
    let code : c.tag_of.result.code ≡ code_of (cost instance c.args.start.now) = c.tag_of.ensures.code ∙ ap code_of costs in
    let below : code_of (cost instance c.args.start.now) < top_code (levels_of instance) = (cost-level instance c.args.start.now valid).below_top in
    let low : c.tag_of.result.code ≤ top_code (levels_of instance) = omega (arith, code, below) in
    subst (λ n. c.tag_of.result.code ≤ top_code n) (sym c.requires.fresh.levels_are) low
