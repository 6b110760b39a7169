use Rattle.std.proofs.Common.{◌≡◌, true, false, ◌∙◌, sym, ap, subst, arith}
use Rattle.fapp_model.specs.Assignments.{IsAssignment, meets}
use Rattle.fapp_model.specs.Costs.{cost}
use Rattle.fapp_model.specs.Tags.{IsTagOf, code_of, triple_from}
use Rattle.fapp_model.specs.search.Dead.{Dead}
use Rattle.search_log.specs.Logs.{KeepsBest}
use Rattle.search_log.specs.Bounds.{Offers}
use Rattle.settle_laws.specs.Lines.{OffersPlan}
use Rattle.settle_laws.proofs.FullPrefixes.{cost-low, cost-own, dead-at-cost, unmet-dead}
use Rattle.settle_laws.proofs.Offering.{concluded, cost-tag-code}
use Rattle.subtree_search.specs.Plans.{IsPlanOf}
use Rattle.subtree_search.proofs.Planned.{plan-assignment, plan-extends, plan-feasible, plan-unmet}
use Rattle.tries_laws.proofs.PrefixParts.{prefix-is_partial}
use Rattle.subtree_search.proofs.lines.conclude.Goals as goal

pub cost-requires-clause-plan : goal.cost-requires-clause-plan
cost-requires-clause-plan g c = subst (λ i. IsAssignment i c.fill.new.plan) (sym (c.instance.ensures.value ∙ c.tables.ensures)) (plan-assignment c.args.forward.now.instance c.requires.valid c.args.forward.now.pushed c.requires.prefix c.requires.full
    (prefix-is_partial c.args.forward.now.instance c.args.forward.now.pushed c.requires.prefix) c.partial.result.now c.partial.ensures c.fill.new.plan (c.fill.auto.plan ∙ c.requires.room)
    (subst (λ n. IsPlanOf c.partial.result.now n c.fill.new.plan) c.requires.room c.fill.ensures))

pub unreachable-requires : goal.unreachable-requires
unreachable-requires g c =
    let unmet : meets c.args.forward.now.instance c.fill.new.plan ≡ false = subst (λ i. meets i c.fill.new.plan ≡ false) (c.instance.ensures.value ∙ c.tables.ensures) c.in_default.ensures in
    let a = c.requires.alive in
    a.3 (unmet-dead c.args.forward.now.instance c.requires.valid c.args.forward.now.pushed c.requires.prefix c.requires.full c.fill.new.plan
    (plan-assignment c.args.forward.now.instance c.requires.valid c.args.forward.now.pushed c.requires.prefix c.requires.full
    (prefix-is_partial c.args.forward.now.instance c.args.forward.now.pushed c.requires.prefix) c.partial.result.now c.partial.ensures c.fill.new.plan (c.fill.auto.plan ∙ c.requires.room)
    (subst (λ n. IsPlanOf c.partial.result.now n c.fill.new.plan) c.requires.room c.fill.ensures))
    (plan-extends c.args.forward.now.instance c.requires.valid c.args.forward.now.pushed c.requires.prefix c.requires.full
    (prefix-is_partial c.args.forward.now.instance c.args.forward.now.pushed c.requires.prefix) c.partial.result.now c.partial.ensures c.fill.new.plan (c.fill.auto.plan ∙ c.requires.room)
    (subst (λ n. IsPlanOf c.partial.result.now n c.fill.new.plan) c.requires.room c.fill.ensures))
    a.0.code a.1
    (plan-unmet c.args.forward.now.instance c.requires.valid c.args.forward.now.pushed c.requires.prefix c.requires.full
    (prefix-is_partial c.args.forward.now.instance c.args.forward.now.pushed c.requires.prefix) c.partial.result.now c.partial.ensures c.fill.new.plan (c.fill.auto.plan ∙ c.requires.room)
    (subst (λ n. IsPlanOf c.partial.result.now n c.fill.new.plan) c.requires.room c.fill.ensures) unmet))

pub tag_of-tag-requires : goal.tag_of-tag-requires
tag_of-tag-requires g c =
    let costs : c.in-Some.triple ≡ cost c.args.forward.now.instance c.fill.new.plan = c.in-Some.ensures.1 ∙ ap (λ i. cost i c.fill.new.plan) (c.instance.ensures.value ∙ c.tables.ensures) in
    cost-tag-code c.args.forward.now.instance c.fill.new.plan c.in-Some.triple c.requires.valid costs

pub offer-requires : goal.offer-requires
offer-requires g c =
    let costs : c.in-Some.triple ≡ cost c.args.forward.now.instance c.fill.new.plan = c.in-Some.ensures.1 ∙ ap (λ i. cost i c.fill.new.plan) (c.instance.ensures.value ∙ c.tables.ensures) in
    let code : c.tag_of-tag.result.code ≡ code_of (cost c.args.forward.now.instance c.fill.new.plan) = c.tag_of-tag.ensures.code ∙ ap code_of costs in
    let a = c.requires.alive in
    let low = cost-low c.args.forward.now.instance c.requires.valid c.args.forward.now.pushed c.requires.prefix c.requires.full c.fill.new.plan
    (plan-assignment c.args.forward.now.instance c.requires.valid c.args.forward.now.pushed c.requires.prefix c.requires.full
    (prefix-is_partial c.args.forward.now.instance c.args.forward.now.pushed c.requires.prefix) c.partial.result.now c.partial.ensures c.fill.new.plan (c.fill.auto.plan ∙ c.requires.room)
    (subst (λ n. IsPlanOf c.partial.result.now n c.fill.new.plan) c.requires.room c.fill.ensures))
    (plan-extends c.args.forward.now.instance c.requires.valid c.args.forward.now.pushed c.requires.prefix c.requires.full
    (prefix-is_partial c.args.forward.now.instance c.args.forward.now.pushed c.requires.prefix) c.partial.result.now c.partial.ensures c.fill.new.plan (c.fill.auto.plan ∙ c.requires.room)
    (subst (λ n. IsPlanOf c.partial.result.now n c.fill.new.plan) c.requires.room c.fill.ensures))
    a.0.code a.1 a.3 in
    omega (arith, low, code, a.2)

pub returns-clause-concluded : goal.returns-clause-concluded
returns-clause-concluded g c =
    let costs : c.in-Some.triple ≡ cost c.args.forward.now.instance c.fill.new.plan = c.in-Some.ensures.1 ∙ ap (λ i. cost i c.fill.new.plan) (c.instance.ensures.value ∙ c.tables.ensures) in
    let code : c.tag_of-tag.result.code ≡ code_of (cost c.args.forward.now.instance c.fill.new.plan) = c.tag_of-tag.ensures.code ∙ ap code_of costs in
    let met : meets c.args.forward.now.instance c.fill.new.plan ≡ true = subst (λ i. meets i c.fill.new.plan ≡ true) (c.instance.ensures.value ∙ c.tables.ensures) c.in-Some.ensures.0 in
    let o : OffersPlan c.args.forward.now.instance c.args.forward.now.pushed (g.B.Bound.state c.args.bound.now) (g.B.Bound.state c.offer.new.self) c.args.log.now c.keep_best.new.self = record {
      plan = c.fill.new.plan;
      feasible = plan-feasible c.args.forward.now.instance c.requires.valid c.args.forward.now.pushed c.requires.prefix c.requires.full
          (prefix-is_partial c.args.forward.now.instance c.args.forward.now.pushed c.requires.prefix) c.partial.result.now c.partial.ensures c.fill.new.plan (c.fill.auto.plan ∙ c.requires.room)
          (subst (λ n. IsPlanOf c.partial.result.now n c.fill.new.plan) c.requires.room c.fill.ensures) met;
      extends = plan-extends c.args.forward.now.instance c.requires.valid c.args.forward.now.pushed c.requires.prefix c.requires.full
          (prefix-is_partial c.args.forward.now.instance c.args.forward.now.pushed c.requires.prefix) c.partial.result.now c.partial.ensures c.fill.new.plan (c.fill.auto.plan ∙ c.requires.room)
          (subst (λ n. IsPlanOf c.partial.result.now n c.fill.new.plan) c.requires.room c.fill.ensures);
      keeps = subst (λ t. KeepsBest c.args.log.now t c.fill.new.plan c.keep_best.new.self) costs c.in_ok-keep_best.ensures.ok;
      offers = subst (λ n. Offers (g.B.Bound.state c.args.bound.now) (g.B.Bound.state c.offer.new.self) n) code c.offer.ensures.offers;
    } in
    concluded c.args.forward.now.instance c.args.forward.now.pushed (g.B.Bound.state c.args.bound.now) (g.B.Bound.state c.offer.new.self) c.args.log.now c.keep_best.new.self c.add_dead.new.log c.tag_of-tag.result o code c.add_dead.ensures.lined.0 c.add_dead.ensures.lined.1 c.add_dead.result
    c.add_dead.ensures.lined.2

pub add_dead-requires-clause-tag : goal.add_dead-requires-clause-tag
add_dead-requires-clause-tag g c =
    let costs : c.in-Some.triple ≡ cost c.args.forward.now.instance c.fill.new.plan = c.in-Some.ensures.1 ∙ ap (λ i. cost i c.fill.new.plan) (c.instance.ensures.value ∙ c.tables.ensures) in
    let code : c.tag_of-tag.result.code ≡ code_of (cost c.args.forward.now.instance c.fill.new.plan) = c.tag_of-tag.ensures.code ∙ ap code_of costs in
    subst (λ n. IsTagOf c.args.forward.now.instance (triple_from n)) (sym code) (cost-own c.args.forward.now.instance c.fill.new.plan c.requires.valid)

pub add_dead-requires-clause-dead : goal.add_dead-requires-clause-dead
add_dead-requires-clause-dead g c =
    let costs : c.in-Some.triple ≡ cost c.args.forward.now.instance c.fill.new.plan = c.in-Some.ensures.1 ∙ ap (λ i. cost i c.fill.new.plan) (c.instance.ensures.value ∙ c.tables.ensures) in
    let code : c.tag_of-tag.result.code ≡ code_of (cost c.args.forward.now.instance c.fill.new.plan) = c.tag_of-tag.ensures.code ∙ ap code_of costs in
    subst (λ n. Dead c.args.forward.now.instance (triple_from n) c.args.forward.now.pushed) (sym code) (dead-at-cost c.args.forward.now.instance c.requires.valid c.args.forward.now.pushed c.requires.prefix c.requires.full c.fill.new.plan
    (plan-assignment c.args.forward.now.instance c.requires.valid c.args.forward.now.pushed c.requires.prefix c.requires.full
    (prefix-is_partial c.args.forward.now.instance c.args.forward.now.pushed c.requires.prefix) c.partial.result.now c.partial.ensures c.fill.new.plan (c.fill.auto.plan ∙ c.requires.room)
    (subst (λ n. IsPlanOf c.partial.result.now n c.fill.new.plan) c.requires.room c.fill.ensures))
    (plan-extends c.args.forward.now.instance c.requires.valid c.args.forward.now.pushed c.requires.prefix c.requires.full
    (prefix-is_partial c.args.forward.now.instance c.args.forward.now.pushed c.requires.prefix) c.partial.result.now c.partial.ensures c.fill.new.plan (c.fill.auto.plan ∙ c.requires.room)
    (subst (λ n. IsPlanOf c.partial.result.now n c.fill.new.plan) c.requires.room c.fill.ensures)))
