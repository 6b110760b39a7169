use Rattle.std.proofs.Common.{◌≡◌, ◌+◌, ◌*◌, length, take, get_or, ap, sym, ◌∙◌, arith}
use Rattle.fapp_model.specs.Assignments.{count_at}
use Rattle.fapp_model.specs.search.Jobs.{depth, ways}
use Rattle.fapp_model.specs.search.WorkOrder.{work_order}
use Rattle.fapp_plan.proofs.Depths.{depth-all, depth-past, order-in, ways-more}
use Rattle.fapp_plan.proofs.steps.reach_of.Goals as goal

pub choices_of-requires-clause-path : goal.choices_of-requires-clause-path
choices_of-requires-clause-path c =
    rw (c.requires.order) (order-in c.args.instance.now c.loop-place.place 0 (omega (arith, ap length c.requires.order)))

-- the ways of the paths so far, along the work order
so_far : (c : goal.Then-more-split) → c.loop-place.ways ≡ ways c.args.instance.now (take c.loop-place.place (work_order c.args.instance.now))
so_far c = c.loop-place.invariant.ways ∙ ap (λ xs. ways c.args.instance.now (take c.loop-place.place xs)) c.requires.order

deep : (c : goal.Then-more-split) → depth c.args.instance.now c.args.split ≡ c.loop-place.place
deep c =
    let instance = c.args.instance.now in
    let n = c.loop-place.place in
    let order = work_order instance in
    let long : length c.args.order.now ≡ length order = ap length c.requires.order in
    let more : ways instance (take (n + 1) order) ≡ c.loop-place.ways * c.choices_of.result =
    ways-more instance order n (omega (arith, long)) ∙ ap (λ w. w * count_at instance (get_or order n 0)) (sym (so_far c))
    ∙ ap (λ k. c.loop-place.ways * k) (ap (λ xs. count_at instance (get_or xs n 0)) (sym c.requires.order) ∙ sym c.choices_of.ensures.count) in
    depth-past instance c.requires.instance c.args.split n (omega (arith, long)) c.requires.some (omega (arith, so_far c, c.loop-place.invariant.fits)) (omega (arith, more, c.if-more-split.true))

pub returns-then-more-split-clause-depth : goal.returns-then-more-split-clause-depth
returns-then-more-split-clause-depth c = sym (deep c)

pub returns-then-more-split-clause-ways : goal.returns-then-more-split-clause-ways
returns-then-more-split-clause-ways c =
    so_far c ∙ ap (λ n. ways c.args.instance.now (take n (work_order c.args.instance.now))) (sym (deep c))

pub loop-place-preserved : goal.loop-place-preserved
loop-place-preserved c =
    let instance = c.args.instance.now in
    let n = c.loop-place.place in
    let more = ways-more instance c.args.order.now n (omega arith) in
    record {
      ways = ap (λ w. w * c.choices_of.result) c.loop-place.invariant.ways
          ∙ (ap (λ k. ways instance (take n c.args.order.now) * k) c.choices_of.ensures.count ∙ sym more);
      fits = c.if-more-split.false;
    }

whole : (c : goal.After-loop-place) → depth c.args.instance.now c.args.split ≡ c.min-most.result
whole c =
    let long : length c.args.order.now ≡ length (work_order c.args.instance.now) = ap length c.requires.order in
    let last : c.loop-place.place ≡ c.min-most.result = omega arith in
    let is : c.loop-place.ways ≡ ways c.args.instance.now (take c.min-most.result (work_order c.args.instance.now)) =
    c.loop-place.invariant.ways ∙ (ap (λ xs. ways c.args.instance.now (take c.loop-place.place xs)) c.requires.order
    ∙ ap (λ n. ways c.args.instance.now (take n (work_order c.args.instance.now))) last) in
    depth-all c.args.instance.now c.requires.instance c.args.split c.min-most.result (omega (arith, long)) c.requires.some (omega (arith, is, c.loop-place.invariant.fits)) (omega (arith, long))

pub returns-clause-depth : goal.returns-clause-depth
returns-clause-depth c = sym (whole c)

pub returns-clause-ways : goal.returns-clause-ways
returns-clause-ways c =
    let last : c.loop-place.place ≡ c.min-most.result = omega arith in
    c.loop-place.invariant.ways ∙ (ap (λ xs. ways c.args.instance.now (take c.loop-place.place xs)) c.requires.order
    ∙ ap (λ n. ways c.args.instance.now (take n (work_order c.args.instance.now))) (last ∙ sym (whole c)))
