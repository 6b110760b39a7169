use Rattle.std.proofs.Common.{◌≡◌, length, map, ap, ◌∙◌, arith}
use Rattle.std.specs.List.{range_with_len}
use Rattle.fapp_model.specs.search.Jobs.{prefixes}
use Rattle.fapp_plan.specs.Outcomes.{least_of, refuted_at, refuted_everywhere}
use Rattle.fapp_plan.proofs.Refuted.{least-more}
use Rattle.fapp_plan.proofs.collected.Collected.refuted_everywhere.Goals as goal

pub loop-place-preserved : goal.loop-place-preserved
loop-place-preserved c =
    let more = least-more (refuted_at c.args.plan.now.instance c.args.self.now) c.loop-place.place (omega arith) in
    omega (arith, c.lesser-least.ensures, c.loop-place.invariant, c.refuted_at.ensures, more)

pub returns : goal.returns
unfolding refuted_everywhere
returns c =
    let whole : c.loop-place.place ≡ length (prefixes c.args.plan.now.instance c.args.plan.now.split) = omega arith in
    c.loop-place.invariant ∙ ap (λ n. least_of (map (refuted_at c.args.plan.now.instance c.args.self.now) (range_with_len 0 n))) whole
