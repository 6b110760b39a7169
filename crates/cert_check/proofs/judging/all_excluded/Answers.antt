use Rattle.std.proofs.Common.{ℕ, ◌<◌, sym, ◌∙◌, arith}
use Rattle.fapp_model.specs.search.Partials.{literal}
use Rattle.cert_check.specs.Scenes.{excluded_by}
use Rattle.cert_check.proofs.OneMoreNumber.{all_range_step, fails_at_range}
use Rattle.fapp_model.specs.Assignments.{count_at}
use Rattle.cert_check.proofs.judging.all_excluded.Goals as goal

pub returns-then-not-is_excluded : goal.returns-then-not-is_excluded
returns-then-not-is_excluded c =
    let small : c.loop-index.index < count_at c.args.scene.instance.now c.args.path = omega (arith, c.count_of-count.ensures.count) in
    sym (fails_at_range (λ (index : ℕ). excluded_by c.args.scene c.args.literals.now (literal c.args.path index)) (count_at c.args.scene.instance.now c.args.path) c.loop-index.index small (sym c.is_excluded.ensures ∙ c.if-not-is_excluded.true))

pub loop-index-preserved : goal.loop-index-preserved
loop-index-preserved c = all_range_step (λ (index : ℕ). excluded_by c.args.scene c.args.literals.now (literal c.args.path index)) c.loop-index.index c.loop-index.invariant (sym c.is_excluded.ensures ∙ c.if-not-is_excluded.false)
