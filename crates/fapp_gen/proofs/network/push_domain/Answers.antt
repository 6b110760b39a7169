use Rattle.std.proofs.Common.{[], ◌∷◌, ◌+◌, ◌*◌, arith, codes}
use Rattle.fapp_gen.specs.Lines.{numbered}
use Rattle.fapp_gen.proofs.Texts.{domain_done, line_more}
use Rattle.fapp_gen.proofs.network.push_domain.Goals as goal

pub loop-place-preserved : goal.loop-place-preserved
loop-place-preserved c =
    line_more (λ place. numbered (codes "DM") (c.args.domain ∷ (c.args.first + 10 * place) ∷ [])) 0 c.loop-place.place c.loop-place.place (c.loop-place.place + 1) c.args.out.now.items c.loop-place.out.items c.push_line.new.out.items (omega arith) (omega arith) c.loop-place.invariant c.in_ok-push_line.ensures

pub returns : goal.returns
returns c =
    domain_done c.args.domain c.args.first c.loop-place.place c.args.out.now.items c.loop-place.out.items (omega (arith, c.loop-place-test.false, c.loop-place.auto.place-end)) c.loop-place.invariant
