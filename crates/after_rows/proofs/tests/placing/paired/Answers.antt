use Rattle.std.proofs.Common.{ℕ, ◌<◌, length, get_or, sym, ap, ◌∙◌, subst, arith}
use Rattle.std.proofs.lemmas.List.{get_or_default}
use Rattle.after_rows.proofs.Saying.{ArePairedTo, all-paired, more-paired, none-paired}
use Rattle.after_rows.proofs.tests.placing.paired.Goals as goal

pub loop-place-init : goal.loop-place-init
loop-place-init c = subst (ArePairedTo c.args.numbers.now 0) (sym c.new-pairs.ensures.items) (none-paired c.args.numbers.now)

pub loop-place-preserved : goal.loop-place-preserved
loop-place-preserved c =
    let place = c.loop-place.place in
    let inside : place < length c.args.numbers.now = omega (arith, c.loop-place-test.true, c.requires.count) in
    more-paired c.args.numbers.now place c.loop-place.pairs.items c.push.new.self.items _ c.loop-place.invariant c.in_ok-push.ensures.items
    (λ m. ap (λ (p : ℕ × ℕ). (p.0, get_or c.args.numbers.now p.1 0)) (c.requires.each place (0, 0) inside) ∙ ap (λ (x : ℕ). (place, x)) (get_or_default c.args.numbers.now place 0 m inside))

pub returns : goal.returns
returns c = all-paired c.args.numbers.now c.loop-place.place c.loop-place.pairs.items c.loop-place.invariant (omega (arith, c.loop-place-test.false, c.loop-place.auto.place-end, c.requires.count))
