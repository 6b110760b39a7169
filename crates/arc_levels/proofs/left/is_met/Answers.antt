use Rattle.std.proofs.Common.{◌≡◌, sym, subst, arith, to_z, of_z, w8}
use Rattle.std.proofs.Math.Facts.{to_z-of_z}
use Rattle.arc_levels.proofs.LeftLaws.{AreUnmet, place_nearer, unmet_all, unmet_more}
use Rattle.arc_levels.proofs.left.is_met.Goals as goal

pub loop-place-smaller : goal.loop-place-smaller
loop-place-smaller c =
    place_nearer c.args.freqs.now c.loop-place.place c.pair_next-next.result c.place_of-place.result c.place_of-place.ensures c.loop-place-test.true (omega (arith, c.pair_next-next.ensures.from, c.if-next-second.false))

pub loop-place-preserved : goal.loop-place-preserved
loop-place-preserved c =
    unmet_more c.args.pair.now c.args.first (to_z w8 (of_z w8 c.args.polarization)) c.args.freqs.now c.loop-place.place c.pair_next-next.result c.place_of-place.result c.requires.rising c.loop-place.invariant c.pair_next-next.ensures c.place_of-place.ensures

pub returns : goal.returns
returns c =
    let same : to_z w8 (of_z w8 c.args.polarization) ≡ c.args.polarization = to_z-of_z c.ranges.polarization in
    sym (unmet_all c.args.pair.now c.args.first c.args.polarization c.args.freqs.now c.loop-place.place c.loop-place-test.false (subst (λ z. AreUnmet c.args.pair.now c.args.first z c.args.freqs.now c.loop-place.place) same c.loop-place.invariant))
