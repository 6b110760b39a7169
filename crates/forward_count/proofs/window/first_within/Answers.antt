use Rattle.std.proofs.Common.{◌*◌, ◌/◌, ◌<◌, ap, get_or, length, arith}
use Rattle.fapp_model.specs.declared.choice.Choice.{Choice}
use Rattle.fapp_model.proofs.ChoiceLemmas.{fixed_choice, fixed_count, fixed_of, free_choice, free_count, free_of}
use Rattle.forward_count.proofs.window.first_within.Goals as goal

pub returns-then-path-eq0-clause-inside : goal.returns-then-path-eq0-clause-inside
returns-then-path-eq0-clause-inside c =
    let path = c.args.path.now in
    omega (arith, free_count path (free_of path.pol c.requires.polarization c.if-path-eq0.true), c.place_within-place.ensures.inside, ap length c.as_slice.ensures)

pub returns-then-path-eq0-clause-below : goal.returns-then-path-eq0-clause-below
returns-then-path-eq0-clause-below c index before =
    let path = c.args.path.now in
    let free = free_of path.pol c.requires.polarization c.if-path-eq0.true in
    let inside : index < 2 * length path.freqs = omega (arith, before, c.place_within-place.ensures.inside, ap length c.as_slice.ensures) in
    let at = ap (λ (x : Choice). x.freq) (free_choice path index free inside) in
    omega (arith, at, ap (λ fs. get_or fs (index / 2) 0) c.as_slice.ensures, c.place_within-place.ensures.below (index / 2) (omega (arith, before)))

pub returns-else-path-eq0-clause-inside : goal.returns-else-path-eq0-clause-inside
returns-else-path-eq0-clause-inside c =
    let path = c.args.path.now in
    omega (arith, fixed_count path (fixed_of path.pol c.requires.polarization c.if-path-eq0.false), c.place_within-place.ensures.inside, ap length c.as_slice.ensures)

pub returns-else-path-eq0-clause-below : goal.returns-else-path-eq0-clause-below
returns-else-path-eq0-clause-below c index before =
    let path = c.args.path.now in
    let fixed = fixed_of path.pol c.requires.polarization c.if-path-eq0.false in
    let inside : index < length path.freqs = omega (arith, before, c.place_within-place.ensures.inside, ap length c.as_slice.ensures) in
    let at = ap (λ (x : Choice). x.freq) (fixed_choice path index fixed inside) in
    omega (arith, at, ap (λ fs. get_or fs index 0) c.as_slice.ensures, c.place_within-place.ensures.below index before)

pub returns-then-path-eq0-clause-near : goal.returns-then-path-eq0-clause-near
returns-then-path-eq0-clause-near c index from inside =
    let path = c.args.path.now in
    let free = free_of path.pol c.requires.polarization c.if-path-eq0.true in
    let small : index < 2 * length path.freqs = omega (arith, inside, free_count path free) in
    let at = ap (λ (x : Choice). x.freq) (free_choice path index free small) in
    omega (arith, at, ap (λ fs. get_or fs (index / 2) 0) c.as_slice.ensures, c.place_within-place.ensures.near (index / 2) (omega (arith, from)) (omega (arith, small, ap length c.as_slice.ensures)))

pub returns-else-path-eq0-clause-near : goal.returns-else-path-eq0-clause-near
returns-else-path-eq0-clause-near c index from inside =
    let path = c.args.path.now in
    let fixed = fixed_of path.pol c.requires.polarization c.if-path-eq0.false in
    let small : index < length path.freqs = omega (arith, inside, fixed_count path fixed) in
    let at = ap (λ (x : Choice). x.freq) (fixed_choice path index fixed small) in
    omega (arith, at, ap (λ fs. get_or fs index 0) c.as_slice.ensures, c.place_within-place.ensures.near index from (omega (arith, small, ap length c.as_slice.ensures)))
