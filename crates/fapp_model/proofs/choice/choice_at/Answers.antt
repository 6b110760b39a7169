use Rattle.std.proofs.Common.{◌*◌, ◌<◌, ◌%◌, length, ap, arith, refl}
use Rattle.fapp_model.proofs.ChoiceLemmas.{free_of, fixed_of, free_count, fixed_count, free_choice, fixed_choice, round_trip, both_valid}
use Rattle.fapp_model.specs.Instances.{IsPolarization}
use Rattle.fapp_model.proofs.choice.choice_at.Goals as goal

pub bounds-freqs-index : goal.bounds-freqs-index
bounds-freqs-index c =
    let path = c.args.path.now in
    let free = free_of path.pol c.requires.path.polarization c.if-path-eq0.true in
    omega (arith, free_count path free, ap length c.as_slice-freqs.ensures)

pub bounds-freqs-index-else-path-eq0 : goal.bounds-freqs-index-else-path-eq0
bounds-freqs-index-else-path-eq0 c =
    let path = c.args.path.now in
    let fixed = fixed_of path.pol c.requires.path.polarization c.if-path-eq0.false in
    omega (arith, fixed_count path fixed, ap length c.as_slice-freqs.ensures)

pub returns-then-path-eq0 : goal.returns-then-path-eq0
returns-then-path-eq0 c =
    let path = c.args.path.now in
    let free = free_of path.pol c.requires.path.polarization c.if-path-eq0.true in
    let small : c.args.index < 2 * length path.freqs = omega (arith, free_count path free) in
    let valid : IsPolarization c.polarization_at.result = rw c.polarization_at.ensures (both_valid (c.args.index % 2) (omega arith)) in
    rw (c.as_slice-freqs.ensures, free_choice path c.args.index free small, round_trip c.polarization_at.result valid, c.polarization_at.ensures) refl

pub returns-else-path-eq0 : goal.returns-else-path-eq0
returns-else-path-eq0 c =
    let path = c.args.path.now in
    let fixed = fixed_of path.pol c.requires.path.polarization c.if-path-eq0.false in
    let small : c.args.index < length path.freqs = omega (arith, fixed_count path fixed) in
    rw (c.as_slice-freqs.ensures, fixed_choice path c.args.index fixed small, round_trip path.pol c.requires.path.polarization) refl
