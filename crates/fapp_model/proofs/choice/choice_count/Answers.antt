use Rattle.std.proofs.Common.{arith}
use Rattle.fapp_model.proofs.ChoiceLemmas.{free_of, fixed_of, free_count, fixed_count}
use Rattle.fapp_model.proofs.choice.choice_count.Goals as goal

pub returns-then-path-eq0-clause-count : goal.returns-then-path-eq0-clause-count
returns-then-path-eq0-clause-count c =
    let path = c.args.path.now in
    omega (arith, free_count path (free_of path.pol c.requires.polarization c.if-path-eq0.true))

pub returns-else-path-eq0-clause-count : goal.returns-else-path-eq0-clause-count
returns-else-path-eq0-clause-count c =
    let path = c.args.path.now in
    omega (arith, fixed_count path (fixed_of path.pol c.requires.polarization c.if-path-eq0.false))
