use Rattle.fapp_gen.specs.Lines.{falling}
use Rattle.fapp_gen.proofs.Texts.{distances_pushed}
use Rattle.fapp_gen.proofs.line.push_distances.Goals as goal

pub returns : goal.returns
returns c =
    distances_pushed c.args.word.now (falling c.args.first c.args.step) _ _ _ _ _ c.args.paths.0 c.args.paths.1 c.in_ok-extend_from_slice.ensures.items c.in_ok-push_numbers.ensures c.in_ok-push_falling.ensures c.in_ok-extend_from_slice-2.ensures.items
