use Rattle.fapp_gen.proofs.Texts.{line_pushed}
use Rattle.fapp_gen.proofs.line.push_line.Goals as goal

pub returns : goal.returns
returns c =
    line_pushed c.args.word.now c.args.numbers.now _ _ _ _ c.in_ok-extend_from_slice.ensures.items c.in_ok-push_numbers.ensures c.in_ok-extend_from_slice-2.ensures.items
