use Rattle.fapp_gen.proofs.Texts.{imperative_pushed}
use Rattle.fapp_gen.proofs.line.push_imperative.Goals as goal

pub returns : goal.returns
returns c =
    imperative_pushed c.args.kind.now _ _ _ _ _ _ _ _ c.args.paths.0 c.args.paths.1 c.args.number c.in_ok-extend_from_slice.ensures.items c.in_ok-push_numbers.ensures c.in_ok-extend_from_slice-2.ensures.items c.in_ok-extend_from_slice-3.ensures.items c.in_ok-extend_from_slice-4.ensures.items c.in_ok-push_numbers-2.ensures c.in_ok-extend_from_slice-5.ensures.items
