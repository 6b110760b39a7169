use Rattle.cert_lines.proofs.Texts.{open_pushed}
use Rattle.cert_lines.proofs.writing.push_open.Goals as goal

pub returns : goal.returns
returns c =
    open_pushed c.args.best c.args.lower c.args.level c.args.prefix.now _ _ _ _ _ _ _ _ _ _ c.triple_of.ensures c.in_ok-extend_from_slice.ensures.items c.in_ok-push_triple.ensures c.in_ok-extend_from_slice-2.ensures.items c.in_ok-push_triple-2.ensures c.in_ok-extend_from_slice-3.ensures.items c.in_ok-push_numbers.ensures c.in_ok-push_literals.ensures c.in_ok-extend_from_slice-4.ensures.items
