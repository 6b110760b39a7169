use Rattle.cert_lines.proofs.Texts.{line_pushed}
use Rattle.cert_lines.proofs.writing.push_line.Goals as goal

pub returns : goal.returns
returns c =
    line_pushed c.args.line.now _ _ _ _ _ _ c.rule_word.ensures c.in_ok-extend_from_slice.ensures.items c.in_ok-push_front.ensures c.in_ok-push_rule.ensures c.in_ok-extend_from_slice-2.ensures.items
