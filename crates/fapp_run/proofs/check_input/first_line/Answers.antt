use Rattle.std.proofs.Common.{sym}
use Rattle.fapp_text.proofs.PlaceLemmas.{position_some, position_none}
use Rattle.fapp_text.proofs.LineLemmas.{line_cut, line_last}
use Rattle.fapp_text.specs.Lines.{is_line_feed}
use Rattle.fapp_run.proofs.check_input.first_line.Goals as goal

pub returns-in-Some-clause-cut : goal.returns-in-Some-clause-cut
returns-in-Some-clause-cut c =
    let at = position_some is_line_feed c.args.bytes.now c.in-Some.end (sym c.in-Some.ensures) in
    line_cut c.args.bytes.now c.in-Some.end at.0 at.1

pub returns-in-None-clause-cut : goal.returns-in-None-clause-cut
returns-in-None-clause-cut c = line_last c.args.bytes.now c.requires (position_none is_line_feed c.args.bytes.now (sym c.in-None.ensures))
