use Rattle.std.proofs.Common.{[], take, drop, ap, ◌∙◌, arith}
use Rattle.std.proofs.lemmas.List.{get_or_default}
use Rattle.merge_laws.specs.Stages.{Merged, emit_all}
use Rattle.cert_merge.proofs.Lefts.{piece-left}
use Rattle.cert_merge.proofs.merged.Certificate.write_piece.Goals as goal

pub returns-clause-left : goal.returns-clause-left
returns-clause-left c logs left =
    let s = c.args.self.now in
    let log = c.args.piece.now.log in
    let count = c.saturating_sub-count.result in
    let rest = get_or_default c.args.rests.now log c.index-rests-log.result [] (omega (arith, c.requires.rests, c.requires.within.log)) in
    piece-left logs s c.write_lines.new.self c.land.new.self c.args.rests.now c.write_lines.new.rest log count c.requires.within.log c.requires.rests left
    (c.in_ok-write_lines.ensures.lines ∙ ap (λ xs. emit_all log (take count xs) s) rest)
    (ap (λ (v : Merged). v.own) c.land.ensures)
    (c.in_ok-write_lines.ensures.rest ∙ ap (drop count) rest)
