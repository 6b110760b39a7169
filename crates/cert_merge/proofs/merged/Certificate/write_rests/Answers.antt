use Rattle.std.proofs.Common.{◌≡◌, ◌<◌, List, [], length, take, drop, ap, ◌∙◌, arith}
use Rattle.std.proofs.lemmas.List.{get_or_default}
use Rattle.search_log.specs.declared.line.LogLine.{LogLine}
use Rattle.merge_laws.specs.Stages.{emit_all}
use Rattle.cert_merge.specs.Growth.{AreLeft}
use Rattle.cert_merge.proofs.Lefts.{rests-more}
use Rattle.cert_merge.proofs.Numbers.{room-and}
use Rattle.cert_merge.proofs.merged.Certificate.write_rests.Goals as goal

pub loop-log-preserved : goal.loop-log-preserved
loop-log-preserved c = (
  room-and c.args.self.now c.loop-log.self c.write_lines.new.self c.loop-log.invariant.0 c.in_ok-write_lines.ensures.room,
  λ (logs : List (List LogLine)) (left : AreLeft logs c.args.self.now c.args.rests.now).
      let before = c.loop-log.invariant.1 logs left in
      let n = c.loop-log.log in
      let count = c.len-count.result in
      let wide : length c.loop-log.rests ≡ length c.loop-log.self.own = omega (arith, c.loop-log.auto.rests, c.requires, c.loop-log.invariant.0.own) in
      let inside : n < length c.loop-log.rests = omega (arith, c.loop-log-test.true, c.loop-log.auto.rests) in
      let rest = get_or_default c.loop-log.rests n c.index-rests-log.result [] inside in
      let same = get_or_default c.loop-log.rests n c.index-rests-log-in-loop-log.result [] inside in
      rests-more logs n count c.args.self.now c.loop-log.self c.write_lines.new.self c.loop-log.rests c.write_lines.new.rest (omega (arith, before.left.count)) (omega (arith, wide)) wide before
      (c.len-count.ensures ∙ ap length rest)
      (c.in_ok-write_lines.ensures.lines ∙ ap (λ xs. emit_all n (take count xs) c.loop-log.self) same)
      (c.in_ok-write_lines.ensures.rest ∙ ap (drop count) same),
)
