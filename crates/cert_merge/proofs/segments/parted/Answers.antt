use Rattle.std.proofs.Common.{◌≡◌, length, ap, ◌∙◌, arith}
use Rattle.std.proofs.lemmas.List.{length-map}
use Rattle.search_log.specs.LogStates.{LogState}
use Rattle.cert_merge.proofs.Gatherings.{parted-lines, parted-pieces}
use Rattle.cert_merge.proofs.segments.parted.Goals as goal

pub loop-log-preserved : goal.loop-log-preserved
loop-log-preserved c =
    let place : c.in-Ok.place ≡ length c.loop-log.yielded =
    omega (arith, c.in-Ok.ensures, c.len-in-loop-log.ensures, c.loop-log.rests.ok.0, ap length c.loop-log.invariant.0, length-map c.loop-log.yielded (λ (l : LogState). l.lines)) in (
      parted-lines c.loop-log.yielded c.in-Some.log c.loop-log.rests.items c.push.new.self.items c.of.result c.loop-log.invariant.0 c.in_ok-push.ensures.items (c.of.ensures ∙ c.into_parts-lines.ensures.lines),
      parted-pieces c.loop-log.yielded c.in-Some.log c.loop-log.pieces.items c.push_pieces.new.pieces.items c.in-Ok.place c.deref.result.now c.loop-log.invariant.1 c.in_ok-push_pieces.ensures place
          (c.deref.ensures.value ∙ c.into_parts-lines.ensures.segments),
    )
