use Rattle.std.proofs.Common.{length, [], ◌∷◌, ap, ◌∙◌, arith}
use Rattle.std.proofs.lemmas.List.{length-append}
use Rattle.search_log.specs.Segments.{ended}
use Rattle.search_log.specs.LogStates.{LogState}
use Rattle.search_log.proofs.Ended.{ended-push}
use Rattle.search_log.proofs.log.Log.home.Goals as goal

pub invariant_of-self-2 : goal.invariant_of-self-2
invariant_of-self-2 c =
    let end = ap ended c.in_ok-push.ensures.items ∙ ended-push c.self.inside.segments.items _ in
    let lines = ap (λ (log : LogState). length log.lines) c.self.view_is in
    let segments = ap (λ (log : LogState). ended log.segments) c.self.view_is in
    let more = ap length c.in_ok-push.ensures.items ∙ length-append c.self.inside.segments.items (_ ∷ []) in
    (c.self.invariant.0, omega (arith, end, c.len.ensures, c.requires, lines), omega (arith, end, more, segments, c.self.invariant.2, c.len.ensures, c.requires, lines))
