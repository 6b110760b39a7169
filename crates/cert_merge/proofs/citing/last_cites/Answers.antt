use Rattle.std.proofs.Common.{◌≡◌, ◌+◌, ◌∙◌, ℕ, List, ap, arith, drop, length, replicate, rules}
use Rattle.cert_merge.specs.Compacting.{AreLast, noted}
use Rattle.cert_lines.specs.Renumbering.{cited}
use Rattle.cert_merge.proofs.LastCites.{cites-inside, last-more, last-none, whole-back}
use Rattle.cert_merge.proofs.citing.last_cites.Goals as goal

pub loop-place-init : goal.loop-place-init
loop-place-init c =
    let zeros : c.in_ok-last.last.items ≡ replicate (length c.args.lines.now + 1) 0 = search rules in
    last-none c.args.lines.now c.in_ok-last.last.items zeros

pub note_rule-requires : goal.note_rule-requires
note_rule-requires c = cites-inside c.args.lines.now c.loop-place.place c.index-lines-place.result c.deref_mut.result.now c.loop-place-test.true c.index-lines-place.is c.requires.cites
    (ap (λ (ns : List ℕ). length ns) c.deref_mut.ensures.value ∙ c.loop-place.invariant.long)

pub loop-place-preserved : goal.loop-place-preserved
loop-place-preserved c =
    let back : AreLast c.args.lines.now (c.loop-place.place + 1) c.note_rule.new.last =
    last-more c.args.lines.now c.loop-place.place c.index-lines-place.result c.loop-place.last.items c.note_rule.new.last c.loop-place-test.true c.index-lines-place.is c.requires.cites c.loop-place.invariant
    (c.note_rule.ensures ∙ ap (λ (ns : List ℕ). noted ns (c.loop-place.place + 1) (cited c.index-lines-place.result.rule)) c.deref_mut.ensures.value) in
    rw (whole-back c.loop-place.last.len c.note_rule.new.last (drop (length c.note_rule.new.last) c.loop-place.last.items) (omega (arith, back.long, c.loop-place.invariant.long, c.loop-place.last.ok))) back
