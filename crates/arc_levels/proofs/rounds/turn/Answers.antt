use Rattle.std.proofs.Common.{◌+◌, List, Bool, true, length, slice_index, sym, ap, subst, arith}
use Rattle.fapp_tables.specs.Indexes.{neighbours_of}
use Rattle.arc_levels.proofs.GapLaws.{kept_of, path_of, revision_of}
use Rattle.arc_levels.proofs.StepLaws.{IsTurned, turned_fresh, turned_lost, turned_same}
use Rattle.arc_levels.proofs.rounds.turn.Goals.{then-branch, else-branch}
use Rattle.arc_levels.proofs.rounds.turn.Goals as goal

pub loop-place-preserved : goal.loop-place-preserved
loop-place-preserved c =
    let instance = c.args.tables.now in
    let pair = c.pair_at-pair.result in
    let of = c.pair_at-pair.ensures.of in
    let near = slice_index (neighbours_of instance c.args.other) c.loop-place.place in
    let own = path_of instance c.args.level near c.args.other pair of c.pair_at-pair.ensures.pair in
    let old = c.args.removals.now.rows.items in
    let here = c.loop-place.removals in
    let new = c.revise.new.removals in
    let lost = c.in_ok-revise.field-0 in
    let kept = kept_of instance c.args.level near c.args.other pair of new.rows.items new.lines c.in_ok-revise.ensures.removals in
    let revision = revision_of instance c.args.level near c.args.other pair of here.rows.items new.rows.items lost c.in_ok-revise.ensures.revision in
    elim c.if-branch.branch [
      | then-branch w ↦
          subst (λ x. IsTurned instance c.args.level c.args.other old new.rows.items new.lines c.args.stale.now c.if-branch.stale x (c.loop-place.place + 1)) (sym w.changed-is)
          (subst (λ (x : List Bool). IsTurned instance c.args.level c.args.other old new.rows.items new.lines c.args.stale.now x true (c.loop-place.place + 1)) (sym w.stale-is)
          (turned_lost instance c.args.level c.args.other pair.path old here.rows.items new.rows.items here.lines new.lines c.args.stale.now c.loop-place.stale c.loop-place.changed lost c.loop-place.place
          c.requires.valid own.0 own.1 (sym of.path_is) c.loop-place.invariant kept revision w.if-branch.true))
      | else-branch w ↦
          subst (λ x. IsTurned instance c.args.level c.args.other old new.rows.items new.lines c.args.stale.now c.if-branch.stale x (c.loop-place.place + 1)) (sym w.changed-is)
          (subst (λ (x : List Bool). IsTurned instance c.args.level c.args.other old new.rows.items new.lines c.args.stale.now x c.loop-place.changed (c.loop-place.place + 1)) (sym w.stale-is)
          (turned_same instance c.args.level c.args.other pair.path old here.rows.items new.rows.items here.lines new.lines c.args.stale.now c.loop-place.stale c.loop-place.changed lost c.loop-place.place
          c.requires.valid own.0 own.1 (sym of.path_is) c.loop-place.invariant kept revision w.if-branch.false))
    ]

pub returns-clause-fresh : goal.returns-clause-fresh
returns-clause-fresh c =
    turned_fresh c.args.tables.now c.args.level c.args.other c.args.removals.now.rows.items c.loop-place.removals.rows.items c.loop-place.removals.lines c.args.stale.now c.loop-place.stale c.loop-place.changed c.loop-place.place
    c.requires.valid (omega (arith, c.loop-place-test.false, ap length c.neighbours-place-end.ensures)) c.loop-place.invariant
