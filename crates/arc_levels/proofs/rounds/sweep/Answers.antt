use Rattle.std.proofs.Common.{◌<◌, ◌||◌, ◌+◌, false, true, length, sym, ap, ◌∙◌, arith}
use Rattle.std.proofs.lemmas.Bool.{or_left}
use Rattle.std.proofs.lemmas.List.{get_or_default}
use Rattle.fapp_model.specs.declared.instance.Instance.{Instance}
use Rattle.arc_levels.specs.declared.removals.Removals.{Removals}
use Rattle.arc_levels.proofs.StepLaws.{swept_all, swept_as, swept_more, swept_skip}
use Rattle.arc_levels.proofs.rounds.sweep.Goals.{then-stale-path+in_ok-lost+then-lost, then-stale-path+in_ok-lost+else-lost, else-stale-path}
use Rattle.arc_levels.proofs.rounds.sweep.Goals as goal

-- the path is one of the instance's
inside : (c : goal.Joined-stale-path) → c.loop-path.path < length c.args.tables.now.paths
inside c = omega (arith, c.loop-path-test.true, c.len-path-end.ensures, ap (λ (i : Instance). length i.paths) c.instance.ensures.value)

pub loop-path-preserved : goal.loop-path-preserved
loop-path-preserved c =
    let instance = c.args.tables.now in
    let old = c.args.removals.now.rows.items in
    let here = c.loop-path.removals in
    let then = c.if-stale-path.removals in
    let changed = c.loop-path.changed in
    let path = c.loop-path.path in
    elim c.if-stale-path.branch [
      | then-stale-path+in_ok-lost+then-lost w ↦
          let new = w.turn.new.removals in
          let lost = w.in_ok-lost.lost in
          swept_as instance c.args.level old new.rows.items then.rows.items new.lines then.lines w.turn.new.stale c.if-stale-path.stale (lost || changed) c.if-stale-path.changed (path + 1)
          (ap (λ (r : Removals). r.rows.items) w.removals-is) (ap (λ (r : Removals). r.lines) w.removals-is) w.stale-is (w.changed-is ∙ (w.if-lost.true ∙ sym (or_left lost changed w.if-lost.true)))
          (swept_more instance c.args.level old here.rows.items new.rows.items here.lines new.lines c.loop-path.stale w.turn.new.stale changed lost path (inside c)
          c.loop-path.invariant w.in_ok-lost.ensures.removals w.in_ok-lost.ensures.fresh w.in_ok-lost.ensures.turn w.in_ok-lost.ensures.same)
      | then-stale-path+in_ok-lost+else-lost w ↦
          let new = w.turn.new.removals in
          let lost = w.in_ok-lost.lost in
          swept_as instance c.args.level old new.rows.items then.rows.items new.lines then.lines w.turn.new.stale c.if-stale-path.stale (lost || changed) c.if-stale-path.changed (path + 1)
          (ap (λ (r : Removals). r.rows.items) w.removals-is) (ap (λ (r : Removals). r.lines) w.removals-is) w.stale-is (w.changed-is ∙ sym (ap (λ t. t || changed) w.if-lost.false))
          (swept_more instance c.args.level old here.rows.items new.rows.items here.lines new.lines c.loop-path.stale w.turn.new.stale changed lost path (inside c)
          c.loop-path.invariant w.in_ok-lost.ensures.removals w.in_ok-lost.ensures.fresh w.in_ok-lost.ensures.turn w.in_ok-lost.ensures.same)
      | else-stale-path w ↦
          swept_as instance c.args.level old here.rows.items then.rows.items here.lines then.lines c.loop-path.stale c.if-stale-path.stale changed c.if-stale-path.changed (path + 1)
          (ap (λ (r : Removals). r.rows.items) w.removals-is) (ap (λ (r : Removals). r.lines) w.removals-is) w.stale-is w.changed-is
          (swept_skip instance c.args.level old here.rows.items here.lines c.loop-path.stale changed path (get_or_default c.loop-path.stale path true false (omega (arith, inside c, c.loop-path.invariant.fresh.whole)) ∙ w.if-stale-path.false) c.loop-path.invariant)
    ]

pub returns-clause-sweep : goal.returns-clause-sweep
returns-clause-sweep c =
    swept_all c.args.tables.now c.args.level c.args.removals.now.rows.items c.loop-path.removals.rows.items c.loop-path.removals.lines c.loop-path.stale c.loop-path.changed c.loop-path.path
    c.requires.valid (omega (arith, c.loop-path-test.false, c.len-path-end.ensures, ap (λ (i : Instance). length i.paths) c.instance.ensures.value)) c.loop-path.invariant
