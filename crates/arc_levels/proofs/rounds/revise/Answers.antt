use Rattle.std.proofs.Common.{◌+◌, true, ap, arith}
use Rattle.arc_levels.specs.declared.removals.Removals.{Removals}
use Rattle.arc_levels.proofs.LeftLaws.{left_as}
use Rattle.arc_levels.proofs.StepLaws.{revised_all, revised_as, revised_kept, revised_less, shares_apart}
use Rattle.arc_levels.proofs.rounds.revise.Goals.{then-is_lonely+in_ok-remove, else-is_lonely}
use Rattle.arc_levels.proofs.rounds.revise.Goals as goal

pub is_lonely-requires-clause-left : goal.is_lonely-requires-clause-left
is_lonely-requires-clause-left c =
    let pair = c.args.pair.now in
    left_as pair.instance.now pair.level c.args.removals.now.rows.items c.loop-choice.removals.rows.items pair.other c.args.left.now
    (λ k. c.loop-choice.invariant.others pair.other k (shares_apart pair.instance.now c.requires.pair.valid pair.path pair.other c.requires.pair.shares)) c.requires.left

pub loop-choice-preserved : goal.loop-choice-preserved
loop-choice-preserved c =
    let pair = c.args.pair.now in
    let old = c.args.removals.now.rows.items in
    let k = c.loop-choice.choice in
    let here = c.loop-choice.removals in
    let then = c.if-is_lonely.removals in
    let changed = c.loop-choice.changed in
    elim c.if-is_lonely.branch [
      | then-is_lonely+in_ok-remove w ↦
          let lonely = c.is_lonely.ensures.yes w.if-is_lonely.true in
          revised_as pair.instance.now pair.level pair.path pair.other old w.remove.new.self.rows.items then.rows.items w.remove.new.self.lines then.lines true c.if-is_lonely.changed (k + 1)
          (ap (λ (r : Removals). r.rows.items) w.removals-is) (ap (λ (r : Removals). r.lines) w.removals-is) w.changed-is
          (revised_less pair.instance.now pair.level pair.path pair.other old here.rows.items w.remove.new.self.rows.items here.lines w.remove.new.self.lines changed k c.loop-choice.invariant
          (record {
            valid = c.requires.pair.valid;
            small = c.requires.pair.level;
            home = record { path = c.requires.pair.path; choice = omega (arith, c.count-choice-end.ensures.count, c.loop-choice-test.true) };
            end = c.requires.pair.other;
            shares = c.requires.pair.shares;
            kept = c.loop-choice.invariant.kept;
            within = lonely.within;
            lonely = lonely.alone;
          }) w.in_ok-remove.ensures)
      | else-is_lonely w ↦
          revised_as pair.instance.now pair.level pair.path pair.other old here.rows.items then.rows.items here.lines then.lines changed c.if-is_lonely.changed (k + 1)
          (ap (λ (r : Removals). r.rows.items) w.removals-is) (ap (λ (r : Removals). r.lines) w.removals-is) w.changed-is
          (revised_kept pair.instance.now pair.level pair.path pair.other old here.rows.items here.lines changed k c.loop-choice.invariant
          (c.is_lonely.ensures.no w.if-is_lonely.false))
    ]

pub returns-clause-revision : goal.returns-clause-revision
returns-clause-revision c =
    let pair = c.args.pair.now in
    revised_all pair.instance.now pair.level pair.path pair.other c.args.removals.now.rows.items c.loop-choice.removals.rows.items c.loop-choice.removals.lines c.loop-choice.changed c.loop-choice.choice
    c.requires.pair.level (omega arith) c.loop-choice.invariant
