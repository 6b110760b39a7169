use Rattle.std.proofs.Common.{List, length, subst, sym}
use Rattle.fapp_model.specs.declared.instance.Instance.{Instance}
use Rattle.choice_counts.specs.declared.rows.PathTallies.{PathTallies}
use Rattle.choice_counts.proofs.DeadByBound.{level_few}
use Rattle.forward_count.specs.Starts.{AreShaped}
use Rattle.forward_count.proofs.ReadLaws.{shaped}
use Rattle.forward_count.proofs.forward.Forward.keep_level.Goals as goal

pub start-totals-requires-clause-rows : goal.start-totals-requires-clause-rows
start-totals-requires-clause-rows c =
    subst (λ (i : Instance). AreShaped i c.as_mut_slice.result.now (length i.paths)) (sym c.instance-instance.ensures.value)
    (subst (λ (rs : List PathTallies). AreShaped c.self.inside.tables.now rs (length c.self.inside.tables.now.paths)) (sym c.as_mut_slice.ensures.value)
    (shaped c.self.inside.tables.now c.self.inside.level c.self.inside.pushed.items c.self.inside.partial c.self.inside.rows.items c.self.inside.totals c.self.inside.pushed.cap c.self.invariant.1))

pub keep_level-requires-clause-level : goal.keep_level-requires-clause-level
keep_level-requires-clause-level c = level_few c.args.self.now.instance c.args.level c.requires
