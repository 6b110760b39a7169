use Rattle.std.proofs.Common.{◌≡◌, take}
use Rattle.std.specs.List.{flat_map}
use Rattle.fapp_model.specs.declared.instance.Instance.{Instance}
use Rattle.merge_laws.specs.Levels.{longer}
use Rattle.cert_merge.specs.Growth.{IsStepOf}
use Rattle.cert_merge.proofs.tree.longer.Given as goal

abbrev pub invariant-loop-list : goal.invariant-loop-list
invariant-loop-list l = (instance : Instance) → IsStepOf instance l.step → l.more.items ≡ flat_map (longer instance l.step.path) (take l.list-index l.lists)
