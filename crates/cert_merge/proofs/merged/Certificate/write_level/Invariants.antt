use Rattle.std.proofs.Common.{◌≡◌, ◌+◌, ◌*◌, ◌≤◌, length, drop}
use Rattle.fapp_model.specs.declared.instance.Instance.{Instance}
use Rattle.fapp_model.specs.declared.limits.TheConstants.{MAX_NUMBER}
use Rattle.merge_laws.specs.Levels.{emit_level}
use Rattle.cert_merge.specs.Growth.{IsStepOf, with_out}
use Rattle.cert_merge.proofs.merged.Certificate.write_level.Given as goal

abbrev pub invariant-loop-list : goal.invariant-loop-list
invariant-loop-list l = (l.self ≡ with_out l.fn.self l.self.out)
    × (l.next + length (drop l.list-index l.lists) * l.step.choices ≤ MAX_NUMBER + 1)
    × ((instance : Instance) → IsStepOf instance l.step →
    emit_level instance l.tag l.step.path l.fn.first l.lists l.fn.self.out
    ≡ emit_level instance l.tag l.step.path l.next (drop l.list-index l.lists) l.self.out)
