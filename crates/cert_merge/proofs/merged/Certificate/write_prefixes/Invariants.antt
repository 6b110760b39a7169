use Rattle.std.proofs.Common.{◌≡◌, drop}
use Rattle.merge_laws.specs.Levels.{emit_prefixes}
use Rattle.merge_laws.specs.Refuted.{prefix_number}
use Rattle.cert_merge.specs.Growth.{with_out}
use Rattle.cert_merge.proofs.merged.Certificate.write_prefixes.Given as goal

abbrev pub invariant-loop-place : goal.invariant-loop-place
invariant-loop-place l = (l.self ≡ with_out l.fn.self l.self.out)
    × (emit_prefixes l.tag (prefix_number l.plan.instance l.collected l.tag.code l.fn.self) 0 l.lists l.fn.self.out
    ≡ emit_prefixes l.tag (prefix_number l.plan.instance l.collected l.tag.code l.fn.self) l.place (drop l.place l.lists) l.self.out)
