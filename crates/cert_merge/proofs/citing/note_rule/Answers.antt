use Rattle.std.proofs.Common.{◌<◌, length, All, subst}
use Rattle.cert_lines.specs.declared.answer.Rule.{Rule}
use Rattle.cert_lines.specs.Renumbering.{cited}
use Rattle.cert_merge.proofs.LastCites.{children-inside}
use Rattle.cert_merge.proofs.citing.note_rule.Goals as goal

pub note_children-requires : goal.note_children-requires
note_children-requires c = rw c.as_slice-in-Branch.ensures (children-inside (length c.args.last.now) c.in-Branch.children (subst (λ (rule : Rule). All (λ k. k < length c.args.last.now) (cited rule)) c.in-Branch.is c.requires))
