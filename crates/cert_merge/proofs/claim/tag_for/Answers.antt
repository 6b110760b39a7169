use Rattle.std.proofs.Common.{sym, ◌∙◌, arith}
use Rattle.fapp_model.specs.declared.level.TheConstants.{MAX_LEVELS}
use Rattle.cert_lines.proofs.TagLemmas.{same_tag}
use Rattle.cert_lines.specs.acceptance.RootFaults.{tag_for}
use Rattle.accept_laws.proofs.Accepting.{tag_for-code}
use Rattle.cert_merge.proofs.claim.tag_for.Goals as goal

pub returns : goal.returns
returns c = same_tag c.tag_of.result (tag_for c.args.t) (c.tag_of.ensures.code ∙ sym (tag_for-code MAX_LEVELS c.args.t (omega arith) c.requires))
