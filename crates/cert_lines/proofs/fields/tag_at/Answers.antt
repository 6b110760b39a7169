use Rattle.std.proofs.Common.{sym, ◌≡◌, ◌∙◌, true}
use Rattle.fapp_model.specs.declared.level.TheConstants.{MAX_LEVELS}
use Rattle.fapp_model.specs.Tags.{is_tag}
use Rattle.cert_lines.specs.FieldsLeft.{fields_left}
use Rattle.cert_lines.proofs.Codes.{tag_within}
use Rattle.cert_lines.proofs.TagReading.{tag_read}
use Rattle.cert_lines.proofs.fields.tag_at.Goals as goal

pub tag_of-requires : goal.tag_of-requires
tag_of-requires c = tag_within c.levels.result MAX_LEVELS c.in_ok-t.t c.levels.ensures.few (sym c.is_tag.ensures ∙ c.if-not-is_tag.false)

pub returns : goal.returns
returns c =
    let own : is_tag c.levels.result c.in_ok-t.t ≡ true = sym c.is_tag.ensures ∙ c.if-not-is_tag.false in
    tag_read c.args.instance.now (fields_left c.args.fields) (fields_left c.in_ok-t.rest) c.in_ok-t.t c.tag_of.result c.in_ok-t.ensures (rw c.levels.ensures.levels at own) c.tag_of.ensures.code
