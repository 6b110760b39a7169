use Rattle.std.proofs.Common.{◌||◌, eqb, subst}
use Rattle.std.proofs.lemmas.Bool.{and_parts}
use Rattle.fapp_model.specs.declared.level.TheConstants.{MAX_LEVELS}
use Rattle.fapp_model.specs.Levels.{levels_of}
use Rattle.fapp_model.specs.Tags.{has_limit, is_tag}
use Rattle.fapp_model.proofs.LevelNumbers.{levels-few}
use Rattle.cert_lines.specs.WellFormed.{IsVerdict}
use Rattle.cert_lines.proofs.Codes.{tag_within}
use Rattle.cert_merge.proofs.claim.verdict_tag.Goals as goal

pub tag_for-requires : goal.tag_for-requires
tag_for-requires c =
    let instance = c.args.instance.now in
    let formed = subst (IsVerdict instance) c.in-Best.is c.requires in
    let parts = and_parts (is_tag (levels_of instance) c.in-Best.t) (has_limit c.in-Best.t || eqb c.in-Best.t.k 0) formed in
    tag_within (levels_of instance) MAX_LEVELS c.in-Best.t (levels-few instance).1 parts.0
