use Rattle.std.proofs.Common.{◌+◌, ◌∙◌, map, drop, arith, length-set}
use Rattle.std.proofs.lemmas.List.{length-map}
use Rattle.fapp_model.specs.declared.level.TheConstants.{MAX_LEVELS}
use Rattle.record_reader.proofs.Distances.{one_more, zeros_more, all_read, all_padded}
use Rattle.record_reader.proofs.line.distances.Goals as goal

pub loop-level-preserved : goal.loop-level-preserved
loop-level-preserved c =
    let fields = map (λ x. x.now) c.args.fields.now in
    let count = length-map c.args.fields.now (λ x. x.now) in
    let known = c.loop-level.invariant in (
      length-set c.loop-level.dist c.loop-level.level c.in_ok-dist.field-0 ∙ known.0,
      zeros_more c.loop-level.dist c.loop-level.level c.in_ok-dist.field-0 MAX_LEVELS known.1,
      one_more fields c.loop-level.dist c.loop-level.level (c.loop-level.level + 3) (c.loop-level.level + 1 + 3) c.in_ok-dist.field-0 _ (omega arith) (omega (arith, count, c.requires.count, c.loop-level-test.true)) (omega (arith, known.0, c.requires.levels, c.loop-level-test.true)) c.in_ok-dist.ensures known.2,
    )

pub returns : goal.returns
returns c =
    let fields = map (λ x. x.now) c.args.fields.now in
    let count = length-map c.args.fields.now (λ x. x.now) in
    let known = c.loop-level.invariant in
    all_padded (drop 3 fields) c.loop-level.dist c.loop-level.level (omega (arith, c.requires.levels)) known.0 known.1
    (all_read fields c.loop-level.dist c.loop-level.level (c.loop-level.level + 3) _ (omega (arith, count, c.requires.count, c.loop-level-test.false)) known.2)
