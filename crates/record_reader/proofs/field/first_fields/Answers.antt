use Rattle.std.proofs.Common.{map, arith}
use Rattle.std.proofs.lemmas.List.{length-map}
use Rattle.record_reader.specs.Fields.{fields_of}
use Rattle.record_reader.proofs.FirstFields.{full_fields}
use Rattle.record_reader.proofs.field.first_fields.Goals as goal

pub returns : goal.returns
returns c =
    let known = c.loop-left.invariant in
    let first = map (λ x. x.now) c.loop-left.fields.items in
    full_fields first c.loop-left.left (fields_of c.args.line.now) known.0
    (omega (arith, length-map c.loop-left.fields.items (λ x. x.now), known.1, c.len.ensures, c.loop-left-test.false))
