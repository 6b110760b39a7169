use Rattle.std.proofs.Common.{◌∙◌, ap, map, subst}
use Rattle.fapp_text.specs.Reading.{at_line}
use Rattle.record_reader.specs.Fields.{fields_of}
use Rattle.record_reader.specs.LineReading.{read_line}
use Rattle.record_reader.specs.Readers.{HoldsRead}
use Rattle.record_reader.proofs.FirstFields.{same_line}
use Rattle.record_reader.proofs.reader.Reader.add_line.Goals as goal

pub returns : goal.returns
returns c = λ contents held.
    let first = ap (map (λ x. x.now)) c.as_slice.ensures.value ∙ c.in_ok-fields.ensures in
    let same = ap (read_line contents c.args.line) first ∙ same_line contents c.args.line (fields_of c.args.text.now) in
    subst (λ r. HoldsRead (at_line c.args.line r) c.add_fields.result c.add_fields.new.self) same (c.add_fields.ensures contents held)
