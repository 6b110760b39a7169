-- The fields that a reader of a line has still to read.
use Rattle.std.specs.Prelude.{ℕ, List, [], Option, Some, None}
use Rattle.std.specs.Borrow.{Bor}
use Rattle.cert_lines.specs.declared.fields.Fields.{Fields}
use Rattle.cert_lines.specs.FieldReading.{fields_of}

abbrev pub left_of : Option (Bor (List ℕ)) → List (List ℕ)
left_of (Some bytes) = fields_of bytes.now
left_of None = []

abbrev pub fields_left : Fields → List (List ℕ)
fields_left fields = left_of fields.rest
