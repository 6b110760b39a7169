use Rattle.std.proofs.Common.{◌≡◌, ◌++◌, ◌≤◌, length, map}
use Rattle.record_reader.specs.declared.field.TheConstants.{MOST_FIELDS}
use Rattle.record_reader.specs.Fields.{fields_of}
use Rattle.record_reader.proofs.field.first_fields.Given as goal

abbrev pub invariant-loop-left : goal.invariant-loop-left
invariant-loop-left l = (map (λ x. x.now) l.fields.items ++ l.left ≡ fields_of l.line) × (length l.fields.items ≤ MOST_FIELDS)

abbrev pub decreases-loop-left : goal.decreases-loop-left
decreases-loop-left l = length l.left
