-- The causes of a text's faults: their numbers, and what they are called where they are printed.
use Rattle.std.specs.Prelude.{ℕ, List, codes}
use Rattle.cert_lines.specs.declared.fault.CertCause.{CertCause}
use Rattle.cert_lines.specs.declared.fault.CertCause.TheVariants.{FieldCount, BadNumber, BadKind, BadTag, BadOrder, NoEnd, AfterEnd, UnknownPath, UnknownChoice}

abbrev pub cause_number : CertCause → ℕ
cause_number FieldCount = 1
cause_number BadNumber = 2
cause_number BadKind = 3
cause_number BadTag = 4
cause_number BadOrder = 5
cause_number NoEnd = 6
cause_number AfterEnd = 7
cause_number UnknownPath = 8
cause_number UnknownChoice = 9

abbrev pub cause_name : CertCause → List ℕ
cause_name FieldCount = codes "FieldCount"
cause_name BadNumber = codes "BadNumber"
cause_name BadKind = codes "BadKind"
cause_name BadTag = codes "BadTag"
cause_name BadOrder = codes "BadOrder"
cause_name NoEnd = codes "NoEnd"
cause_name AfterEnd = codes "AfterEnd"
cause_name UnknownPath = codes "UnknownPath"
cause_name UnknownChoice = codes "UnknownChoice"
