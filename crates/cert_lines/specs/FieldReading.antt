-- The fields at the front of a line: words, numbers and tags.
use Rattle.std.specs.Prelude.{◌≡◌, ℕ, Bool, true, false, ◌==◌, ◌&&◌, nat_lt, refl, List, [], ◌∷◌, length, slice_index, Result, Ok, Err, if◌then◌else◌}
use Rattle.std.specs.List.{slice_split}
use Rattle.fapp_text.specs.Numbers as digits
use Rattle.fapp_text.specs.Reading.{◌>>=◌, allowed, or_fault}
use Rattle.fapp_model.specs.declared.instance.Instance.{Instance}
use Rattle.fapp_model.specs.declared.tag.Tag.{Tag}
use Rattle.fapp_model.specs.declared.triple.Triple.{Triple}
use Rattle.fapp_model.specs.Levels.{levels_of}
use Rattle.fapp_model.specs.Tags.{code_of, is_tag, is_code}
use Rattle.cert_lines.specs.declared.fault.CertCause.{CertCause}
use Rattle.cert_lines.specs.declared.fault.CertCause.TheVariants.{FieldCount, BadNumber, BadTag}

abbrev pub is_space : ℕ → Bool
is_space b = b == 32

-- what stands before, between and after the spaces of a line
abbrev pub fields_of : List ℕ → List (List ℕ)
fields_of line = slice_split is_space line

-- the first field, and those after it
abbrev pub field_at : List (List ℕ) → Result (List ℕ × List (List ℕ)) CertCause
field_at [] = Err FieldCount
field_at (field ∷ fields) = Ok (field, fields)

-- no field is left
abbrev pub ended : List (List ℕ) → Result (Unit {0}) CertCause
ended [] = Ok tt
ended (field ∷ fields) = Err FieldCount

-- a zero, and digits after it
abbrev pub is_padded : List ℕ → Bool
is_padded field = nat_lt 1 (length field) && (slice_index field 0 == 48)

-- `0`, or digits without a leading zero, of a value that a text may have
abbrev pub number_of : List ℕ → Result ℕ CertCause
number_of field =
    if is_padded field then Err BadNumber else or_fault BadNumber (digits.number_of field)

unfoldable pub number_at : List (List ℕ) → Result (ℕ × List (List ℕ)) CertCause
number_at fields = do
  field ← field_at fields
  n ← number_of field.0
  Ok (n, field.1)

unfoldable pub triple_at : List (List ℕ) → Result (Triple × List (List ℕ)) CertCause
triple_at fields = do
  k ← number_at fields
  v ← number_at k.1
  s ← number_at v.1
  Ok (record { k = k.0; v = v.0; s = s.0 }, s.1)

-- the tag of a code
abbrev pub tag_of_code : (code : ℕ) (test : Bool) → is_code code ≡ test → Result Tag CertCause
tag_of_code code true h = Ok (record { code = code; of_tag = h })
tag_of_code code false h = Err BadTag

-- three numbers that are a tag of the instance
unfoldable pub tag_at : Instance → List (List ℕ) → Result (Tag × List (List ℕ)) CertCause
tag_at instance fields = do
  found ← triple_at fields
  t ← allowed (is_tag (levels_of instance) found.0) BadTag found.0
  tag ← tag_of_code (code_of t) (is_code (code_of t)) refl
  Ok (tag, found.1)
