-- What single fields say.
use Rattle.std.specs.Prelude.{ℕ, Bool, true, false, ◌-◌, ◌==◌, List, [], ◌∷◌, ℤ, pos, length, take, slice_index, slice_index_or, codes, Result, Ok, Err, if◌then◌else◌}
use Rattle.std.specs.Str.{bytes_eq}
use Rattle.std.specs.Option.{ok_or}
use Rattle.fapp_text.specs.Fields.{fields}
use Rattle.fapp_text.specs.Numbers.{number_of}
use Rattle.fapp_text.specs.Signs.{sign_of}
use Rattle.record_reader.specs.declared.cause.Cause.{Cause}
use Rattle.record_reader.specs.declared.cause.Cause.TheVariants.{BadNumber, BadWord, BadPolarization}
use Rattle.fapp_text.specs.Reading.{◌>>=◌, or_fault}

abbrev pub carriage_return : ℕ
carriage_return = 13

-- a line without the carriage return at its end, where it has one
abbrev pub without_return : List ℕ → List ℕ
without_return line =
    if slice_index line (length line - 1) == carriage_return then take (length line - 1) line
    else line

abbrev pub fields_of : List ℕ → List (List ℕ)
fields_of line = fields (without_return line)

abbrev pub field : List (List ℕ) → ℕ → List ℕ
field fields k = slice_index_or fields k []

abbrev pub number : List ℕ → Result ℕ Cause
number text = or_fault BadNumber (number_of text)

-- the numbers of fields, or the fault of the first that is none
abbrev pub numbers : List (List ℕ) → Result (List ℕ) Cause
numbers [] = Ok []
numbers (text ∷ rest) = do
  n ← number text
  others ← numbers rest
  Ok (n ∷ others)

-- whether a field is the first of two words and not the second
abbrev pub either_word : List ℕ → List ℕ → List ℕ → Result Bool Cause
either_word first second text =
    if bytes_eq text first then Ok true else (if bytes_eq text second then Ok false
    else Err BadWord)

-- a sign, or 0 where the path is free
abbrev pub polarization : List ℕ → Result ℤ Cause
polarization text =
    if bytes_eq text (codes "0") then Ok (pos 0) else ok_or (sign_of text) BadPolarization
