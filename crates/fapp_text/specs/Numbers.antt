-- Numbers in fields: decimal digits, leading zeros too.
use Rattle.std.specs.Prelude.{ℕ, Bool, ◌&&◌, nat_lt, nat_le, List, length, Result, Ok, Err, if◌then◌else◌}
use Rattle.std.specs.List.{list_all}
use Rattle.std.specs.Str.Parse.{digits_value}
use Rattle.fapp_text.specs.declared.numeral.TheConstants.{MAX_NUMBER}
use Rattle.fapp_text.specs.declared.numeral.NumFault.{NumFault}
use Rattle.fapp_text.specs.declared.numeral.NumFault.TheVariants.{NotDigits, TooLarge}

abbrev pub is_digit : ℕ → Bool
is_digit b = nat_le 48 b && nat_le b 57

-- one digit or more, and nothing else
abbrev pub is_numeral : List ℕ → Bool
is_numeral field = nat_lt 0 (length field) && list_all is_digit field

-- the number that digits write
abbrev pub value : List ℕ → ℕ
value digits = digits_value 10 digits

abbrev pub bounded : ℕ → Result ℕ NumFault
bounded n = if nat_le n MAX_NUMBER then Ok n else Err TooLarge

-- the number that a field is
abbrev pub number_of : List ℕ → Result ℕ NumFault
number_of field = if is_numeral field then bounded (value field) else Err NotDigits

abbrev pub fault_number : NumFault → ℕ
fault_number NotDigits = 1
fault_number TooLarge = 2
