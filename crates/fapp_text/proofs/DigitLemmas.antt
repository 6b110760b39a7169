-- Digits and what they write.
use Rattle.std.proofs.Common.{◌≡◌, ℕ, ◌+◌, ◌-◌, ◌*◌, ◌<◌, ◌≤◌, true, false, leb, List, length, get_or, take, refl, ap, ◌∙◌, Err, arith}
use Rattle.std.specs.List.{list_all}
use Rattle.std.specs.Char.{digit_value}
use Rattle.std.specs.Str.Parse.{digits_value}
use Rattle.std.proofs.lemmas.List.Sums.{AllPass-from_list_all}
use Rattle.std.proofs.lemmas.Int.Digits.{digits_value_more}
use Rattle.std.proofs.lemmas.Bool.{lt-leb}
use Rattle.fapp_text.specs.declared.numeral.TheConstants.{MAX_NUMBER}
use Rattle.fapp_text.specs.Numbers.{is_digit, bounded}
use Rattle.fapp_text.specs.declared.numeral.NumFault.TheVariants.{TooLarge}

pub in_range : (b : ℕ) → is_digit b ≡ true → (48 ≤ b) × (b ≤ 57)
in_range b h = (grind arith, grind arith)

pub digit_at : (digits : List ℕ) (i : ℕ) → list_all is_digit digits ≡ true → i < length digits → (48 ≤ get_or digits i 0) × (get_or digits i 0 ≤ 57)
digit_at digits i all lt = in_range (get_or digits i 0) (AllPass-from_list_all is_digit digits all i 0 lt)

value_of_digit : (b : ℕ) → 48 ≤ b → b ≤ 57 → digit_value b ≡ b - 48
value_of_digit b low high = grind arith

-- one more digit
pub value_more : (digits : List ℕ) (i : ℕ) → list_all is_digit digits ≡ true → i < length digits
    → digits_value 10 (take (i + 1) digits) ≡ digits_value 10 (take i digits) * 10 + (get_or digits i 0 - 48)
value_more digits i all lt =
    let d = digit_at digits i all lt in
    digits_value_more 10 digits i lt ∙ ap (λ n. digits_value 10 (take i digits) * 10 + n) (value_of_digit (get_or digits i 0) d.0 d.1)

pub too_large : (digits : List ℕ) (n : ℕ) → n ≤ digits_value 10 digits → MAX_NUMBER < n → bounded (digits_value 10 digits) ≡ Err TooLarge
too_large digits n h above =
    let e : leb (digits_value 10 digits) MAX_NUMBER ≡ false = lt-leb (digits_value 10 digits) MAX_NUMBER (omega arith) in
    rw e refl
