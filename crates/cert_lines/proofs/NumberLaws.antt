-- The number that a field is, both ways.
use Rattle.std.proofs.Common.{◌≡◌, ℕ, zero, suc, ◌^◌, ◌<◌, ◌≤◌, Bool, true, false, cond, ◌&&◌, eqb, ltb, leb, List, length, get_or, decimal, Result, Ok, Err, refl, sym, ap, ◌∙◌, arith, rules}
use Rattle.std.proofs.lemmas.Bool.{and_parts, leb-true, le-leb}
use Rattle.std.specs.List.{list_all}
use Rattle.std.specs.Str.Parse.{digits_value}
use Rattle.std.proofs.lemmas.Bool.Decides.{nat_tests}
use Rattle.std.proofs.lemmas.Str.Parse.{IsNumeralModel, numerals_by_value}
use Rattle.std.proofs.lemmas.Fmt.{decimal-digits_value, digits_decimal, digits_value-decimal, decimal_nonempty, first_decimal, decimal_digit}
use Rattle.fapp_text.specs.Numbers.{is_digit, is_numeral, value, bounded}
use Rattle.fapp_text.specs.Numbers as digits
use Rattle.fapp_text.specs.Reading.{or_fault}
use Rattle.fapp_text.specs.declared.numeral.TheConstants.{MAX_NUMBER}
use Rattle.fapp_text.specs.declared.numeral.NumFault.{NumFault}
use Rattle.fapp_text.specs.declared.numeral.NumFault.TheVariants.{NotDigits, TooLarge}
use Rattle.fapp_model.specs.Instances.{IsNumber}
use Rattle.cert_lines.specs.declared.fault.CertCause.{CertCause}
use Rattle.cert_lines.specs.declared.fault.CertCause.TheVariants.{BadNumber}
use Rattle.cert_lines.specs.FieldReading.{is_padded, number_of}
use Rattle.fapp_text.proofs.ReadingSteps.{or_fault_ok, refused_ok}

own : IsNumeralModel (λ ds. list_all is_digit ds ≡ true) (digits_value 10)
own = numerals_by_value (λ ds. list_all is_digit ds ≡ true) (search rules)

numeral_ok : (test : Bool) (r : Result ℕ NumFault) (n : ℕ) → cond test r (Err NotDigits) ≡ Ok n → (test ≡ true) × (r ≡ Ok n)
numeral_ok true r n e = (refl, e)
numeral_ok false r n e = absurd cc

bounded_ok : (test : Bool) (m n : ℕ) → ◌≡◌ {A = Result ℕ NumFault} (cond test (Ok m) (Err TooLarge)) (Ok n) → (test ≡ true) × (m ≡ n)
bounded_ok true m n e = (refl, cc)
bounded_ok false m n e = absurd cc

one_zero : (len first : ℕ) → (ltb 1 len && eqb first 48) ≡ false → 0 < len → first ≡ 48 → len ≡ 1
one_zero len first h some e = grind (arith, nat_tests)

some_of : (len : ℕ) → ltb 0 len ≡ true → 0 < len
some_of len h = grind (arith, nat_tests)

pub number_of_takes : (field : List ℕ) (n : ℕ) → number_of field ≡ Ok n → (field ≡ decimal n) × IsNumber n
number_of_takes field n e =
    let plain = refused_ok (is_padded field) BadNumber (or_fault BadNumber (digits.number_of field)) n e in
    let found = or_fault_ok BadNumber (digits.number_of field) n plain.1 in
    let tested = numeral_ok (is_numeral field) (bounded (value field)) n found in
    let parts = and_parts (ltb 0 (length field)) (list_all is_digit field) tested.0 in
    let limit = bounded_ok (leb (value field) MAX_NUMBER) (value field) n tested.1 in
    let some : 0 < length field = some_of (length field) parts.0 in
    let small : value field ≤ MAX_NUMBER = leb-true (value field) MAX_NUMBER limit.0 in
    let text : decimal (value field) ≡ field = decimal-digits_value own field parts.1 some (one_zero (length field) (get_or field 0 0) plain.0 some) (omega arith) in
    (sym text ∙ ap decimal limit.1, omega (arith, limit.1))

not_padded : (len first : ℕ) → 48 < first → (ltb 1 len && eqb first 48) ≡ false
not_padded len first h = grind (arith, nat_tests)

plain_decimal : (n : ℕ) → n ≤ MAX_NUMBER → is_padded (decimal n) ≡ false
plain_decimal zero h = rw (decimal_digit 0 (omega arith)) refl
plain_decimal (suc n) h = not_padded (length (decimal (suc n))) (get_or (decimal (suc n)) 0 0) (first_decimal (suc n) (omega arith) (omega arith))

numeral_is : (len : ℕ) (digits : Bool) → 0 < len → digits ≡ true → (ltb 0 len && digits) ≡ true
numeral_is len digits some h = grind (arith, nat_tests)

abbrev bounded_by : Bool → ℕ → Result ℕ NumFault
bounded_by test n = cond test (Ok n) (Err TooLarge)

abbrev numeral_by : Bool → Result ℕ NumFault → Result ℕ CertCause
numeral_by test r = or_fault BadNumber (cond test r (Err NotDigits))

pub number_of_again : (n : ℕ) → IsNumber n → number_of (decimal n) ≡ Ok n
number_of_again n h =
    let small : n < 2 ^ 64 = omega arith in
    let all : is_numeral (decimal n) ≡ true = numeral_is (length (decimal n)) (list_all is_digit (decimal n)) (decimal_nonempty n small) (digits_decimal own n small) in
    ap (λ (b : Bool). cond b (Err BadNumber) (or_fault BadNumber (digits.number_of (decimal n)))) (plain_decimal n h)
    ∙ ap (λ (b : Bool). numeral_by b (bounded (value (decimal n)))) all
    ∙ ap (λ (m : ℕ). or_fault BadNumber (bounded m)) (digits_value-decimal own n small)
    ∙ ap (λ (b : Bool). or_fault BadNumber (bounded_by b n)) (le-leb n MAX_NUMBER h)
