-- A text of lines is cut into these lines, each line into its fields, and it is short.
use Rattle.std.proofs.Common.{◌≡◌, ℕ, zero, suc, ◌-◌, ◌*◌, ◌^◌, ◌<◌, ◌≤◌, Bool, true, false, eqb, ltb, List, [], ◌∷◌, ◌++◌, length, get_or, map, filter, decimal, refl, ap, ◌∙◌, append_assoc, arith, length-append}
use Rattle.std.specs.List.{AllByRecursion, flat_map, join_with_byte, slice_split}
use Rattle.std.proofs.lemmas.Bool.{lt-ltb}
use Rattle.std.proofs.lemmas.Bool.Decides.{nat_tests}
use Rattle.std.proofs.lemmas.Fmt.{decimal_nonempty, length-decimal-le}
use Rattle.std.proofs.lemmas.List.Elements.{All-from_recursion}
use Rattle.std.proofs.lemmas.List.Splits.{slice_split_none, slice_split_at}
use Rattle.fapp_model.specs.Instances.{IsNumber}
use Rattle.fapp_text.specs.Lines.{lines}
use Rattle.fapp_text.specs.Fields.{is_blank}
use Rattle.fapp_text.specs.Fields as cut
use Rattle.record_reader.specs.Fields.{without_return, fields_of}
use Rattle.cert_lines.proofs.Plain.{IsPlain, all_append, decimal_plain}
use Rattle.fapp_gen.specs.Lines.{line_text}

abbrev pub joined : List (List ℕ) → List ℕ
joined fields = join_with_byte 32 fields

-- a field that stands whole in a line: some bytes, not many, and each above those that blanks and ends of lines have
abbrev pub IsField : List ℕ → Type 0
IsField field = (0 < length field) × (length field ≤ 64) × IsPlain field

abbrev pub AreFields : List (List ℕ) → Type 0
AreFields fields = AllByRecursion IsField fields

-- the fields of a line of a network
abbrev pub IsLine : List (List ℕ) → Type 0
IsLine fields = AreFields fields × (length fields ≤ 14)

abbrev AreHigh : List ℕ → Type 0
AreHigh bytes = AllByRecursion (λ b. 32 ≤ b) bytes

field_high : (field : List ℕ) → IsPlain field → AreHigh field
field_high [] h = tt
field_high (b ∷ field) h = (omega (arith, h.0), field_high field h.1)

joined_high : (fields : List (List ℕ)) → AreFields fields → AreHigh (joined fields)
joined_high [] h = tt
joined_high (word ∷ []) h = field_high word h.0.2
joined_high (word ∷ field ∷ fields) h = all_append (λ b. 32 ≤ b) word (32 ∷ joined (field ∷ fields)) (field_high word h.0.2) (omega arith, joined_high (field ∷ fields) h.1)

-- ---- lines

no_feed : (b : ℕ) → 32 ≤ b → eqb b 10 ≡ false
no_feed b h = grind (arith, nat_tests)

first_line : (line rest : List ℕ) → AreHigh line → lines (line ++ 10 ∷ rest) ≡ line ∷ lines rest
first_line [] rest h = refl
first_line (b ∷ line) rest h = rw (no_feed b h.0, first_line line rest h.1) refl

pub lines_again : (ls : List (List (List ℕ))) → AllByRecursion IsLine ls → lines (flat_map line_text ls) ≡ map joined ls
lines_again [] h = refl
lines_again (fields ∷ ls) h =
    ap lines (append_assoc (joined fields) (10 ∷ []) (flat_map line_text ls))
    ∙ first_line (joined fields) (flat_map line_text ls) (joined_high fields h.0.0)
    ∙ ap (λ (t : List (List ℕ)). joined fields ∷ t) (lines_again ls h.1)

-- ---- fields

no_return : (b : ℕ) → 32 ≤ b → eqb b 13 ≡ false
no_return b h = grind (arith, nat_tests)

none_returns : (line : List ℕ) (i : ℕ) → AreHigh line → eqb (get_or line i 0) 13 ≡ false
none_returns [] i h = refl
none_returns (b ∷ line) zero h = no_return b h.0
none_returns (b ∷ line) (suc i) h = none_returns line i h.1

whole_line : (line : List ℕ) → AreHigh line → without_return line ≡ line
whole_line line h = rw (none_returns line (length line - 1) h) refl

no_blank : (b : ℕ) → 45 ≤ b → is_blank b ≡ false
no_blank b h = grind (arith, nat_tests)

none_blank : (field : List ℕ) → IsPlain field → AllByRecursion (λ b. is_blank b ≡ false) field
none_blank [] h = tt
none_blank (b ∷ field) h = (no_blank b h.0, none_blank field h.1)

parts_again : (word : List ℕ) (fields : List (List ℕ)) → AreFields (word ∷ fields) → slice_split is_blank (joined (word ∷ fields)) ≡ word ∷ fields
parts_again word [] h = slice_split_none is_blank word (All-from_recursion (λ b. is_blank b ≡ false) word (none_blank word h.0.2))
parts_again word (field ∷ fields) h =
    slice_split_at is_blank word 32 (joined (field ∷ fields)) (All-from_recursion (λ b. is_blank b ≡ false) word (none_blank word h.0.2)) refl
    ∙ ap (λ (t : List (List ℕ)). word ∷ t) (parts_again field fields h.1)

abbrev is_some_part : List ℕ → Bool
is_some_part part = ltb 0 (length part)

all_kept : (fields : List (List ℕ)) → AreFields fields → filter is_some_part fields ≡ fields
all_kept [] h = refl
all_kept (field ∷ fields) h =
    let some : ltb 0 (length field) ≡ true = lt-ltb 0 (length field) h.0.0 in
    rw some (ap (λ (t : List (List ℕ)). field ∷ t) (all_kept fields h.1))

pub fields_again : (word : List ℕ) (fields : List (List ℕ)) → AreFields (word ∷ fields) → fields_of (joined (word ∷ fields)) ≡ word ∷ fields
fields_again word fields h =
    ap cut.fields (whole_line (joined (word ∷ fields)) (joined_high (word ∷ fields) h))
    ∙ ap (filter is_some_part) (parts_again word fields h)
    ∙ all_kept (word ∷ fields) h

-- numbers are fields
pub decimal_field : (n : ℕ) → IsNumber n → IsField (decimal n)
decimal_field n h =
    let small : n < 2 ^ 64 = omega arith in
    let digits : n < 10 ^ 10 = omega arith in
    (decimal_nonempty n small, omega (arith, length-decimal-le 10 n (omega arith) digits small), decimal_plain n)

pub decimal_fields : (numbers : List ℕ) → AllByRecursion IsNumber numbers → AreFields (map decimal numbers)
decimal_fields [] h = tt
decimal_fields (n ∷ numbers) h = (decimal_field n h.0, decimal_fields numbers h.1)

-- ---- lengths

joined_short : (fields : List (List ℕ)) → AreFields fields → length (joined fields) ≤ 65 * length fields
joined_short [] h = omega arith
joined_short (word ∷ []) h = omega (arith, h.0.1)
joined_short (word ∷ field ∷ fields) h = omega (arith, h.0.1, joined_short (field ∷ fields) h.1, length-append word (32 ∷ joined (field ∷ fields)))

pub text_short : (ls : List (List (List ℕ))) → AllByRecursion IsLine ls → length (flat_map line_text ls) ≤ 911 * length ls
text_short [] h = omega arith
text_short (fields ∷ ls) h =
    omega (arith, joined_short fields h.0.0, h.0.1, length-append (joined fields) (10 ∷ []), length-append (line_text fields) (flat_map line_text ls), text_short ls h.1)
