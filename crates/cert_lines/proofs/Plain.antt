-- Fields of an answer have no byte below 45, so no space and no line feed.
use Rattle.std.proofs.Common.{◌≡◌, ℕ, zero, suc, ◌+◌, ◌/◌, ◌%◌, ◌≤◌, ◌<◌, Bool, true, false, cond, eqb, ltb, List, [], ◌∷◌, ◌++◌, map, decimal, codes, ℤ, pos, negsuc, refl, ap, ◌∙◌, append_assoc, arith}
use Rattle.std.specs.List.{AllByRecursion, join_with_byte}
use Rattle.std.specs.Fmt.{digits, digits_onto, digit_glyph, signed_decimal}
use Rattle.std.proofs.lemmas.List.Elements.{All-from_recursion}
use Rattle.std.proofs.lemmas.List.Splits.{slice_split_none, slice_split_at}
use Rattle.std.proofs.lemmas.Bool.Decides.{nat_tests}
use Rattle.std.specs.List.{flat_map}
use Rattle.fapp_model.specs.declared.choice.Choice.{Choice}
use Rattle.fapp_model.specs.declared.instance.Path.{Path}
use Rattle.cert_lines.specs.declared.answer.Line.{Line}
use Rattle.cert_lines.specs.declared.answer.Rule.{Rule}
use Rattle.cert_lines.specs.declared.answer.Rule.TheVariants.{Count, Branch, Delete}
use Rattle.cert_lines.specs.declared.answer.Verdict.{Verdict}
use Rattle.cert_lines.specs.declared.answer.Verdict.TheVariants.{Best, NoneFeasible, Open}
use Rattle.cert_lines.specs.Spelling.{line_text, triple_numbers, tag_numbers, list_numbers, front_numbers, rule_word, rule_numbers, certificate_fields, verdict_fields, version_lines, choice_fields, plan_lines}
use Rattle.cert_lines.specs.FieldReading.{is_space, fields_of}
use Rattle.fapp_text.specs.Lines.{is_line_feed}
use Rattle.cert_lines.specs.Reading.{parts_of}

abbrev pub IsPlain : List ℕ → Type 0
IsPlain field = AllByRecursion (λ b. 45 ≤ b) field

glyph_high : (test : Bool) (d : ℕ) → 45 ≤ cond test (48 + d) (87 + d)
glyph_high true d = omega arith
glyph_high false d = omega arith

onto_step : (test : Bool) (k n glyph : ℕ) (acc : List ℕ) → 45 ≤ glyph → IsPlain acc → IsPlain (digits_onto k 10 false n (glyph ∷ acc)) → IsPlain (cond test (glyph ∷ acc) (digits_onto k 10 false n (glyph ∷ acc)))
onto_step true k n glyph acc high h later = (high, h)
onto_step false k n glyph acc high h later = later

onto_plain : (k n : ℕ) (acc : List ℕ) → IsPlain acc → IsPlain (digits_onto k 10 false n acc)
onto_plain zero n acc h = h
onto_plain (suc k) n acc h =
    let glyph = digit_glyph false (n % 10) in
    let high : 45 ≤ glyph = glyph_high (ltb (n % 10) 10) (n % 10) in
    onto_step (eqb (n / 10) 0) k (n / 10) glyph acc high h (onto_plain k (n / 10) (glyph ∷ acc) (high, h))

pub decimal_plain : (n : ℕ) → IsPlain (decimal n)
unfolding digits
decimal_plain n = onto_plain 64 n [] tt

pub signed_plain : (z : ℤ) → IsPlain (signed_decimal z)
signed_plain (pos n) = decimal_plain n
signed_plain (negsuc n) = (omega arith, decimal_plain (suc n))

-- the fields of a line
abbrev pub ArePlain : List (List ℕ) → Type 0
ArePlain fields = AllByRecursion IsPlain fields

pub all_append : {A : Type 0} (P : A → Type 0) (xs ys : List A) → AllByRecursion P xs → AllByRecursion P ys → AllByRecursion P (xs ++ ys)
all_append P [] ys h g = g
all_append P (x ∷ xs) ys h g = (h.0, all_append P xs ys h.1 g)

numbers_plain : (numbers : List ℕ) → ArePlain (map decimal numbers)
numbers_plain [] = tt
numbers_plain (n ∷ numbers) = (decimal_plain n, numbers_plain numbers)

rule_plain : (rule : Rule) → IsPlain (rule_word rule)
rule_plain (Count cites) = (omega arith, tt)
rule_plain (Branch path children) = (omega arith, tt)
rule_plain (Delete cites) = (omega arith, tt)

pub certificate_plain : (line : Line) → ArePlain (certificate_fields line)
certificate_plain line = (rule_plain line.rule, numbers_plain (front_numbers line line.rule ++ rule_numbers line.rule))

pub verdict_plain : (verdict : Verdict) → ArePlain (verdict_fields verdict)
verdict_plain (Best t) = ((omega arith, (omega arith, (omega arith, (omega arith, tt)))), numbers_plain (triple_numbers t))
verdict_plain NoneFeasible = ((omega arith, (omega arith, (omega arith, (omega arith, tt)))), tt)
verdict_plain (Open best lower level prefix) =
    let last : ArePlain (codes "AT" ∷ map decimal (level ∷ list_numbers prefix)) = ((omega arith, (omega arith, tt)), numbers_plain (level ∷ list_numbers prefix)) in
    let bound : ArePlain (codes "LOWER" ∷ map decimal (tag_numbers lower)) = ((omega arith, (omega arith, (omega arith, (omega arith, (omega arith, tt))))), numbers_plain (tag_numbers lower)) in
    let first : ArePlain (codes "OPEN" ∷ map decimal (triple_numbers best)) = ((omega arith, (omega arith, (omega arith, (omega arith, tt)))), numbers_plain (triple_numbers best)) in
    all_append IsPlain ((codes "OPEN" ∷ map decimal (triple_numbers best)) ++ (codes "LOWER" ∷ map decimal (tag_numbers lower))) (codes "AT" ∷ map decimal (level ∷ list_numbers prefix)) (all_append IsPlain (codes "OPEN" ∷ map decimal (triple_numbers best)) (codes "LOWER" ∷ map decimal (tag_numbers lower)) first bound) last

pub version_plain : (version : ℕ) → AllByRecursion ArePlain (version_lines version)
version_plain version = by_test (eqb version 2)
  where
    by_test : (test : Bool) → AllByRecursion ArePlain (cond test ((codes "V" ∷ codes "2" ∷ []) ∷ []) [])
    by_test true = (((omega arith, tt), ((omega arith, tt), tt)), tt)
    by_test false = tt

choice_plain : (path : Path) (choice : Choice) → ArePlain (choice_fields path choice)
choice_plain path choice = ((omega arith, (omega arith, tt)), (decimal_plain path.number, (decimal_plain choice.freq, (signed_plain choice.pol, tt))))

pub plan_plain : (paths : List Path) (plan : List Choice) → AllByRecursion ArePlain (plan_lines paths plan)
plan_plain paths [] = tt
plan_plain [] (choice ∷ plan) = tt
plan_plain (path ∷ paths) (choice ∷ plan) = (choice_plain path choice, plan_plain paths plan)

pub end_plain : ArePlain (codes "END" ∷ [])
end_plain = ((omega arith, (omega arith, (omega arith, tt))), tt)

pub head_plain : ArePlain (codes "--" ∷ [])
head_plain = ((omega arith, (omega arith, tt)), tt)

-- ---- plain fields and lines, cut again

low_test : (b c : ℕ) → c < 45 → 45 ≤ b → eqb b c ≡ false
low_test b c low high = grind (arith, nat_tests)

no_byte : (c : ℕ) → c < 45 → (field : List ℕ) → IsPlain field → AllByRecursion (λ b. eqb b c ≡ false) field
no_byte c low [] h = tt
no_byte c low (b ∷ field) h = (low_test b c low h.0, no_byte c low field h.1)

pub fields_again : (word : List ℕ) (fields : List (List ℕ)) → ArePlain (word ∷ fields) → fields_of (join_with_byte 32 (word ∷ fields)) ≡ word ∷ fields
fields_again word [] h = slice_split_none is_space word (All-from_recursion (λ b. is_space b ≡ false) word (no_byte 32 (omega arith) word h.0))
fields_again word (field ∷ fields) h =
    slice_split_at is_space word 32 (join_with_byte 32 (field ∷ fields)) (All-from_recursion (λ b. is_space b ≡ false) word (no_byte 32 (omega arith) word h.0)) refl
    ∙ ap (λ (t : List (List ℕ)). word ∷ t) (fields_again field fields h.1)

no_feed : (fields : List (List ℕ)) → ArePlain fields → AllByRecursion (λ b. is_line_feed b ≡ false) (join_with_byte 32 fields)
no_feed [] h = tt
no_feed (word ∷ []) h = no_byte 10 (omega arith) word h.0
no_feed (word ∷ field ∷ fields) h = all_append (λ b. is_line_feed b ≡ false) word (32 ∷ join_with_byte 32 (field ∷ fields)) (no_byte 10 (omega arith) word h.0) (refl, no_feed (field ∷ fields) h.1)

-- the lines of a text, and what follows them
pub parts_again : (lines : List (List (List ℕ))) (more : List ℕ) → AllByRecursion ArePlain lines → parts_of (flat_map line_text lines ++ more) ≡ map (join_with_byte 32) lines ++ parts_of more
parts_again [] more h = refl
parts_again (line ∷ lines) more h =
    let joined = join_with_byte 32 line in
    let behind : List ℕ = flat_map line_text lines ++ more in
    let cut : flat_map line_text (line ∷ lines) ++ more ≡ joined ++ 10 ∷ behind = append_assoc (joined ++ 10 ∷ []) (flat_map line_text lines) more ∙ append_assoc joined (10 ∷ []) behind in
    ap parts_of cut
    ∙ slice_split_at is_line_feed joined 10 behind (All-from_recursion (λ b. is_line_feed b ≡ false) joined (no_feed line h.0)) refl
    ∙ ap (λ (t : List (List ℕ)). joined ∷ t) (parts_again lines more h.1)
