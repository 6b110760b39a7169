-- Lines as they are written, field by field.
use Rattle.std.proofs.Common.{◌≡◌, ℕ, suc, ◌+◌, ◌<◌, zero, add-one, List, [], ◌∷◌, ◌++◌, length, map, take, get_or, decimal, codes, refl, sym, ap, ◌∙◌, append_assoc, arith}
use Rattle.std.specs.List.{flat_map, join_with_byte}
use Rattle.std.proofs.lemmas.List.{append-nil}
use Rattle.std.proofs.lemmas.List.Concat.{flat_map-append}
use Rattle.fapp_model.specs.declared.choice.Choice.{Choice}
use Rattle.fapp_model.specs.declared.instance.Path.{Path}
use Rattle.fapp_model.specs.declared.literal.Literal.{Literal}
use Rattle.fapp_model.specs.declared.tag.Tag.{Tag}
use Rattle.fapp_model.specs.declared.triple.Triple.{Triple}
use Rattle.fapp_model.specs.Tags.{triple_from}
use Rattle.cert_lines.specs.declared.answer.Line.{Line}
use Rattle.cert_lines.specs.declared.answer.Verdict.TheVariants.{Open}
use Rattle.cert_lines.specs.Spaced.{spaced}
use Rattle.cert_lines.specs.Spelling.{line_text, choice_fields, plan_lines, triple_numbers, tag_numbers, list_numbers, front_numbers, rule_word, rule_numbers, certificate_fields, verdict_text}

abbrev pub behind_spaces : List (List ℕ) → List ℕ
behind_spaces fields = flat_map (λ (field : List ℕ). 32 ∷ field) fields

pub joined : (word : List ℕ) (fields : List (List ℕ)) → join_with_byte 32 (word ∷ fields) ≡ word ++ behind_spaces fields
joined word [] = sym (append-nil word)
joined word (field ∷ fields) = ap (λ (text : List ℕ). word ++ (32 ∷ text)) (joined field fields)

pub spaced_fields : (numbers : List ℕ) → behind_spaces (map decimal numbers) ≡ spaced numbers
spaced_fields [] = refl
spaced_fields (n ∷ numbers) = ap (λ (text : List ℕ). (32 ∷ decimal n) ++ text) (spaced_fields numbers)

-- a line of numbers behind a word
pub numbers_line : (word : List ℕ) (numbers : List ℕ) → join_with_byte 32 (word ∷ map decimal numbers) ≡ word ++ spaced numbers
numbers_line word numbers = joined word (map decimal numbers) ∙ ap (λ (text : List ℕ). word ++ text) (spaced_fields numbers)

spaced-append : (xs ys : List ℕ) → spaced (xs ++ ys) ≡ spaced xs ++ spaced ys
spaced-append xs ys = flat_map-append (λ (n : ℕ). 32 ∷ decimal n) xs ys

-- numbers that are written in two parts
pub two_parts : (old word a b : List ℕ) → (((old ++ word) ++ spaced a) ++ spaced b) ++ 10 ∷ [] ≡ old ++ line_text (word ∷ map decimal (a ++ b))
two_parts old word a b = rw (numbers_line word (a ++ b), spaced-append a b) (simp append_assoc)

-- what a line begins with, as it is written: nothing, or its tag and its literals
pub front_pushed : (line : Line) (t : Triple) (old s1 s2 : List ℕ) → t ≡ triple_from line.tag.code → s1 ≡ old ++ spaced (triple_numbers t) → s2 ≡ s1 ++ spaced (list_numbers line.lits)
    → s2 ≡ old ++ spaced (tag_numbers line.tag ++ list_numbers line.lits)
front_pushed line t old s1 s2 et e1 e2 =
    rw (e2, e1, et, spaced-append (tag_numbers line.tag) (list_numbers line.lits)) (append_assoc old (spaced (tag_numbers line.tag)) (spaced (list_numbers line.lits)))

behind-append : (xs ys : List (List ℕ)) → behind_spaces (xs ++ ys) ≡ behind_spaces xs ++ behind_spaces ys
behind-append xs ys = flat_map-append (λ (field : List ℕ). 32 ∷ field) xs ys

regroup : (old w a f b s c d e : List ℕ) → (((((((old ++ w) ++ a) ++ f) ++ b) ++ s) ++ c) ++ d) ++ e ≡ old ++ ((w ++ ((a ++ (f ++ b)) ++ (s ++ (c ++ d)))) ++ e)
regroup old w a f b s c d e = simp append_assoc

-- numbers with two words among them
pub two_words : (old word first second a b c d : List ℕ) → (((((((old ++ word) ++ spaced a) ++ 32 ∷ first) ++ spaced b) ++ 32 ∷ second) ++ spaced c) ++ spaced d) ++ 10 ∷ [] ≡ old ++ line_text (word ∷ (map decimal a ++ first ∷ map decimal b) ++ second ∷ map decimal (c ++ d))
two_words old word first second a b c d =
    rw (joined word ((map decimal a ++ first ∷ map decimal b) ++ second ∷ map decimal (c ++ d)), behind-append (map decimal a ++ first ∷ map decimal b) (second ∷ map decimal (c ++ d)), behind-append (map decimal a) (first ∷ map decimal b), spaced_fields a, spaced_fields b, spaced_fields (c ++ d), spaced-append c d) (regroup old word (spaced a) (32 ∷ first) (spaced b) (32 ∷ second) (spaced c) (spaced d) (10 ∷ []))

plan_lines_suc : (paths : List Path) (plan : List Choice) (i : ℕ) (path : Path) (d : Choice) → i < length plan → i < length paths → path ≡ get_or paths i path
    → plan_lines paths (take (suc i) plan) ≡ plan_lines paths (take i plan) ++ choice_fields path (get_or plan i d) ∷ []
plan_lines_suc [] plan i path d lt short e = absurd (omega arith)
plan_lines_suc (p ∷ paths) [] i path d lt short e = absurd (omega arith)
plan_lines_suc (p ∷ paths) (x ∷ plan) zero path d lt short e = ap (λ (q : Path). choice_fields q x ∷ []) (sym e)
plan_lines_suc (p ∷ paths) (x ∷ plan) (suc i) path d lt short e = ap (λ (ls : List (List (List ℕ))). choice_fields p x ∷ ls) (plan_lines_suc paths plan i path d (omega arith) (omega arith) e)

-- one more line of a plan
pub plan_pushed : (paths : List Path) (plan : List Choice) (i : ℕ) (path : Path) (d : Choice) (old s1 s2 : List ℕ) → i < length plan → i < length paths → path ≡ get_or paths i path
    → s1 ≡ old ++ flat_map line_text (plan_lines paths (take i plan)) → s2 ≡ s1 ++ line_text (choice_fields path (get_or plan i d)) → s2 ≡ old ++ flat_map line_text (plan_lines paths (take (i + 1) plan))
plan_pushed paths plan i path d old s1 s2 lt short e e1 e2 =
    let last = append-nil (line_text (choice_fields path (get_or plan i d))) in
    rw (add-one, plan_lines_suc paths plan i path d lt short e, flat_map-append, e2, e1) (rw last (append_assoc old (flat_map line_text (plan_lines paths (take i plan))) (line_text (choice_fields path (get_or plan i d)))))

-- a certificate line, as it is written part by part
pub line_pushed : (line : Line) (word old s1 s2 s3 s4 : List ℕ) → word ≡ rule_word line.rule → s1 ≡ old ++ word → s2 ≡ s1 ++ spaced (front_numbers line line.rule) → s3 ≡ s2 ++ spaced (rule_numbers line.rule) → s4 ≡ s3 ++ 10 ∷ [] → s4 ≡ old ++ line_text (certificate_fields line)
line_pushed line word old s1 s2 s3 s4 ew e1 e2 e3 e4 =
    rw (e4, e3, e2, e1, ew) (two_parts old (rule_word line.rule) (front_numbers line line.rule) (rule_numbers line.rule))

-- a verdict of an early end, as it is written part by part
pub open_pushed : (best : Triple) (lower : Tag) (level : ℕ) (prefix : List Literal) (t : Triple) (old s1 s2 s3 s4 s5 s6 s7 s8 : List ℕ) → t ≡ triple_from lower.code → s1 ≡ old ++ codes "OPEN" → s2 ≡ s1 ++ spaced (triple_numbers best) → s3 ≡ s2 ++ 32 ∷ codes "LOWER" → s4 ≡ s3 ++ spaced (triple_numbers t) → s5 ≡ s4 ++ 32 ∷ codes "AT" → s6 ≡ s5 ++ spaced (level ∷ []) → s7 ≡ s6 ++ spaced (list_numbers prefix) → s8 ≡ s7 ++ 10 ∷ [] → s8 ≡ old ++ verdict_text (Open best lower level prefix)
open_pushed best lower level prefix t old s1 s2 s3 s4 s5 s6 s7 s8 et e1 e2 e3 e4 e5 e6 e7 e8 =
    rw (e8, e7, e6, e5, e4, e3, e2, e1, et) (two_words old (codes "OPEN") (codes "LOWER") (codes "AT") (triple_numbers best) (tag_numbers lower) (level ∷ []) (list_numbers prefix))
