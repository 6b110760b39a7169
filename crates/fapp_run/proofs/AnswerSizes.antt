-- How many lines a text of an answer has, and where its first fault can stand.
use Rattle.std.proofs.Common.{◌≡◌, ℕ, ◌+◌, ◌*◌, ◌≤◌, Bool, true, false, cond, List, [], ◌∷◌, ◌++◌, length, map, codes, Option, Some, None, Result, Ok, Err, sym, ap, length-append, arith}
use Rattle.std.specs.Prelude.{decimal}
use Rattle.std.specs.List.{join_with_byte, onto_first}
use Rattle.fapp_model.specs.declared.instance.Instance.{Instance}
use Rattle.fapp_text.specs.Lines.{is_line_feed}
use Rattle.fapp_text.specs.Reading.{◌>>=◌, at_line}
use Rattle.cert_lines.specs.declared.answer.Answer.{Answer}
use Rattle.cert_lines.specs.declared.answer.Line.{Line}
use Rattle.cert_lines.specs.declared.answer.Rule.{Rule}
use Rattle.cert_lines.specs.declared.answer.Rule.TheVariants.{Count, Branch, Delete}
use Rattle.cert_lines.specs.declared.fault.CertCause.{CertCause}
use Rattle.cert_lines.specs.CertificateReading.{certificate_line}
use Rattle.cert_lines.specs.PlanReading.{plan_line}
use Rattle.cert_lines.specs.VerdictReading.{verdict_line}
use Rattle.cert_lines.specs.VersionReading.{version_line}
use Rattle.cert_lines.specs.Reading.{TextFault, Rest, parts_of, next_line, line_by, and_then, until, version_or, version_at, finished, reading, fault_in, first_fault}
use Rattle.cert_lines.specs.Spelling.{certificate_fields, line_text, lines_text, head_text, answer_text, rule_word, front_numbers, rule_numbers}

word_long : (rule : Rule) → 1 ≤ length (rule_word rule)
word_long (Count cites) = omega arith
word_long (Branch path children) = omega arith
word_long (Delete cites) = omega arith

joined_long : (word : List ℕ) (fields : List (List ℕ)) → length word ≤ length (join_with_byte 32 (word ∷ fields))
joined_long word [] = omega arith
joined_long word (field ∷ fields) = omega (arith, length-append word (32 ∷ join_with_byte 32 (field ∷ fields)))

line_long : (word : List ℕ) (fields : List (List ℕ)) → 1 ≤ length word → 2 ≤ length (line_text (word ∷ fields))
line_long word fields h = omega (arith, joined_long word fields, length-append (join_with_byte 32 (word ∷ fields)) (10 ∷ []))

lines_long : (lines : List Line) → 2 * length lines ≤ length (lines_text lines)
lines_long [] = omega arith
lines_long (line ∷ lines) =
    let one : 2 ≤ length (line_text (certificate_fields line)) = line_long (rule_word line.rule) (map decimal (front_numbers line line.rule ++ rule_numbers line.rule)) (word_long line.rule) in
    omega (arith, lines_long lines, one, length-append (line_text (certificate_fields line)) (lines_text lines))

-- an answer has no more lines than half the bytes of its text
pub few_lines : (instance : Instance) (answer : Answer) (bytes : List ℕ) → bytes ≡ answer_text instance answer → 2 * length answer.lines ≤ length bytes
few_lines instance answer bytes e =
    let tail : List ℕ = line_text (codes "END" ∷ []) in
    let outer = length-append (head_text instance answer ++ lines_text answer.lines) tail in
    let inner = length-append (head_text instance answer) (lines_text answer.lines) in
    omega (arith, lines_long answer.lines, ap length e, outer, inner)

-- a fault stands, and reading goes on, at most at this line
Bounded : {A : Type 0} → ℕ → Result (A × Rest) TextFault → Type 0
Bounded most (Ok x) = x.1.0 + length x.1.1 ≤ most
Bounded most (Err found) = found.line ≤ most

next_bounded : (number : ℕ) (parts : List (List ℕ)) → Bounded (number + length parts) (next_line (number, parts))
unfolding next_line Bounded
next_bounded number [] = omega arith
next_bounded number (last ∷ []) = omega arith
next_bounded number (line ∷ next ∷ parts) = omega arith

read_bounded : {A : Type 0} (number most : ℕ) (rest : Rest) (r : Result A CertCause) → number ≤ most → rest.0 + length rest.1 ≤ most → Bounded most (at_line number r >>= λ found. Ok (found, rest))
unfolding Bounded
read_bounded number most rest (Ok x) low high = high
read_bounded number most rest (Err cause) low high = low

by_bounded : {A : Type 0} (read : List (List ℕ) → Result A CertCause) (number most : ℕ) (r : Result (List (List ℕ) × Rest) TextFault) → number ≤ most → Bounded most r
    → Bounded most (r >>= λ line. at_line number (read line.0) >>= λ found. Ok (found, line.1))
unfolding Bounded
by_bounded read number most (Ok line) low high = read_bounded number most line.1 (read line.0) low high
by_bounded read number most (Err found) low high = high

line_bounded : {A : Type 0} (read : List (List ℕ) → Result A CertCause) (number : ℕ) (parts : List (List ℕ)) → Bounded (number + length parts) (line_by read (number, parts))
unfolding line_by
line_bounded read number parts = by_bounded read number (number + length parts) (next_line (number, parts)) (omega arith) (next_bounded number parts)

then_bounded : {A : Type 0} (most : ℕ) (x : Option A) (more : Result (List A × Rest) TextFault) (rest : Rest) → rest.0 + length rest.1 ≤ most → Bounded most more → Bounded most (and_then x more rest)
unfolding Bounded
then_bounded most None more rest high low = high
then_bounded most (Some x) (Ok others) rest high low = low
then_bounded most (Some x) (Err found) rest high low = low

step_bounded : {A : Type 0} (most : ℕ) (r : Result (Option A × Rest) TextFault) (more : Result (List A × Rest) TextFault) → Bounded most r → Bounded most more → Bounded most (r >>= λ x. and_then x.0 more x.1)
unfolding Bounded
step_bounded most (Ok x) more h low = then_bounded most x.0 more x.1 h low
step_bounded most (Err found) more h low = h

wider : {A : Type 0} (m n : ℕ) (r : Result (A × Rest) TextFault) → m ≤ n → Bounded m r → Bounded n r
unfolding Bounded
wider m n (Ok x) h low = omega arith
wider m n (Err found) h low = omega arith

weaker : {A : Type 0} (m n : ℕ) (r : Result (A × Rest) TextFault) → m ≡ n → Bounded m r → Bounded n r
weaker m n r e h = rw (sym e) h

until_bounded : {A : Type 0} (read : ℕ → List (List ℕ) → Result (Option A) CertCause) (place number : ℕ) (parts : List (List ℕ)) → Bounded (number + length parts) (until read place number parts)
unfolding Bounded
until_bounded read place number [] = omega arith
until_bounded read place number (line ∷ parts) =
    let most = number + length (line ∷ parts) in
    step_bounded most (line_by (read place) (number, line ∷ parts)) (until read (place + 1) (number + 1) parts) (line_bounded (read place) number (line ∷ parts))
    (weaker (number + 1 + length parts) most (until read (place + 1) (number + 1) parts) (omega arith) (until_bounded read (place + 1) (number + 1) parts))

onto_few : (b : ℕ) (parts : List (List ℕ)) → length (onto_first b parts) ≤ length parts + 1
onto_few b [] = omega arith
onto_few b (part ∷ parts) = omega arith

cut_few : (test : Bool) (b : ℕ) (parts : List (List ℕ)) → length (cond test ([] ∷ parts) (onto_first b parts)) ≤ length parts + 1
cut_few true b parts = omega arith
cut_few false b parts = onto_few b parts

parts_few : (bytes : List ℕ) → length (parts_of bytes) ≤ length bytes + 1
parts_few [] = omega arith
parts_few (b ∷ bytes) = omega (arith, cut_few (is_line_feed b) b (parts_of bytes), parts_few bytes)

-- a fault stands at most at this line
IsLow : {A : Type 0} → ℕ → Result A TextFault → Type 0
IsLow most (Ok x) = Unit {0}
IsLow most (Err found) = found.line ≤ most

low_after : {A B : Type 0} (most : ℕ) (r : Result (A × Rest) TextFault) (then : A × Rest → Result B TextFault) → Bounded most r
    → ((x : A × Rest) → x.1.0 + length x.1.1 ≤ most → IsLow most (then x)) → IsLow most (r >>= then)
unfolding Bounded IsLow
low_after most (Ok x) then h low = low x h
low_after most (Err found) then h low = h

end_low : {A : Type 0} (most number : ℕ) (parts : List (List ℕ)) (answer : A) → number ≤ most → IsLow most (finished (number, parts) >>= λ end. Ok answer)
unfolding IsLow
end_low most number [] answer h = h
end_low most number ([] ∷ []) answer h = tt
end_low most number ([] ∷ next ∷ parts) answer h = h
end_low most number ((b ∷ bytes) ∷ parts) answer h = h

or_bounded : (most : ℕ) (rest : Rest) (r : Result (Option ℕ × Rest) TextFault) → rest.0 + length rest.1 ≤ most → Bounded most r → Bounded most (r >>= λ found. Ok (version_or rest found))
unfolding Bounded
or_bounded most rest (Ok (Some version, after)) high low = low
or_bounded most rest (Ok (None, after)) high low = high
or_bounded most rest (Err found) high low = low

version_bounded : (number : ℕ) (parts : List (List ℕ)) → Bounded (number + length parts) (version_at (number, parts))
unfolding version_at
version_bounded number parts = or_bounded (number + length parts) (number, parts) (line_by version_line (number, parts)) (omega arith) (line_bounded version_line number parts)

reading_low : (instance : Instance) (bytes : List ℕ) → IsLow (1 + length (parts_of bytes)) (reading instance bytes)
unfolding reading
reading_low instance bytes =
    let most = 1 + length (parts_of bytes) in
    low_after most (until (plan_line instance) 0 1 (parts_of bytes)) _ (until_bounded (plan_line instance) 0 1 (parts_of bytes)) (λ plan h.
    low_after most (line_by (verdict_line instance) plan.1) _ (wider (plan.1.0 + length plan.1.1) most (line_by (verdict_line instance) plan.1) h (line_bounded (verdict_line instance) plan.1.0 plan.1.1)) (λ verdict g.
    low_after most (version_at verdict.1) _ (wider (verdict.1.0 + length verdict.1.1) most (version_at verdict.1) g (version_bounded verdict.1.0 verdict.1.1)) (λ version v.
    low_after most (until (λ place. certificate_line version.0 instance) 0 version.1.0 version.1.1) _ (wider (version.1.0 + length version.1.1) most (until (λ place. certificate_line version.0 instance) 0 version.1.0 version.1.1) v (until_bounded (λ place. certificate_line version.0 instance) 0 version.1.0 version.1.1)) (λ lines f.
    end_low most lines.1.0 lines.1.1 _ (omega (arith, f))))))

low_fault : (most : ℕ) (r : Result Answer TextFault) (found : TextFault) → IsLow most r → fault_in r ≡ Some found → found.line ≤ most
unfolding IsLow
low_fault most (Ok answer) found low e = absurd cc
low_fault most (Err other) found low e = let same : other ≡ found = cc in rw (sym same) low

-- the first fault of a text stands at most two lines further than it has bytes
pub fault_low : (instance : Instance) (bytes : List ℕ) (found : TextFault) → first_fault instance bytes ≡ Some found → found.line ≤ length bytes + 2
fault_low instance bytes found e =
    let low : found.line ≤ 1 + length (parts_of bytes) = low_fault (1 + length (parts_of bytes)) (reading instance bytes) found (reading_low instance bytes) e in
    omega (arith, low, parts_few bytes)
