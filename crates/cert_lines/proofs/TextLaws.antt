-- A text that was read is that of its answer.
use Rattle.std.proofs.Common.{◌≡◌, ℕ, ◌+◌, ◌≤◌, List, [], ◌∷◌, ◌++◌, length, map, drop, codes, Option, Some, None, Result, Ok, refl, sym, ap, subst, ◌∙◌, append_assoc, inl, inr, arith}
use Rattle.std.specs.List.{flat_map, join_with_byte, AllByRecursion}
use Rattle.std.proofs.lemmas.List.{append-nil}
use Rattle.std.proofs.lemmas.List.Elements.{All-from_recursion}
use Rattle.std.proofs.lemmas.List.Concat.{flat_map-append}
use Rattle.std.proofs.lemmas.List.Splits.{join_with_byte-slice_split}
use Rattle.fapp_model.specs.declared.choice.Choice.{Choice}
use Rattle.fapp_model.specs.declared.instance.Instance.{Instance}
use Rattle.fapp_model.specs.declared.instance.Path.{Path}
use Rattle.fapp_model.specs.Instances.{IsInstance}
use Rattle.cert_lines.specs.declared.answer.Answer.{Answer}
use Rattle.cert_lines.specs.declared.answer.Line.{Line}
use Rattle.cert_lines.specs.declared.fault.CertCause.{CertCause}
use Rattle.fapp_text.specs.Reading.{◌>>=◌, at_line}
use Rattle.cert_lines.specs.Spelling.{line_text, choice_fields, certificate_fields, verdict_fields, version_lines, plan_lines, head_text, lines_text, answer_text}
use Rattle.cert_lines.specs.WellFormed.{IsShownChoice, IsLineIn, IsVersion, IsWellFormed}
use Rattle.cert_lines.specs.FieldReading.{fields_of}
use Rattle.cert_lines.specs.PlanReading.{plan_line}
use Rattle.cert_lines.specs.VerdictReading.{verdict_line}
use Rattle.cert_lines.specs.VersionReading.{version_line}
use Rattle.cert_lines.specs.CertificateReading.{certificate_line}
use Rattle.cert_lines.specs.Reading.{TextFault, Rest, parts_of, next_line, line_by, and_then, until, version_or, version_at, finished, reading}
use Rattle.fapp_text.proofs.ReadingSteps.{bind_ok, at_line_ok, ok_is}
use Rattle.cert_lines.proofs.PlanLaws.{plan_takes}
use Rattle.cert_lines.proofs.VerdictLaws.{verdict_takes}
use Rattle.cert_lines.proofs.VersionLaws.{version_takes}
use Rattle.cert_lines.proofs.LineLaws.{certificate_takes}

abbrev pub joined : List (List ℕ) → List ℕ
joined fields = join_with_byte 32 fields

-- a line is its fields
line_is : (line : List ℕ) (fields : List (List ℕ)) → fields_of line ≡ fields → line ≡ joined fields
line_is line fields e = sym (join_with_byte-slice_split 32 line) ∙ ap joined e

-- the line that was taken from a rest
abbrev IsTaken : Rest → List (List ℕ) × Rest → Type 0
IsTaken rest x = (line : List ℕ) × (rest.1 ≡ line ∷ x.1.1) × (fields_of line ≡ x.0)

next_takes : (rest : Rest) (x : List (List ℕ) × Rest) → next_line rest ≡ Ok x → IsTaken rest x
unfolding next_line
next_takes (number, []) x e = absurd cc
next_takes (number, last ∷ []) x e = absurd cc
next_takes (number, line ∷ next ∷ parts) x e =
    let made : List (List ℕ) × Rest = (fields_of line, (number + 1, next ∷ parts)) in
    subst (IsTaken (number, line ∷ next ∷ parts)) (ok_is {E = TextFault} made x e) (line, refl, refl)

abbrev IsReadBy : {A : Type 0} → (List (List ℕ) → Result A CertCause) → Rest → A × Rest → Type 0
IsReadBy read rest x = (line : List ℕ) × (rest.1 ≡ line ∷ x.1.1) × (read (fields_of line) ≡ Ok x.0)

line_takes : {A : Type 0} (read : List (List ℕ) → Result A CertCause) (rest : Rest) (x : A × Rest) → line_by read rest ≡ Ok x → IsReadBy read rest x
unfolding line_by
line_takes {A} read rest x e =
    let a = bind_ok (next_line rest) (λ line. at_line rest.0 (read line.0) >>= λ found. Ok (found, line.1)) x e in
    let b = bind_ok (at_line rest.0 (read a.0.0)) (λ found. Ok (found, a.0.1)) x a.2 in
    let t = next_takes rest a.0 a.1 in
    let made : A × Rest = (b.0, a.0.1) in
    subst (IsReadBy read rest) (ok_is {E = TextFault} made x b.2) (t.0, t.1, ap read t.2 ∙ at_line_ok rest.0 (read a.0.0) b.0 b.1)

-- what lines say, whatever reads them: Q relates a place and items to the fields of the lines
pub record IsSaid {A : Type 0} (read : ℕ → List (List ℕ) → Result (Option A) CertCause) (Q : ℕ → List A → List (List (List ℕ)) → Type 0) : Type 0 where
  pub end : (place : ℕ) (fields : List (List ℕ)) → read place fields ≡ Ok None → Q place [] (fields ∷ [])
  pub more : (place : ℕ) (fields : List (List ℕ)) (x : A) (items : List A) (lines : List (List (List ℕ))) → read place fields ≡ Ok (Some x) → Q (place + 1) items lines → Q place (x ∷ items) (fields ∷ lines)

abbrev AreSaid : {A : Type 0} → (ℕ → List A → List (List (List ℕ)) → Type 0) → ℕ → List (List ℕ) → List A × Rest → Type 0
AreSaid Q place parts x = (lines : List (List (List ℕ))) × Q place x.0 lines × (parts ≡ map joined lines ++ x.1.1)

-- one line, and those after it
line_said : {A : Type 0} (read : ℕ → List (List ℕ) → Result (Option A) CertCause) (Q : ℕ → List A → List (List (List ℕ)) → Type 0) → IsSaid read Q
    → (place number : ℕ) (parts : List (List ℕ)) (line : List ℕ) (after : Rest) (found : Option A) (x : List A × Rest)
    → after.1 ≡ parts → read place (fields_of line) ≡ Ok found → ((y : List A × Rest) → until read (place + 1) (number + 1) parts ≡ Ok y → AreSaid Q (place + 1) parts y)
    → and_then found (until read (place + 1) (number + 1) parts) after ≡ Ok x → AreSaid Q place (line ∷ parts) x
line_said {A} read Q law place number parts line after None x same h later e =
    let made : List A × Rest = ([], after) in
    let text : line ∷ parts ≡ joined (fields_of line) ∷ after.1 = ap (λ (l : List ℕ). l ∷ parts) (line_is line (fields_of line) refl) ∙ ap (λ (p : List (List ℕ)). joined (fields_of line) ∷ p) (sym same) in
    subst (AreSaid Q place (line ∷ parts)) (ok_is {E = TextFault} made x e) (fields_of line ∷ [], law.end place (fields_of line) h, text)
line_said {A} read Q law place number parts line after (Some found) x same h later e =
    let b = bind_ok (until read (place + 1) (number + 1) parts) (λ others. Ok (found ∷ others.0, others.1)) x e in
    let rest = later b.0 b.1 in
    let made : List A × Rest = (found ∷ b.0.0, b.0.1) in
    let text : line ∷ parts ≡ joined (fields_of line) ∷ (map joined rest.0 ++ b.0.1.1) = ap (λ (l : List ℕ). l ∷ parts) (line_is line (fields_of line) refl) ∙ ap (λ (p : List (List ℕ)). joined (fields_of line) ∷ p) rest.2 in
    subst (AreSaid Q place (line ∷ parts)) (ok_is {E = TextFault} made x b.2) (fields_of line ∷ rest.0, law.more place (fields_of line) found b.0.0 rest.0 h rest.1, text)

tail_of : List (List ℕ) → List (List ℕ)
tail_of [] = []
tail_of (x ∷ xs) = xs

head_of : List (List ℕ) → List ℕ
head_of [] = []
head_of (x ∷ xs) = x

pub until_takes : {A : Type 0} (read : ℕ → List (List ℕ) → Result (Option A) CertCause) (Q : ℕ → List A → List (List (List ℕ)) → Type 0) → IsSaid read Q
    → (place number : ℕ) (parts : List (List ℕ)) (x : List A × Rest) → until read place number parts ≡ Ok x → AreSaid Q place parts x
unfolding tail_of head_of
until_takes read Q law place number [] x e = absurd cc
until_takes read Q law place number (line ∷ parts) x e =
    let a = bind_ok (line_by (read place) (number, line ∷ parts)) (λ y. and_then y.0 (until read (place + 1) (number + 1) parts) y.1) x e in
    let t = line_takes (read place) (number, line ∷ parts) a.0 a.1 in
    let same_line : line ≡ t.0 = ap head_of t.1 in
    let same_rest : parts ≡ a.0.1.1 = ap tail_of t.1 in
    line_said read Q law place number parts line a.0.1 a.0.0 x (sym same_rest) (ap (λ (l : List ℕ). read place (fields_of l)) same_line ∙ t.2) (λ y. until_takes read Q law (place + 1) (number + 1) parts y) a.2

-- ---- plans, certificates, and the whole text

abbrev SaysPlan : Instance → ℕ → List Choice → List (List (List ℕ)) → Type 0
SaysPlan instance place items lines = (lines ≡ plan_lines (drop place instance.paths) items ++ (codes "--" ∷ []) ∷ []) × (length items ≤ length (drop place instance.paths)) × AllByRecursion IsShownChoice items

plan_end : (instance : Instance) (place : ℕ) (fields : List (List ℕ)) → plan_line instance place fields ≡ Ok None → SaysPlan instance place [] (fields ∷ [])
plan_end instance place fields e = (ap (λ (f : List (List ℕ)). f ∷ []) (plan_takes instance place fields None e), omega arith, tt)

-- the same by the paths that have no line yet
abbrev SaysOf : List Path → List Choice → List (List (List ℕ)) → Type 0
SaysOf paths items lines = (lines ≡ plan_lines paths items ++ (codes "--" ∷ []) ∷ []) × (length items ≤ length paths) × AllByRecursion IsShownChoice items

plan_more : (instance : Instance) (place : ℕ) (fields : List (List ℕ)) (x : Choice) (items : List Choice) (lines : List (List (List ℕ))) → plan_line instance place fields ≡ Ok (Some x) → SaysPlan instance (place + 1) items lines → SaysPlan instance place (x ∷ items) (fields ∷ lines)
plan_more instance place fields x items lines e said =
    let h = plan_takes instance place fields (Some x) e in
    let others = drop (place + 1) instance.paths in
    let text : fields ∷ lines ≡ plan_lines (h.0 ∷ others) (x ∷ items) ++ (codes "--" ∷ []) ∷ [] = ap (λ (f : List (List ℕ)). f ∷ lines) h.2 ∙ ap (λ (ls : List (List (List ℕ))). choice_fields h.0 x ∷ ls) said.0 in
    subst (λ (ps : List Path). SaysOf ps (x ∷ items) (fields ∷ lines)) (sym h.1) (text, omega (arith, said.1), (h.3, said.2))

plan_said : (instance : Instance) → IsSaid (plan_line instance) (SaysPlan instance)
plan_said instance = record { end = plan_end instance; more = plan_more instance }

abbrev SaysLines : ℕ → Instance → ℕ → List Line → List (List (List ℕ)) → Type 0
SaysLines version instance place items lines = (lines ≡ map certificate_fields items ++ (codes "END" ∷ []) ∷ []) × AllByRecursion (IsLineIn version instance) items

lines_said : (version : ℕ) (instance : Instance) → IsInstance instance → IsSaid (λ place. certificate_line version instance) (SaysLines version instance)
lines_said version instance valid = record {
  end = λ place fields e. (ap (λ (f : List (List ℕ)). f ∷ []) (certificate_takes version instance valid fields None e), tt);
  more = λ place fields x items lines e said.
      let h = certificate_takes version instance valid fields (Some x) e in
      (ap (λ (f : List (List ℕ)). f ∷ lines) h.0 ∙ ap (λ (ls : List (List (List ℕ))). certificate_fields x ∷ ls) said.0, (h.1, said.1));
}

-- the version that was read, and the lines that say it
abbrev IsVersioned : Rest → ℕ × Rest → Type 0
IsVersioned rest x = IsVersion x.0 × (rest.1 ≡ map joined (version_lines x.0) ++ x.1.1)

version_said : (rest : Rest) (x : ℕ × Rest) → version_at rest ≡ Ok x → IsVersioned rest x
unfolding version_at
version_said rest x e =
    let a = bind_ok (line_by version_line rest) (λ found. Ok (version_or rest found)) x e in
    subst (IsVersioned rest) (ok_is {E = TextFault} (version_or rest a.0) x a.2) (by_line a.0.0 a.0.1 (line_takes version_line rest a.0 a.1))
  where
    by_line : (found : Option ℕ) (after : Rest) → IsReadBy version_line rest (found, after) → IsVersioned rest (version_or rest (found, after))
    by_line None after line = (inl refl, refl)
    by_line (Some version) after line =
        let said = version_takes (fields_of line.0) (Some version) line.2 in
        (inr said.1, rw said.1 (line.1 ∙ ap (λ (l : List ℕ). l ∷ after.1) (line_is line.0 (codes "V" ∷ codes "2" ∷ []) said.0)))

finished_ok : (rest : Rest) (x : Unit {0}) → finished rest ≡ Ok x → rest.1 ≡ [] ∷ []
finished_ok (number, []) x e = absurd cc
finished_ok (number, [] ∷ []) x e = refl
finished_ok (number, [] ∷ next ∷ parts) x e = absurd cc
finished_ok (number, (b ∷ bytes) ∷ parts) x e = absurd cc

join_behind : (line : List ℕ) (xs : List (List ℕ)) (y : List ℕ) → join_with_byte 10 (line ∷ (xs ++ y ∷ [])) ≡ line ++ 10 ∷ join_with_byte 10 (xs ++ y ∷ [])
join_behind line [] y = refl
join_behind line (x ∷ xs) y = refl

pub joined_text : (lines : List (List (List ℕ))) → join_with_byte 10 (map joined lines ++ [] ∷ []) ≡ flat_map line_text lines
joined_text [] = refl
joined_text (line ∷ lines) =
    join_behind (joined line) (map joined lines) []
    ∙ ap (λ (t : List ℕ). joined line ++ 10 ∷ t) (joined_text lines)
    ∙ sym (append_assoc (joined line) (10 ∷ []) (flat_map line_text lines))

pub map_both : (xs ys : List (List (List ℕ))) (rest : List (List ℕ)) → map joined (xs ++ ys) ++ rest ≡ map joined xs ++ (map joined ys ++ rest)
map_both [] ys rest = refl
map_both (x ∷ xs) ys rest = ap (λ (t : List (List ℕ)). joined x ∷ t) (map_both xs ys rest)

whole : {F : Type 0} (t : F → List ℕ) (p w l : List F) (d v e : F) → flat_map t ((p ++ d ∷ []) ++ (v ∷ (w ++ (l ++ e ∷ [])))) ≡ ((((flat_map t p ++ t d) ++ t v) ++ flat_map t w) ++ flat_map t l) ++ t e
whole t p w l d v e =
    flat_map-append t (p ++ d ∷ []) (v ∷ (w ++ (l ++ e ∷ [])))
    ∙ ap (λ x. x ++ (t v ++ flat_map t (w ++ (l ++ e ∷ [])))) (flat_map-append t p (d ∷ []))
    ∙ ap (λ x. (flat_map t p ++ (t d ++ [])) ++ (t v ++ x)) (flat_map-append t w (l ++ e ∷ []))
    ∙ ap (λ x. (flat_map t p ++ (t d ++ [])) ++ (t v ++ (flat_map t w ++ x))) (flat_map-append t l (e ∷ []))
    ∙ simp (append_assoc, append-nil)

lines_flat : (lines : List Line) → flat_map line_text (map certificate_fields lines) ≡ lines_text lines
lines_flat [] = refl
lines_flat (line ∷ lines) = ap (λ (t : List ℕ). line_text (certificate_fields line) ++ t) (lines_flat lines)

-- the fields of an answer's lines
unfoldable pub lines_of : List Path → Answer → List (List (List ℕ))
lines_of paths answer = (plan_lines paths answer.plan ++ (codes "--" ∷ []) ∷ []) ++ (verdict_fields answer.verdict ∷ (version_lines answer.version ++ (map certificate_fields answer.lines ++ (codes "END" ∷ []) ∷ [])))

pub text_is : (instance : Instance) (answer : Answer) → flat_map line_text (lines_of instance.paths answer) ≡ answer_text instance answer
unfolding lines_of
text_is instance answer =
    let head = head_text instance answer in
    let e = line_text (codes "END" ∷ []) in
    whole line_text (plan_lines instance.paths answer.plan) (version_lines answer.version) (map certificate_fields answer.lines) (codes "--" ∷ []) (verdict_fields answer.verdict) (codes "END" ∷ [])
    ∙ ap (λ (t : List ℕ). (head ++ t) ++ e) (lines_flat answer.lines)

-- what was read is well formed, and the bytes are its text
pub reading_takes : (instance : Instance) → IsInstance instance → (bytes : List ℕ) (answer : Answer) → reading instance bytes ≡ Ok answer → IsWellFormed instance answer × (bytes ≡ answer_text instance answer)
unfolding reading lines_of
reading_takes instance valid bytes answer e =
    let a = bind_ok (until (plan_line instance) 0 1 (parts_of bytes)) (λ plan. line_by (verdict_line instance) plan.1 >>= λ verdict. version_at verdict.1 >>= λ version. until (λ place. certificate_line version.0 instance) 0 version.1.0 version.1.1 >>= λ lines. finished lines.1 >>= λ end. Ok (record { plan = plan.0; verdict = verdict.0; version = version.0; lines = lines.0 })) answer e in
    let b = bind_ok (line_by (verdict_line instance) a.0.1) (λ verdict. version_at verdict.1 >>= λ version. until (λ place. certificate_line version.0 instance) 0 version.1.0 version.1.1 >>= λ lines. finished lines.1 >>= λ end. Ok (record { plan = a.0.0; verdict = verdict.0; version = version.0; lines = lines.0 })) answer a.2 in
    let w = bind_ok (version_at b.0.1) (λ version. until (λ place. certificate_line version.0 instance) 0 version.1.0 version.1.1 >>= λ lines. finished lines.1 >>= λ end. Ok (record { plan = a.0.0; verdict = b.0.0; version = version.0; lines = lines.0 })) answer b.2 in
    let c = bind_ok (until (λ place. certificate_line w.0.0 instance) 0 w.0.1.0 w.0.1.1) (λ lines. finished lines.1 >>= λ end. Ok (record { plan = a.0.0; verdict = b.0.0; version = w.0.0; lines = lines.0 })) answer w.2 in
    let d = bind_ok (finished c.0.1) (λ end. Ok (record { plan = a.0.0; verdict = b.0.0; version = w.0.0; lines = c.0.0 })) answer c.2 in
    let plan = until_takes (plan_line instance) (SaysPlan instance) (plan_said instance) 0 1 (parts_of bytes) a.0 a.1 in
    let line = line_takes (verdict_line instance) a.0.1 b.0 b.1 in
    let verdict = verdict_takes instance valid (fields_of line.0) b.0.0 line.2 in
    let version = version_said b.0.1 w.0 w.1 in
    let lines = until_takes (λ place. certificate_line w.0.0 instance) (SaysLines w.0.0 instance) (lines_said w.0.0 instance valid) 0 w.0.1.0 w.0.1.1 c.0 c.1 in
    let made : Answer = record { plan = a.0.0; verdict = b.0.0; version = w.0.0; lines = c.0.0 } in
    let said : List (List (List ℕ)) = version_lines w.0.0 in
    let nothing : List (List ℕ) = [] ∷ [] in
    let last : w.0.1.1 ≡ map joined lines.0 ++ nothing = lines.2 ∙ ap (λ (r : List (List ℕ)). map joined lines.0 ++ r) (finished_ok c.0.1 d.0 d.1) in
    let behind : b.0.1.1 ≡ map joined (said ++ lines.0) ++ nothing = version.1 ∙ ap (λ (r : List (List ℕ)). map joined said ++ r) last ∙ sym (map_both said lines.0 nothing) in
    let middle : a.0.1.1 ≡ joined (verdict_fields b.0.0) ∷ (map joined (said ++ lines.0) ++ nothing) = line.1 ∙ ap (λ (l : List ℕ). l ∷ b.0.1.1) (line_is line.0 (verdict_fields b.0.0) verdict.0) ∙ ap (λ (r : List (List ℕ)). joined (verdict_fields b.0.0) ∷ r) behind in
    let all : List (List (List ℕ)) = plan.0 ++ (verdict_fields b.0.0 ∷ (said ++ lines.0)) in
    let parts : parts_of bytes ≡ map joined all ++ nothing = plan.2 ∙ ap (λ (r : List (List ℕ)). map joined plan.0 ++ r) middle ∙ sym (map_both plan.0 (verdict_fields b.0.0 ∷ (said ++ lines.0)) nothing) in
    let same : all ≡ lines_of instance.paths made = ap (λ (ls : List (List (List ℕ))). ls ++ (verdict_fields b.0.0 ∷ (said ++ lines.0))) plan.1.0 ∙ ap (λ (ls : List (List (List ℕ))). (plan_lines instance.paths a.0.0 ++ (codes "--" ∷ []) ∷ []) ++ (verdict_fields b.0.0 ∷ (said ++ ls))) lines.1.0 in
    let text : bytes ≡ answer_text instance made = sym (join_with_byte-slice_split 10 bytes) ∙ ap (join_with_byte 10) parts ∙ joined_text all ∙ ap (flat_map line_text) same ∙ text_is instance made in
    subst (λ (x : Answer). IsWellFormed instance x × (bytes ≡ answer_text instance x)) (ok_is {E = TextFault} made answer d.2) (record { plan = plan.1.1; choices = All-from_recursion IsShownChoice a.0.0 plan.1.2; verdict = verdict.1; version = version.0; lines = All-from_recursion (IsLineIn w.0.0 instance) c.0.0 lines.1.1 }, text)
