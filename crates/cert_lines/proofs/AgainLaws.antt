-- The text of a well-formed answer is read as that answer.
use Rattle.std.proofs.Common.{◌≡◌, ℕ, suc, ◌+◌, ◌≤◌, false, eqb, List, [], ◌∷◌, ◌++◌, length, map, drop, codes, decimal, Option, Some, None, Result, Ok, Err, refl, sym, ap, subst, ◌∙◌, inl, inr, arith}
use Rattle.std.specs.List.{join_with_byte, AllByRecursion}
use Rattle.std.specs.Fmt.{signed_decimal}
use Rattle.std.proofs.lemmas.Bool.Decides.{nat_tests}
use Rattle.std.proofs.lemmas.List.{append-nil}
use Rattle.std.proofs.lemmas.List.Elements.{recursion_from_All}
use Rattle.fapp_model.specs.declared.choice.Choice.{Choice}
use Rattle.fapp_model.specs.declared.instance.Instance.{Instance}
use Rattle.fapp_model.specs.declared.instance.Path.{Path}
use Rattle.fapp_model.specs.Instances.{IsNumber, IsPath, IsInstance}
use Rattle.cert_lines.specs.declared.answer.Answer.{Answer}
use Rattle.cert_lines.specs.declared.answer.Line.{Line}
use Rattle.cert_lines.specs.declared.answer.Verdict.{Verdict}
use Rattle.cert_lines.specs.declared.answer.Verdict.TheVariants.{Best, NoneFeasible, Open}
use Rattle.cert_lines.specs.declared.fault.CertCause.{CertCause}
use Rattle.cert_lines.specs.declared.fault.CertCause.TheVariants.{AfterEnd}
use Rattle.fapp_text.specs.Reading.{◌>>=◌, fault, at_line}
use Rattle.cert_lines.specs.Spelling.{triple_numbers, tag_numbers, list_numbers, front_numbers, rule_word, rule_numbers, choice_fields, certificate_fields, verdict_fields, version_lines, plan_lines, answer_text}
use Rattle.cert_lines.specs.WellFormed.{IsShownChoice, IsLineIn, IsVersion, IsWellFormed}
use Rattle.cert_lines.specs.PlanReading.{plan_line}
use Rattle.cert_lines.specs.VerdictReading.{verdict_line}
use Rattle.cert_lines.specs.VersionReading.{version_line}
use Rattle.cert_lines.specs.CertificateReading.{certificate_line}
use Rattle.cert_lines.specs.Reading.{TextFault, Rest, parts_of, line_by, until, version_or, version_at, finished, reading}
use Rattle.cert_lines.specs.AnswerLaws.{line_after}
use Rattle.cert_lines.proofs.PlanLaws.{turn_again, plan_again, plan_ends}
use Rattle.cert_lines.proofs.VerdictLaws.{verdict_again}
use Rattle.cert_lines.proofs.VersionLaws.{version_again, no_version, no_version_at_end}
use Rattle.cert_lines.proofs.LineLaws.{certificate_again, certificate_ends}
use Rattle.cert_lines.proofs.Parts.{HasFirst, has_first, next_ended, not_finished}
use Rattle.cert_lines.proofs.Plain.{ArePlain, all_append, certificate_plain, verdict_plain, version_plain, plan_plain, end_plain, head_plain, fields_again, parts_again}
use Rattle.cert_lines.proofs.TextLaws.{map_both, lines_of, text_is}
use Rattle.cert_lines.proofs.Until.{follow, until_by}

abbrev joined : List (List ℕ) → List ℕ
joined fields = join_with_byte 32 fields

has_behind : (xs ys : List (List ℕ)) → HasFirst ys → HasFirst (xs ++ ys)
has_behind [] ys first = first
has_behind (x ∷ xs) ys first = (x, xs ++ ys, refl)

first_behind : (xs : List (List ℕ)) (y : List ℕ) (ys : List (List ℕ)) → HasFirst (xs ++ y ∷ ys)
first_behind xs y ys = has_behind xs (y ∷ ys) (y, ys, refl)

-- the fields of a line, read where the line stands
line_again : {A : Type 0} (read : List (List ℕ) → Result A CertCause) (number : ℕ) (word : List ℕ) (fields parts : List (List ℕ)) (x : A) → HasFirst parts → ArePlain (word ∷ fields) → read (word ∷ fields) ≡ Ok x
    → line_by read (number, joined (word ∷ fields) ∷ parts) ≡ Ok (x, (number + 1, parts))
unfolding line_by
line_again {A} read number word fields parts x first plain e =
    let after : Rest = (number + 1, parts) in
    ap (λ (r : Result (List (List ℕ) × Rest) TextFault). r >>= λ line. at_line number (read line.0) >>= λ found. Ok (found, line.1)) (next_ended number (joined (word ∷ fields)) parts first)
    ∙ ap (λ (fs : List (List ℕ)). at_line number (read fs) >>= λ found. Ok (found, after)) (fields_again word fields plain)
    ∙ ap (λ (r : Result A CertCause). at_line number r >>= λ found. Ok (found, after)) e

-- a number of lines further
abbrev pub Reaches : {A : Type 0} → Result (List A × Rest) TextFault → List A → ℕ → List (List ℕ) → Type 0
Reaches read items number rest = read ≡ Ok (items, (number, rest))

plan_lines_again : (instance : Instance) (paths : List Path) (plan : List Choice) (place number : ℕ) (rest : List (List ℕ)) → drop place instance.paths ≡ paths → length plan ≤ length paths → AllByRecursion (λ p. IsNumber p.number) paths → AllByRecursion IsShownChoice plan → HasFirst rest
    → Reaches (until (plan_line instance) place number (map joined (plan_lines paths plan) ++ joined (codes "--" ∷ []) ∷ rest)) plan (number + (length plan + 1)) rest
plan_lines_again instance paths [] place number rest here le numbers shown first =
    let end : Option Choice = None in
    let one = line_again (plan_line instance place) number (codes "--") [] rest end first head_plain (plan_ends instance place) in
    until_by (plan_line instance) place number (joined (codes "--" ∷ []) ∷ rest) ∙ ap (λ (r : Result (Option Choice × Rest) TextFault). r >>= follow (plan_line instance) place) one
plan_lines_again instance [] (choice ∷ plan) place number rest here le numbers shown first = absurd (omega arith)
plan_lines_again instance (path ∷ paths) (choice ∷ plan) place number rest here le numbers shown first =
    let behind : List (List ℕ) = map joined (plan_lines paths plan) ++ joined (codes "--" ∷ []) ∷ rest in
    let some : Option Choice = Some choice in
    let plain = plan_plain (path ∷ paths) (choice ∷ plan) in
    let turn = turn_again instance place path paths here in
    let one = line_again (plan_line instance place) number (codes "AL") (decimal path.number ∷ decimal choice.freq ∷ signed_decimal choice.pol ∷ []) behind some (first_behind (map joined (plan_lines paths plan)) (joined (codes "--" ∷ [])) rest) plain.0 (plan_again instance place path paths choice here numbers.0 shown.0) in
    let others = plan_lines_again instance paths plan (place + 1) (number + 1) rest turn.1 (omega arith) numbers.1 shown.1 first in
    let sum : number + 1 + (length plan + 1) ≡ number + (suc (length plan) + 1) = omega arith in
    until_by (plan_line instance) place number (joined (choice_fields path choice) ∷ behind)
    ∙ ap (λ (r : Result (Option Choice × Rest) TextFault). r >>= follow (plan_line instance) place) one
    ∙ ap (λ (r : Result (List Choice × Rest) TextFault). r >>= λ x. Ok (choice ∷ x.0, x.1)) others
    ∙ ap (λ (n : ℕ). Ok (choice ∷ plan, (n, rest))) sum

-- the lines of a certificate with the one that ends it, and what follows
abbrev ends_of : List Line → List (List ℕ) → List (List ℕ)
ends_of lines rest = map joined (map certificate_fields lines) ++ joined (codes "END" ∷ []) ∷ rest

ends_first : (lines : List Line) (rest : List (List ℕ)) → HasFirst (ends_of lines rest)
ends_first lines rest = first_behind (map joined (map certificate_fields lines)) (joined (codes "END" ∷ [])) rest

-- certificate lines, whatever their place
abbrev lines_read : ℕ → Instance → ℕ → List (List ℕ) → Result (Option Line) CertCause
lines_read version instance place = certificate_line version instance

lines_again : (version : ℕ) (instance : Instance) → IsInstance instance → (lines : List Line) (place number : ℕ) (rest : List (List ℕ)) → AllByRecursion (IsLineIn version instance) lines → HasFirst rest
    → Reaches (until (lines_read version instance) place number (ends_of lines rest)) lines (number + (length lines + 1)) rest
lines_again version instance valid [] place number rest good first =
    let end : Option Line = None in
    let one = line_again (certificate_line version instance) number (codes "END") [] rest end first end_plain (certificate_ends version instance) in
    until_by (lines_read version instance) place number (joined (codes "END" ∷ []) ∷ rest) ∙ ap (λ (r : Result (Option Line × Rest) TextFault). r >>= follow (lines_read version instance) place) one
lines_again version instance valid (line ∷ lines) place number rest good first =
    let behind : List (List ℕ) = ends_of lines rest in
    let found : Option Line = Some line in
    let one = line_again (certificate_line version instance) number (rule_word line.rule) (map decimal (front_numbers line line.rule ++ rule_numbers line.rule)) behind found (ends_first lines rest) (certificate_plain line) (certificate_again version instance valid line good.0) in
    let others = lines_again version instance valid lines (place + 1) (number + 1) rest good.1 first in
    let sum : number + 1 + (length lines + 1) ≡ number + (suc (length lines) + 1) = omega arith in
    until_by (lines_read version instance) place number (joined (certificate_fields line) ∷ behind)
    ∙ ap (λ (r : Result (Option Line × Rest) TextFault). r >>= follow (lines_read version instance) place) one
    ∙ ap (λ (r : Result (List Line × Rest) TextFault). r >>= λ x. Ok (line ∷ x.0, x.1)) others
    ∙ ap (λ (n : ℕ). Ok (line ∷ lines, (n, rest))) sum

-- the first line of a certificate says no version
unsaid : (number : ℕ) (lines : List Line) (rest : List (List ℕ)) → HasFirst rest → (after : Rest) × (line_by version_line (number, ends_of lines rest) ≡ Ok (None, after))
unsaid number [] rest first =
    let none : Option ℕ = None in
    ((number + 1, rest), line_again version_line number (codes "END") [] rest none first end_plain (no_version_at_end []))
unsaid number (line ∷ lines) rest first =
    let none : Option ℕ = None in
    let fields : List (List ℕ) = map decimal (front_numbers line line.rule ++ rule_numbers line.rule) in
    ((number + 1, ends_of lines rest), line_again version_line number (rule_word line.rule) fields (ends_of lines rest) none (ends_first lines rest) (certificate_plain line) (no_version line.rule fields))

version_read : (version number : ℕ) (lines : List Line) (rest : List (List ℕ)) → IsVersion version → HasFirst rest
    → version_at (number, map joined (version_lines version) ++ ends_of lines rest) ≡ Ok (version, (number + length (version_lines version), ends_of lines rest))
unfolding version_at
version_read version number lines rest (inl one) first =
    let ends : List (List ℕ) = ends_of lines rest in
    let same : number ≡ number + 0 = omega arith in
    rw one (ap (λ (r : Result (Option ℕ × Rest) TextFault). r >>= λ found. Ok (version_or (number, ends) found)) (unsaid number lines rest first).1 ∙ ap (λ (n : ℕ). Ok (1, (n, ends))) same)
version_read version number lines rest (inr two) first =
    let ends : List (List ℕ) = ends_of lines rest in
    let whole : List (List ℕ) = joined (codes "V" ∷ codes "2" ∷ []) ∷ ends in
    let found : Option ℕ = Some 2 in
    let line = line_again version_line number (codes "V") (codes "2" ∷ []) ends found (ends_first lines rest) (version_plain 2).0 version_again in
    rw two (ap (λ (r : Result (Option ℕ × Rest) TextFault). r >>= λ x. Ok (version_or (number, whole) x)) line)

path_numbers : (paths : List Path) → AllByRecursion IsPath paths → AllByRecursion (λ p. IsNumber p.number) paths
path_numbers [] h = tt
path_numbers (p ∷ paths) h = (h.0.number, path_numbers paths h.1)

verdict_read : (instance : Instance) → IsInstance instance → (verdict : Verdict) (number : ℕ) (fields : List (List ℕ)) (word : List ℕ) (more : List (List ℕ)) (parts : List (List ℕ)) → fields ≡ verdict_fields verdict → fields ≡ word ∷ more → HasFirst parts
    → ArePlain fields → verdict_line instance fields ≡ Ok verdict → line_by (verdict_line instance) (number, joined fields ∷ parts) ≡ Ok (verdict, (number + 1, parts))
verdict_read instance valid verdict number fields word more parts same cut first plain e =
    ap (λ (fs : List (List ℕ)). line_by (verdict_line instance) (number, joined fs ∷ parts)) cut
    ∙ line_again (verdict_line instance) number word more parts verdict first (subst ArePlain cut plain) (ap (verdict_line instance) (sym cut) ∙ e)

has_word : (verdict : Verdict) → HasFirst (verdict_fields verdict)
has_word (Best t) = (codes "BEST", map decimal (triple_numbers t), refl)
has_word NoneFeasible = (codes "NONE", [], refl)
has_word (Open best lower level prefix) = (codes "OPEN", (map decimal (triple_numbers best) ++ codes "LOWER" ∷ map decimal (tag_numbers lower)) ++ codes "AT" ∷ map decimal (level ∷ list_numbers prefix), refl)

all_plain : (instance : Instance) (answer : Answer) → AllByRecursion ArePlain (lines_of instance.paths answer)
unfolding lines_of
all_plain instance answer =
    let ends : List (List (List ℕ)) = map certificate_fields answer.lines ++ (codes "END" ∷ []) ∷ [] in
    let certificate = all_append ArePlain (map certificate_fields answer.lines) ((codes "END" ∷ []) ∷ []) (lines_plain answer.lines) (end_plain, tt) in
    let behind = all_append ArePlain (version_lines answer.version) ends (version_plain answer.version) certificate in
    let head = all_append ArePlain (plan_lines instance.paths answer.plan) ((codes "--" ∷ []) ∷ []) (plan_plain instance.paths answer.plan) (head_plain, tt) in
    all_append ArePlain (plan_lines instance.paths answer.plan ++ (codes "--" ∷ []) ∷ []) (verdict_fields answer.verdict ∷ (version_lines answer.version ++ ends)) head (verdict_plain answer.verdict, behind)
  where
    lines_plain : (lines : List Line) → AllByRecursion ArePlain (map certificate_fields lines)
    lines_plain [] = tt
    lines_plain (line ∷ lines) = (certificate_plain line, lines_plain lines)

-- the text of an answer, and what follows it
pub reading_upto : (instance : Instance) → IsInstance instance → (answer : Answer) → IsWellFormed instance answer → (more : List ℕ) → reading instance (answer_text instance answer ++ more) ≡ (finished (line_after answer, parts_of more) >>= λ end. Ok answer)
unfolding reading lines_of
reading_upto instance valid answer good more =
    let rest : List (List ℕ) = parts_of more in
    let ends : List (List ℕ) = ends_of answer.lines rest in
    let said : List (List (List ℕ)) = version_lines answer.version in
    let after : List (List ℕ) = map joined said ++ ends in
    let behind : List (List ℕ) = joined (verdict_fields answer.verdict) ∷ after in
    let p = plan_lines instance.paths answer.plan in
    let dashes : List (List (List ℕ)) = (codes "--" ∷ []) ∷ [] in
    let end : List (List (List ℕ)) = (codes "END" ∷ []) ∷ [] in
    let cut : parts_of (answer_text instance answer ++ more) ≡ map joined p ++ joined (codes "--" ∷ []) ∷ behind =
    ap (λ (t : List ℕ). parts_of (t ++ more)) (sym (text_is instance answer))
    ∙ parts_again (lines_of instance.paths answer) more (all_plain instance answer)
    ∙ map_both (p ++ dashes) (verdict_fields answer.verdict ∷ (said ++ (map certificate_fields answer.lines ++ end))) rest
    ∙ ap (λ (t : List (List ℕ)). map joined (p ++ dashes) ++ (joined (verdict_fields answer.verdict) ∷ t)) (map_both said (map certificate_fields answer.lines ++ end) rest)
    ∙ ap (λ (t : List (List ℕ)). map joined (p ++ dashes) ++ (joined (verdict_fields answer.verdict) ∷ (map joined said ++ t))) (map_both (map certificate_fields answer.lines) end rest)
    ∙ map_both p dashes behind in
    let numbers = path_numbers instance.paths (recursion_from_All IsPath instance.paths valid.paths) in
    let choices = recursion_from_All IsShownChoice answer.plan good.choices in
    let certificate = recursion_from_All (IsLineIn answer.version instance) answer.lines good.lines in
    let plan = plan_lines_again instance instance.paths answer.plan 0 1 behind refl good.plan numbers choices (joined (verdict_fields answer.verdict), after, refl) in
    let n : ℕ = 1 + (length answer.plan + 1) in
    let word = has_word answer.verdict in
    let first : HasFirst after = has_behind (map joined said) ends (ends_first answer.lines rest) in
    let verdict = verdict_read instance valid answer.verdict n (verdict_fields answer.verdict) word.0 word.1 after refl word.2 first (verdict_plain answer.verdict) (verdict_again instance valid answer.verdict good.verdict) in
    let version = version_read answer.version (n + 1) answer.lines rest good.version (has_first more) in
    let m : ℕ = n + 1 + length said in
    let lines = lines_again answer.version instance valid answer.lines 0 m rest certificate (has_first more) in
    let sum : m + (length answer.lines + 1) ≡ line_after answer = omega arith in
    ap (λ (parts : List (List ℕ)). until (plan_line instance) 0 1 parts >>= λ plan. line_by (verdict_line instance) plan.1 >>= λ verdict. version_at verdict.1 >>= λ version. until (λ place. certificate_line version.0 instance) 0 version.1.0 version.1.1 >>= λ lines. finished lines.1 >>= λ end. Ok (record { plan = plan.0; verdict = verdict.0; version = version.0; lines = lines.0 })) cut
    ∙ ap (λ (r : Result (List Choice × Rest) TextFault). r >>= λ plan. line_by (verdict_line instance) plan.1 >>= λ verdict. version_at verdict.1 >>= λ version. until (λ place. certificate_line version.0 instance) 0 version.1.0 version.1.1 >>= λ lines. finished lines.1 >>= λ end. Ok (record { plan = plan.0; verdict = verdict.0; version = version.0; lines = lines.0 })) plan
    ∙ ap (λ (r : Result (Verdict × Rest) TextFault). r >>= λ verdict. version_at verdict.1 >>= λ version. until (λ place. certificate_line version.0 instance) 0 version.1.0 version.1.1 >>= λ lines. finished lines.1 >>= λ end. Ok (record { plan = answer.plan; verdict = verdict.0; version = version.0; lines = lines.0 })) verdict
    ∙ ap (λ (r : Result (ℕ × Rest) TextFault). r >>= λ version. until (λ place. certificate_line version.0 instance) 0 version.1.0 version.1.1 >>= λ lines. finished lines.1 >>= λ end. Ok (record { plan = answer.plan; verdict = answer.verdict; version = version.0; lines = lines.0 })) version
    ∙ ap (λ (r : Result (List Line × Rest) TextFault). r >>= λ lines. finished lines.1 >>= λ end. Ok (record { plan = answer.plan; verdict = answer.verdict; version = answer.version; lines = lines.0 })) lines
    ∙ ap (λ (m : ℕ). finished (m, rest) >>= λ end. Ok answer) sum

-- nothing follows
pub reading_again : (instance : Instance) → IsInstance instance → (answer : Answer) → IsWellFormed instance answer → reading instance (answer_text instance answer) ≡ Ok answer
reading_again instance valid answer good = ap (reading instance) (sym (append-nil (answer_text instance answer))) ∙ reading_upto instance valid answer good []

some_bytes : (n : ℕ) → eqb (suc n) 0 ≡ false
some_bytes n = grind (arith, nat_tests)

-- a byte follows
pub reading_past : (instance : Instance) → IsInstance instance → (answer : Answer) → IsWellFormed instance answer → (b : ℕ) (more : List ℕ) → reading instance (answer_text instance answer ++ b ∷ more) ≡ Err (fault (line_after answer) AfterEnd)
reading_past instance valid answer good b more =
    reading_upto instance valid answer good (b ∷ more)
    ∙ ap (λ (r : Result (Unit {0}) TextFault). r >>= λ end. Ok answer) (not_finished (line_after answer) (b ∷ more) (some_bytes (length more)))
