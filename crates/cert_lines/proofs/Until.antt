-- Reading lines up to the one that ends them, as a loop does.
use Rattle.std.proofs.Common.{◌≡◌, ℕ, ◌+◌, List, [], ◌∷◌, ◌++◌, Option, Some, None, Result, Ok, Err, length, refl, sym, ap, ◌∙◌, append_assoc, length-append}
use Rattle.std.proofs.lemmas.List.{append-nil}
use Rattle.fapp_text.specs.declared.failure.Failure.{Failure}
use Rattle.fapp_text.specs.declared.failure.Failure.TheVariants as errors
use Rattle.cert_lines.specs.declared.fault.CertCause.{CertCause}
use Rattle.fapp_text.specs.Reading.{◌>>=◌, at_line, Fails}
use Rattle.cert_lines.specs.FieldReading.{fields_of}
use Rattle.cert_lines.specs.Reading.{TextFault, Rest, next_line, line_by, and_then, until}

-- what was read before, and what is still read
abbrev pub lines_front : {A : Type 0} → List A → Result (List A × Rest) TextFault → Result (List A × Rest) TextFault
lines_front front read = read >>= λ x. Ok (front ++ x.0, x.1)

abbrev pub follow : {A : Type 0} → (ℕ → List (List ℕ) → Result (Option A) CertCause) → ℕ → Option A × Rest → Result (List A × Rest) TextFault
follow read place x = and_then x.0 (until read (place + 1) x.1.0 x.1.1) x.1

-- the rest after a line is the same, whatever the line says
abbrev resting : {A : Type 0} → Rest → Result A TextFault → Result (A × Rest) TextFault
resting rest r = r >>= λ found. Ok (found, rest)

same_rest : {A : Type 0} (read : ℕ → List (List ℕ) → Result (Option A) CertCause) (place number : ℕ) (next : List ℕ) (parts : List (List ℕ)) (r : Result (Option A) TextFault)
    → (resting (number + 1, next ∷ parts) r >>= λ x. and_then x.0 (until read (place + 1) (number + 1) (next ∷ parts)) x.1) ≡ (resting (number + 1, next ∷ parts) r >>= follow read place)
same_rest read place number next parts (Ok found) = refl
same_rest read place number next parts (Err e) = refl

pub until_by : {A : Type 0} (read : ℕ → List (List ℕ) → Result (Option A) CertCause) (place number : ℕ) (parts : List (List ℕ)) → until read place number parts ≡ (line_by (read place) (number, parts) >>= follow read place)
unfolding line_by next_line
until_by read place number [] = refl
until_by read place number (line ∷ []) = refl
until_by read place number (line ∷ next ∷ parts) = same_rest read place number next parts (at_line number (read place (fields_of line)))

regroup : {A : Type 0} (front : List A) (n : A) (read : Result (List A × Rest) TextFault) → lines_front front (read >>= λ x. Ok (n ∷ x.0, x.1)) ≡ lines_front (front ++ n ∷ []) read
regroup front n (Ok x) = ap (λ ns. Ok (ns, x.1)) (sym (append_assoc front (n ∷ []) x.0))
regroup front n (Err f) = refl

pub until_more : {A : Type 0} (read : ℕ → List (List ℕ) → Result (Option A) CertCause) (front : List A) (place : ℕ) (rest : Rest) (x : A) (after : Rest) (total : Result (List A × Rest) TextFault)
    → place ≡ length front → line_by (read place) rest ≡ Ok (Some x, after) → lines_front front (until read (length front) rest.0 rest.1) ≡ total
    → lines_front (front ++ x ∷ []) (until read (length (front ++ x ∷ [])) after.0 after.1) ≡ total
until_more read front place rest x after total here h so_far =
    let longer : length (front ++ x ∷ []) ≡ length front + 1 = length-append front (x ∷ []) in
    let one = rw here at h in
    rw longer (sym (regroup front x (until read (length front + 1) after.0 after.1)) ∙ ap (lines_front front) (sym (until_by read (length front) rest.0 rest.1 ∙ ap (λ r. r >>= follow read (length front)) one)) ∙ so_far)

pub until_done : {A : Type 0} (read : ℕ → List (List ℕ) → Result (Option A) CertCause) (front : List A) (place : ℕ) (rest after : Rest) (total : Result (List A × Rest) TextFault)
    → place ≡ length front → line_by (read place) rest ≡ Ok (None, after) → lines_front front (until read (length front) rest.0 rest.1) ≡ total → total ≡ Ok (front, after)
until_done read front place rest after total here h so_far =
    let last = rw here at h in
    sym so_far ∙ ap (lines_front front) (until_by read (length front) rest.0 rest.1 ∙ ap (λ r. r >>= follow read (length front)) last) ∙ ap (λ ns. Ok (ns, after)) (append-nil front)

pub until_fails : {A : Type 0} (read : ℕ → List (List ℕ) → Result (Option A) CertCause) (e : Failure TextFault) (front : List A) (place : ℕ) (rest : Rest) (total : Result (List A × Rest) TextFault)
    → place ≡ length front → Fails e (line_by (read place) rest) → lines_front front (until read (length front) rest.0 rest.1) ≡ total → Fails e total
until_fails read errors.NoMemory front place rest total here h so_far = tt
until_fails read (errors.Bad f) front place rest total here h so_far =
    let bad = rw here at h in
    sym so_far ∙ ap (lines_front front) (until_by read (length front) rest.0 rest.1 ∙ ap (λ r. r >>= follow read (length front)) bad)
