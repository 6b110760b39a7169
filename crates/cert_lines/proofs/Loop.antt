-- Reading a list from left to right, as a loop does.
use Rattle.std.proofs.Common.{◌≡◌, ℕ, suc, ◌-◌, ◌+◌, ◌≤◌, ◌<◌, List, [], ◌∷◌, ◌++◌, Result, Ok, Err, refl, sym, ap, ◌∙◌, append_assoc, arith}
use Rattle.std.proofs.lemmas.List.{append-nil}
use Rattle.cert_lines.specs.declared.fault.CertCause.{CertCause}
use Rattle.fapp_text.specs.declared.failure.Failure.{Failure}
use Rattle.fapp_text.specs.declared.failure.Failure.TheVariants as errors
use Rattle.fapp_text.specs.Reading.{◌>>=◌, Fails}
use Rattle.cert_lines.specs.ListReading.{many}
use Rattle.cert_lines.specs.ListReading.{State}

-- what was read before, and what is still read
abbrev pub with_front : {A : Type 0} → List A → Result (List A × State) CertCause → Result (List A × State) CertCause
with_front front read = read >>= λ x. Ok (front ++ x.0, x.1)

-- without the least number that may come
abbrev pub without_low : {A : Type 0} → Result (List A × State) CertCause → Result (List A × List (List ℕ)) CertCause
without_low read = read >>= λ x. Ok (x.0, x.1.1)

regroup : {A : Type 0} (front : List A) (n : A) (read : Result (List A × State) CertCause) → with_front front (read >>= λ x. Ok (n ∷ x.0, x.1)) ≡ with_front (front ++ n ∷ []) read
regroup {A} front n (Ok x) = ap (λ (ns : List A). Ok (ns, x.1)) (simp append_assoc)
regroup front n (Err f) = refl

pub goes_on : {A : Type 0} (step : State → Result (A × State) CertCause) (front : List A) (count i : ℕ) (s : State) (n : A) (after : State) (total : Result (List A × State) CertCause) → i < count → step s ≡ Ok (n, after)
    → with_front front (many step (count - i) s) ≡ total → with_front (front ++ n ∷ []) (many step (count - (i + 1)) after) ≡ total
goes_on step front count i s n after total lt h so_far =
    let k : count - i ≡ suc (count - (i + 1)) = omega arith in
    let one : with_front front (many step (count - i) s) ≡ with_front (front ++ n ∷ []) (many step (count - (i + 1)) after) = rw (k, h) (regroup front n (many step (count - (i + 1)) after)) in
    sym one ∙ so_far

pub ends : {A : Type 0} (step : State → Result (A × State) CertCause) (e : Failure CertCause) (front : List A) (count i : ℕ) (s : State) (total : Result (List A × State) CertCause) → i < count → Fails e (step s)
    → with_front front (many step (count - i) s) ≡ total → Fails e (without_low total)
ends step errors.NoMemory front count i s total lt h so_far = tt
ends step (errors.Bad f) front count i s total lt h so_far =
    let k : count - i ≡ suc (count - (i + 1)) = omega arith in
    let one : with_front front (many step (count - i) s) ≡ Err f = rw (k, h) refl in
    ap without_low (sym so_far ∙ one)

pub is_done : {A : Type 0} (step : State → Result (A × State) CertCause) (front : List A) (count i : ℕ) (s : State) (total : Result (List A × State) CertCause) → count ≤ i → with_front front (many step (count - i) s) ≡ total → without_low total ≡ Ok (front, s.1)
is_done {A} step front count i s total le so_far =
    let k : count - i ≡ 0 = omega arith in
    let one : with_front front (many step (count - i) s) ≡ Ok (front, s) = rw k (ap (λ (ns : List A). Ok (ns, s)) (append-nil front)) in
    ap without_low (sym so_far ∙ one)
