-- The numbers of fields, from the front on.
use Rattle.std.proofs.Common.{◌≡◌, ℕ, suc, ◌+◌, ◌-◌, ◌<◌, ◌≤◌, List, [], ◌∷◌, ◌++◌, length, get_or, set, take, drop, replicate, Result, Ok, Err, refl, sym, ap, ◌∙◌, arith, drop-cons, append_assoc, append-nil}
use Rattle.std.proofs.lemmas.List.{drop_all, take_more_set, length-take-le, drop-set-lt, drop-drop, drop-replicate, take-append-drop}
use Rattle.fapp_model.specs.declared.level.TheConstants.{MAX_LEVELS}
use Rattle.fapp_text.specs.Reading.{◌>>=◌}
use Rattle.record_reader.specs.declared.cause.Cause.{Cause}
use Rattle.record_reader.specs.Fields.{number, numbers}
use Rattle.record_reader.specs.Entries.{with_zeros, distances}

-- some numbers before those of a result
abbrev pub after : List ℕ → Result (List ℕ) Cause → Result (List ℕ) Cause
after front r = r >>= λ rest. Ok (front ++ rest)

after_more : (front : List ℕ) (n : ℕ) (r : Result (List ℕ) Cause) → after front (r >>= λ rest. Ok (n ∷ rest)) ≡ after (front ++ n ∷ []) r
after_more front n (Ok rest) = ap Ok (sym (append_assoc front (n ∷ []) rest))
after_more front n (Err e) = refl

after_none : (r : Result (List ℕ) Cause) → after [] r ≡ r
after_none (Ok rest) = refl
after_none (Err e) = refl

numbers_ok : (text : List ℕ) (rest : List (List ℕ)) (n : ℕ) → number text ≡ Ok n → numbers (text ∷ rest) ≡ (numbers rest >>= λ others. Ok (n ∷ others))
numbers_ok text rest n e = rw e refl

numbers_err : (text : List ℕ) (rest : List (List ℕ)) (cause : Cause) → number text ≡ Err cause → numbers (text ∷ rest) ≡ Err cause
numbers_err text rest cause e = rw e refl

pub starts : (fields : List (List ℕ)) (dist : List ℕ) → after (take 0 dist) (numbers (drop 3 fields)) ≡ numbers (drop 3 fields)
starts fields dist = after_none (numbers (drop 3 fields))

pub one_more : (fields : List (List ℕ)) (dist : List ℕ) (i k j n : ℕ) (all : Result (List ℕ) Cause) → j ≡ suc k → k < length fields → i < length dist → Ok n ≡ number (get_or fields k [])
    → after (take i dist) (numbers (drop k fields)) ≡ all → after (take (i + 1) (set dist i n)) (numbers (drop j fields)) ≡ all
one_more fields dist i k j n all next lt room e so_far =
    rw (take_more_set dist i n room, next) (
    sym (after_more (take i dist) n (numbers (drop (suc k) fields)))
    ∙ ap (after (take i dist)) (sym (numbers_ok (get_or fields k []) (drop (suc k) fields) n (sym e)))
    ∙ ap (λ xs. after (take i dist) (numbers xs)) (sym (drop-cons fields k [] lt))
    ∙ so_far)

pub one_bad : (fields : List (List ℕ)) (dist : List ℕ) (i k : ℕ) (cause : Cause) (all : Result (List ℕ) Cause) → k < length fields → Err cause ≡ number (get_or fields k [])
    → after (take i dist) (numbers (drop k fields)) ≡ all → Err cause ≡ all
one_bad fields dist i k cause all lt e so_far =
    sym (ap (λ xs. after (take i dist) (numbers xs)) (drop-cons fields k [] lt)
    ∙ ap (after (take i dist)) (numbers_err (get_or fields k []) (drop (suc k) fields) cause (sym e))) ∙ so_far

pub all_read : (fields : List (List ℕ)) (dist : List ℕ) (i k : ℕ) (all : Result (List ℕ) Cause) → length fields ≤ k
    → after (take i dist) (numbers (drop k fields)) ≡ all → Ok (take i dist) ≡ all
all_read fields dist i k all done so_far =
    sym (ap (λ xs. after (take i dist) (numbers xs)) (drop_all k fields done) ∙ ap Ok (append-nil (take i dist))) ∙ so_far

-- zeros from a place on
pub zeros_more : (dist : List ℕ) (i n room : ℕ) → drop i dist ≡ replicate (room - i) 0 → drop (i + 1) (set dist i n) ≡ replicate (room - (i + 1)) 0
zeros_more dist i n room zeros =
    drop-set-lt (i + 1) dist i n (omega arith) ∙ sym (drop-drop 1 i dist) ∙ ap (drop 1) zeros ∙ drop-replicate 1 (room - i) 0
    ∙ ap (λ k. replicate k 0) (let e : room - i - 1 ≡ room - (i + 1) = omega arith in e)

-- all numbers that were read, and zeros
pub padded : (dist : List ℕ) (i : ℕ) → i ≤ MAX_LEVELS → length dist ≡ MAX_LEVELS → drop i dist ≡ replicate (MAX_LEVELS - i) 0 → with_zeros (take i dist) ≡ dist
padded dist i within count zeros =
    ap (λ k. take i dist ++ replicate (MAX_LEVELS - k) 0) (length-take-le i dist (omega (arith, count)))
    ∙ ap (λ xs. take i dist ++ xs) (sym zeros)
    ∙ take-append-drop i dist

pub all_padded : (texts : List (List ℕ)) (dist : List ℕ) (i : ℕ) → i ≤ MAX_LEVELS → length dist ≡ MAX_LEVELS → drop i dist ≡ replicate (MAX_LEVELS - i) 0
    → Ok (take i dist) ≡ numbers texts → Ok dist ≡ distances texts
all_padded texts dist i within count zeros read =
    ap Ok (sym (padded dist i within count zeros)) ∙ ap (λ r. r >>= λ ns. Ok (with_zeros ns)) read

pub bad_distance : (texts : List (List ℕ)) (cause : Cause) → Err cause ≡ numbers texts → Err cause ≡ distances texts
bad_distance texts cause read = ap (λ r. r >>= λ ns. Ok (with_zeros ns)) read
