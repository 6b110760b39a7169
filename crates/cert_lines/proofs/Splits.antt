-- The first part of a list that is cut at some byte.
use Rattle.std.proofs.Common.{◌≡◌, ℕ, ◌+◌, ◌-◌, ◌≤◌, suc, Bool, true, false, not, cond, List, [], ◌∷◌, length, take, drop, Some, None, Err, refl, arith}
use Rattle.std.specs.List.{position, position_or_len, slice_split, onto_first}
use Rattle.std.proofs.lemmas.List.{take_all, length-drop}
use Rattle.std.proofs.lemmas.List.Splits.{slice_split_first}
use Rattle.fapp_text.proofs.PlaceLemmas.{position_some, position_none}
use Rattle.cert_lines.specs.declared.fault.CertCause.TheVariants.{FieldCount}
use Rattle.cert_lines.specs.FieldReading.{fields_of, ended, is_space}

-- up to the first byte that passes
pub split_some : (p : ℕ → Bool) (bytes : List ℕ) (end : ℕ) → position p bytes ≡ Some end → slice_split p bytes ≡ take end bytes ∷ slice_split p (take (length bytes - (end + 1)) (drop (end + 1) bytes))
split_some p bytes end e =
    let h = position_some p bytes end e in
    let all : take (length bytes - (end + 1)) (drop (end + 1) bytes) ≡ drop (end + 1) bytes = take_all (length bytes - (end + 1)) (drop (end + 1) bytes) (omega (arith, length-drop (end + 1) bytes)) in
    rw (all, ← h.0) (slice_split_first p bytes 0 h.1)

last_step : (test : Bool) (b : ℕ) (bytes : List ℕ) (n : ℕ) (parts : List (List ℕ)) → suc (length bytes) ≤ cond (not test) (1 + n) 0 → (length bytes ≤ n → parts ≡ bytes ∷ []) → cond test ([] ∷ parts) (onto_first b parts) ≡ (b ∷ bytes) ∷ []
last_step true b bytes n parts h rest = absurd (omega arith)
last_step false b bytes n parts h rest = rw (rest (omega arith)) refl

split_last : (p : ℕ → Bool) (bytes : List ℕ) → length bytes ≤ position_or_len p bytes → slice_split p bytes ≡ bytes ∷ []
split_last p [] h = refl
split_last p (b ∷ bytes) h = last_step (p b) b bytes (position_or_len p bytes) (slice_split p bytes) h (λ g. split_last p bytes g)

-- where no byte passes
pub split_none : (p : ℕ → Bool) (bytes : List ℕ) → position p bytes ≡ None → slice_split p bytes ≡ bytes ∷ []
split_none p bytes e = split_last p bytes (omega (arith, position_none p bytes e))

ended_first : (b : ℕ) (parts : List (List ℕ)) → ended (onto_first b parts) ≡ Err FieldCount
ended_first b [] = refl
ended_first b (part ∷ parts) = refl

ended_step : (test : Bool) (b : ℕ) (parts : List (List ℕ)) → ended (cond test ([] ∷ parts) (onto_first b parts)) ≡ Err FieldCount
ended_step true b parts = refl
ended_step false b parts = ended_first b parts

-- a line has a field
pub ended_line : (line : List ℕ) → ended (fields_of line) ≡ Err FieldCount
ended_line [] = refl
ended_line (b ∷ line) = ended_step (is_space b) b (fields_of line)
