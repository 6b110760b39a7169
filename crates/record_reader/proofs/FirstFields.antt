-- The first fields of a line tell as much as all of them.
use Rattle.std.proofs.Common.{◌≡◌, ℕ, ◌≤◌, false, cond, eqb, List, [], ◌∷◌, ◌++◌, length, take, Result, Ok, Err, refl, sym, ap, ◌∙◌, arith, append-nil, inl, inr}
use Rattle.std.proofs.lemmas.Bool.{ne_eqb, cases_lt}
use Rattle.std.proofs.lemmas.List.{take_all, length-take-le}
use Rattle.std.proofs.Math.Seq.{take-append_seam}
use Rattle.fapp_model.specs.declared.level.TheConstants.{LEVELS, MAX_LEVELS}
use Rattle.fapp_text.specs.Reading.{◌>>=◌}
use Rattle.record_reader.specs.declared.cause.Cause.{Cause}
use Rattle.record_reader.specs.declared.cause.Cause.TheVariants as causes
use Rattle.record_reader.specs.declared.entry.Kind.{Kind}
use Rattle.record_reader.specs.declared.entry.Kind.TheVariants as kinds
use Rattle.record_reader.specs.declared.field.TheConstants.{MOST_FIELDS}
use Rattle.record_reader.specs.Contents.{Contents}
use Rattle.record_reader.specs.Entries.{kind_of, field_count, entry_by, entry_of}
use Rattle.record_reader.specs.LineReading.{read_entry, read_line}

pub all_fields : (first left all : List (List ℕ)) → first ++ left ≡ all → length first ≤ MOST_FIELDS → left ≡ [] → first ≡ take MOST_FIELDS all
all_fields first left all e few none =
    let whole : first ≡ all = sym (append-nil first) ∙ ap (λ rest. first ++ rest) (sym none) ∙ e in
    whole ∙ sym (take_all MOST_FIELDS all (omega (arith, few, ap length whole)))

pub full_fields : (first left all : List (List ℕ)) → first ++ left ≡ all → length first ≡ MOST_FIELDS → first ≡ take MOST_FIELDS all
full_fields first left all e full = sym (ap (take MOST_FIELDS) (sym e) ∙ ap (λ n. take n (first ++ left)) (sym full) ∙ take-append_seam first left)

other_count : (levels n : ℕ) (kind : Kind) → levels ≤ MAX_LEVELS → MOST_FIELDS ≤ n → eqb n (field_count levels kind) ≡ false
other_count levels n kinds.Domain few h = ne_eqb n 3 (λ e. absurd (omega arith))
other_count levels n kinds.Path few h = ne_eqb n 4 (λ e. absurd (omega arith))
other_count levels n kinds.Imperative few h = ne_eqb n 6 (λ e. absurd (omega arith))
other_count levels n kinds.Same few h = ne_eqb n (field_count levels kinds.Same) (λ e. absurd (omega arith))
other_count levels n kinds.Other few h = ne_eqb n (field_count levels kinds.Other) (λ e. absurd (omega arith))

too_long : (levels line : ℕ) (kind : Result Kind Cause) (one other : List (List ℕ)) → levels ≤ MAX_LEVELS → MOST_FIELDS ≤ length one → MOST_FIELDS ≤ length other
    → (kind >>= λ k. cond (eqb (length one) (field_count levels k)) (entry_by k line one) (Err causes.FieldCount))
    ≡ (kind >>= λ k. cond (eqb (length other) (field_count levels k)) (entry_by k line other) (Err causes.FieldCount))
too_long levels line (Err e) one other few h k = refl
too_long levels line (Ok kind) one other few h k = rw (other_count levels (length one) kind few h, other_count levels (length other) kind few k) refl

long_line : (levels line : ℕ) (word : List ℕ) (fields : List (List ℕ)) → levels ≤ MAX_LEVELS → MOST_FIELDS ≤ length (word ∷ fields)
    → entry_of levels line (take MOST_FIELDS (word ∷ fields)) ≡ entry_of levels line (word ∷ fields)
long_line levels line word fields few h =
    too_long levels line (kind_of word) (take MOST_FIELDS (word ∷ fields)) (word ∷ fields) few (omega (arith, length-take-le MOST_FIELDS (word ∷ fields) h)) h

same_entry : (levels line : ℕ) (word : List ℕ) (fields : List (List ℕ)) → levels ≤ MAX_LEVELS → entry_of levels line (take MOST_FIELDS (word ∷ fields)) ≡ entry_of levels line (word ∷ fields)
same_entry levels line word fields few = elim (cases_lt (length (word ∷ fields)) MOST_FIELDS) [
  | inl short ↦ ap (entry_of levels line) (take_all MOST_FIELDS (word ∷ fields) (omega (arith, short)))
  | inr long ↦ long_line levels line word fields few long
]

pub same_line : (contents : Contents) (line : ℕ) (fields : List (List ℕ)) → read_line contents line (take MOST_FIELDS fields) ≡ read_line contents line fields
same_line contents line [] = refl
same_line contents line (word ∷ fields) = ap (λ r. r >>= read_entry contents) (same_entry LEVELS line word fields (omega arith))
