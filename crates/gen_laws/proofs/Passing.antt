-- Lines that a reader passes, one after the other, from contents of one kind to contents of another.
use Rattle.std.proofs.Common.{◌≡◌, ℕ, suc, ◌+◌, List, [], ◌∷◌, ◌++◌, length, map, Option, None, Result, Ok, refl, ap, ◌∙◌, arith}
use Rattle.std.specs.List.{AllByRecursion}
use Rattle.std.proofs.lemmas.List.{map-append}
use Rattle.fapp_model.specs.declared.level.TheConstants.{LEVELS}
use Rattle.fapp_text.specs.declared.failure.LineFault.{LineFault}
use Rattle.fapp_text.specs.Reading.{◌>>=◌, unless, at_line}
use Rattle.fapp_text.proofs.ReadingSteps.{bind_ok, ok_is}
use Rattle.record_reader.specs.declared.cause.Cause.{Cause}
use Rattle.record_reader.specs.declared.entry.Entry.{Entry}
use Rattle.record_reader.specs.Contents.{Contents}
use Rattle.record_reader.specs.Fields.{fields_of}
use Rattle.record_reader.specs.Entries.{entry_of}
use Rattle.record_reader.specs.LineReading.{entry_refusal, with_entry, read_line, read_lines}
use Rattle.cert_lines.proofs.Plain.{all_append}
use Rattle.gen_laws.proofs.Cutting.{joined, IsLine, fields_again}

-- the lines stand whole in a text, and a reader that had the first kind of contents then has the other
pub record Passes (Before : Contents → Type 0) (ls : List (List (List ℕ))) (After : Contents → Type 0) : Type 0 where
  pub whole : AllByRecursion IsLine ls
  pub reads : (before : Contents) (line : ℕ) → Before before → (after : Contents) × (read_lines before line (map joined ls) ≡ Ok after) × After after

read_behind : (before after : Contents) (line : ℕ) (xs ys : List (List ℕ)) → read_lines before line xs ≡ Ok after → read_lines before line (xs ++ ys) ≡ read_lines after (line + length xs) ys
read_behind before after line [] ys h =
    let same : before ≡ after = ok_is {E = LineFault Cause} before after h in
    let first : line ≡ line + 0 = omega arith in
    ap (λ (c : Contents). read_lines c line ys) same ∙ ap (λ (n : ℕ). read_lines after n ys) first
read_behind before after line (text ∷ xs) ys h =
    let one = bind_ok (at_line line (read_line before line (fields_of text))) (λ next. read_lines next (line + 1) xs) after h in
    let further : line + 1 + length xs ≡ line + suc (length xs) = omega arith in
    ap (λ (r : Result Contents (LineFault Cause)). r >>= λ next. read_lines next (line + 1) (xs ++ ys)) one.1
    ∙ read_behind one.0 after (line + 1) xs ys one.2
    ∙ ap (λ (n : ℕ). read_lines after n ys) further

pub passes_none : (P : Contents → Type 0) → Passes P [] P
passes_none P = record { whole = tt; reads = λ before line p. (before, refl, p) }

pub passes_both : (P Q R : Contents → Type 0) (xs ys : List (List (List ℕ))) → Passes P xs Q → Passes Q ys R → Passes P (xs ++ ys) R
passes_both P Q R xs ys one two = record {
  whole = all_append IsLine xs ys one.whole two.whole;
  reads = λ before line p.
      let first = one.reads before line p in
      let next = two.reads first.0 (line + length (map joined xs)) first.2 in
      (next.0, ap (read_lines before line) (map-append joined xs ys) ∙ read_behind before first.0 line (map joined xs) (map joined ys) first.1 ∙ next.1, next.2);
}

-- a line that says an entry
pub passes_one : (P Q : Contents → Type 0) (word : List ℕ) (fields : List (List ℕ)) (entry : ℕ → Entry) → IsLine (word ∷ fields)
    → ((line : ℕ) → entry_of LEVELS line (word ∷ fields) ≡ Ok (entry line))
    → ((before : Contents) (line : ℕ) → P before → (entry_refusal before (entry line) ≡ None) × Q (with_entry before (entry line)))
    → Passes P ((word ∷ fields) ∷ []) Q
passes_one P Q word fields entry whole says fits = record {
  whole = (whole, tt);
  reads = λ before line p.
      let fit = fits before line p in
      let after : Contents = with_entry before (entry line) in (
        after,
        ap (λ (fs : List (List ℕ)). at_line line (read_line before line fs) >>= λ next. read_lines next (line + 1) []) (fields_again word fields whole.0)
            ∙ ap (λ (r : Result Entry Cause). at_line line (r >>= λ e. unless (entry_refusal before e) (with_entry before e)) >>= λ next. read_lines next (line + 1) []) (says line)
            ∙ ap (λ (o : Option Cause). at_line line (unless o after) >>= λ next. read_lines next (line + 1) []) fit.0,
        fit.1,
      );
}

-- from contents of a narrower kind
pub passes_from : (N P Q : Contents → Type 0) (ls : List (List (List ℕ))) → ((c : Contents) → N c → P c) → Passes P ls Q → Passes N ls Q
passes_from N P Q ls narrow one = record { whole = one.whole; reads = λ before line n. one.reads before line (narrow before n) }
