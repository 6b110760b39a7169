-- Laws of texts and their instances.
use Rattle.std.proofs.Common.{◌≡◌, ◌≢◌, ℕ, ◌+◌, ◌-◌, Bool, true, false, cond, ◌||◌, ◌&&◌, eqb, ltb, List, [], ◌∷◌, ◌++◌, length, get_or, take, Err, refl, sym, ap, ◌∙◌, arith, inl, inr, ◌⊎◌}
use Rattle.std.specs.List.{fold, list_any, onto_first}
use Rattle.std.proofs.lemmas.Bool.{ne_eqb}
use Rattle.std.proofs.lemmas.List.{length_push}
use Rattle.std.proofs.Math.Seq.{get_or-append_seam, take-append_seam}
use Rattle.fapp_text.specs.Lines.{line_feed, lines}
use Rattle.fapp_text.specs.Fields.{fields}
use Rattle.fapp_text.specs.declared.failure.LineFault.{LineFault}
use Rattle.record_reader.specs.declared.cause.Cause.{Cause}
use Rattle.record_reader.specs.declared.entry.DomainEntry.{DomainEntry}
use Rattle.record_reader.specs.Contents.{Contents, no_contents}
use Rattle.fapp_text.specs.Reading.{◌>>=◌, at_line}
use Rattle.record_reader.specs.Fields.{carriage_return, without_return, fields_of}
use Rattle.record_reader.specs.Instances.{put, put_entry, frequencies}
use Rattle.record_reader.specs.Texts.{instance_of_contents, instance_of_lines}
use Rattle.record_reader.specs.TextLaws.{OneInstance, ValidInstance, FirstRefusal, LinkRefusal, LineFeedMore, CarriageReturnMore, Ascending, OwnFrequencies}
use Rattle.fapp_text.proofs.ReadingSteps.{bind_ok, bind_err, bind_same}
use Rattle.record_reader.proofs.ValidContents.{lines_valid, nothing_valid}
use Rattle.record_reader.proofs.ValidTexts.{links_valid}
use Rattle.record_reader.proofs.Ascents.{ascends}
use Rattle.record_reader.specs.LineReading.{read_line, read_lines}

pub one_instance : OneInstance
one_instance text one other h k = cc

pub valid_text : ValidInstance
valid_text text instance h =
    let read = bind_ok (read_lines no_contents 1 (lines text)) instance_of_contents instance h in
    let valid = lines_valid no_contents read.0 1 (lines text) nothing_valid read.1 in
    links_valid (frequencies read.0.domains) read.0.links instance valid.domains valid.links read.2

-- ---- refusals

more_lines : (contents : Contents) (line : ℕ) (texts more : List (List ℕ)) (bad : LineFault Cause) → read_lines contents line texts ≡ Err bad → read_lines contents line (texts ++ more) ≡ Err bad
more_lines contents line [] more bad h = absurd cc
more_lines contents line (text ∷ texts) more bad h =
    bind_err (at_line line (read_line contents line (fields_of text))) (λ next. read_lines next (line + 1) texts) (λ next. read_lines next (line + 1) (texts ++ more)) bad
    (λ next k. more_lines next (line + 1) texts more bad k) h

pub first_refusal : FirstRefusal
first_refusal texts more bad h = rw (more_lines no_contents 1 texts more bad h) refl

pub link_refusals : LinkRefusal
link_refusals texts contents h = rw h refl

-- ---- ends of lines

onto_step : (b : ℕ) (ls all : List (List ℕ)) → all ≡ ls ++ [] ∷ [] → (onto_first b all ≡ onto_first b ls) ⊎ (onto_first b all ≡ onto_first b ls ++ [] ∷ [])
onto_step b [] all e = inl (ap (onto_first b) e)
onto_step b (l ∷ ls) all e = inr (ap (onto_first b) e)

feed_step : (b : ℕ) (text : List ℕ) (ends : Bool) (all : List (List ℕ)) → (all ≡ lines text) ⊎ (all ≡ lines text ++ [] ∷ [])
    → (cond ends ([] ∷ all) (onto_first b all) ≡ cond ends ([] ∷ lines text) (onto_first b (lines text)))
    ⊎ (cond ends ([] ∷ all) (onto_first b all) ≡ cond ends ([] ∷ lines text) (onto_first b (lines text)) ++ [] ∷ [])
feed_step b text true all h = elim h [ inl e ↦ inl (ap (λ ls. [] ∷ ls) e) | inr e ↦ inr (ap (λ ls. [] ∷ ls) e) ]
feed_step b text false all h = elim h [ inl e ↦ inl (ap (onto_first b) e) | inr e ↦ onto_step b (lines text) all e ]

lines_feed : (text : List ℕ) → (lines (text ++ line_feed ∷ []) ≡ lines text) ⊎ (lines (text ++ line_feed ∷ []) ≡ lines text ++ [] ∷ [])
lines_feed [] = inr refl
lines_feed (b ∷ text) = feed_step b text (eqb b line_feed) (lines (text ++ line_feed ∷ [])) (lines_feed text)

empty_line : (contents : Contents) (line : ℕ) (texts : List (List ℕ)) → read_lines contents line (texts ++ [] ∷ []) ≡ read_lines contents line texts
empty_line contents line [] = refl
empty_line contents line (text ∷ texts) =
    bind_same (at_line line (read_line contents line (fields_of text))) (λ next. read_lines next (line + 1) (texts ++ [] ∷ [])) (λ next. read_lines next (line + 1) texts)
    (λ next. empty_line next (line + 1) texts)

pub line_feed_more : LineFeedMore
line_feed_more text = elim (lines_feed text) [
  | inl e ↦ ap instance_of_lines e
  | inr e ↦ ap instance_of_lines e ∙ ap (λ r. r >>= instance_of_contents) (empty_line no_contents 1 (lines text))
]

off_end : (line : List ℕ) (last : ℕ) → length (line ++ last ∷ []) - 1 ≡ length line
off_end line last = omega (arith, length_push line last)

return_off : (line : List ℕ) → without_return (line ++ carriage_return ∷ []) ≡ line
return_off line = rw (off_end line carriage_return, get_or-append_seam line carriage_return [] 0) (take-append_seam line (carriage_return ∷ []))

kept_line : (line : List ℕ) (last : Bool) → last ≡ false → cond last (take (length line - 1) line) line ≡ line
kept_line line true e = absurd cc
kept_line line false e = refl

no_return : (line : List ℕ) → get_or line (length line - 1) 0 ≢ carriage_return → without_return line ≡ line
no_return line h = kept_line line (eqb (get_or line (length line - 1) 0) carriage_return) (ne_eqb (get_or line (length line - 1) 0) carriage_return h)

same_fields : (line : List ℕ) → get_or line (length line - 1) 0 ≢ carriage_return → fields_of (line ++ carriage_return ∷ []) ≡ fields_of line
same_fields line h = ap fields (return_off line ∙ sym (no_return line h))

same_lines : (one other : List ℕ) (after : List (List ℕ)) → fields_of one ≡ fields_of other → (contents : Contents) (line : ℕ) (before : List (List ℕ)) → read_lines contents line (before ++ one ∷ after) ≡ read_lines contents line (before ++ other ∷ after)
same_lines one other after e contents line [] = ap (λ fs. at_line line (read_line contents line fs) >>= λ next. read_lines next (line + 1) after) e
same_lines one other after e contents line (text ∷ before) =
    bind_same (at_line line (read_line contents line (fields_of text))) (λ next. read_lines next (line + 1) (before ++ one ∷ after)) (λ next. read_lines next (line + 1) (before ++ other ∷ after))
    (λ next. same_lines one other after e next (line + 1) before)

pub carriage_return_more : CarriageReturnMore
carriage_return_more before after line h = ap (λ r. r >>= instance_of_contents) (same_lines (line ++ carriage_return ∷ []) line after (same_fields line h) no_contents 1 before)

-- ---- frequencies

pub ascending : Ascending
ascending entries domain = ascends entries domain

abbrev has : ℕ → List ℕ → Bool
has f xs = list_any (λ g. eqb g f) xs

or_swap : (a b c : Bool) → a || (b || c) ≡ b || (a || c)
or_swap true true c = refl
or_swap true false c = refl
or_swap false true c = refl
or_swap false false c = refl

or_twice : (a b : Bool) → a || b ≡ a || (a || b)
or_twice true b = refl
or_twice false b = refl

has_step : (n m f : ℕ) (rest : List ℕ) (less same : Bool) → eqb n m ≡ same → has f (put n rest) ≡ eqb n f || has f rest
    → has f (cond less (n ∷ m ∷ rest) (cond same (m ∷ rest) (m ∷ put n rest))) ≡ eqb n f || (eqb m f || has f rest)
has_step n m f rest true same e later = refl
has_step n m f rest false true e later = let at : n ≡ m = grind arith in rw at (or_twice (eqb m f) (has f rest))
has_step n m f rest false false e later = rw later (or_swap (eqb m f) (eqb n f) (has f rest))

has_put : (n f : ℕ) (xs : List ℕ) → has f (put n xs) ≡ eqb n f || has f xs
has_put n f [] = refl
has_put n f (m ∷ rest) = has_step n m f rest (ltb n m) (eqb n m) refl (has_put n f rest)

or_move : (a b c : Bool) → (a || b) || c ≡ b || (a || c)
or_move true true c = refl
or_move true false c = refl
or_move false true c = refl
or_move false false c = refl

own_step : (acc : List ℕ) (entry : DomainEntry) (f : ℕ) (later same : Bool) → has f (cond same (put entry.frequency acc) acc) || later ≡ has f acc || ((same && eqb entry.frequency f) || later)
own_step acc entry f later true = rw (has_put entry.frequency f acc) (or_move (eqb entry.frequency f) (has f acc) later)
own_step acc entry f later false = refl

or_none : (b : Bool) → b ≡ b || false
or_none true = refl
or_none false = refl

own_from : (domain f : ℕ) (entries : List DomainEntry) (acc : List ℕ) → has f (fold (put_entry domain) acc entries) ≡ has f acc || list_any (λ entry. eqb entry.domain domain && eqb entry.frequency f) entries
own_from domain f [] acc = or_none (has f acc)
own_from domain f (entry ∷ entries) acc = own_from domain f entries (put_entry domain acc entry) ∙ own_step acc entry f (list_any (λ r. eqb r.domain domain && eqb r.frequency f) entries) (eqb entry.domain domain)

pub own_frequencies : OwnFrequencies
own_frequencies entries domain frequency = own_from domain frequency entries []
