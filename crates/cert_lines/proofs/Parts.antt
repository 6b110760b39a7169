-- The next line of a text.
use Rattle.std.proofs.Common.{◌≡◌, ℕ, ◌+◌, ◌-◌, Bool, true, false, cond, eqb, List, [], ◌∷◌, length, take, drop, Some, None, Ok, Err, refl, ap, ◌∙◌}
use Rattle.std.specs.List.{position, onto_first}
use Rattle.cert_lines.specs.declared.fault.CertCause.TheVariants.{NoEnd, AfterEnd}
use Rattle.fapp_text.specs.Lines.{is_line_feed}
use Rattle.fapp_text.specs.Reading.{fault}
use Rattle.cert_lines.specs.FieldReading.{fields_of}
use Rattle.cert_lines.specs.Reading.{Rest, parts_of, next_line, finished}
use Rattle.cert_lines.proofs.Splits.{split_some, split_none}

-- a text has a first part
abbrev pub HasFirst : List (List ℕ) → Type 0
HasFirst parts = (line : List ℕ) × (more : List (List ℕ)) × (parts ≡ line ∷ more)

onto_has_first : (b : ℕ) (parts : List (List ℕ)) → HasFirst (onto_first b parts)
onto_has_first b [] = (b ∷ [], [], refl)
onto_has_first b (part ∷ parts) = (b ∷ part, parts, refl)

cond_has_first : (test : Bool) (b : ℕ) (parts : List (List ℕ)) → HasFirst (cond test ([] ∷ parts) (onto_first b parts))
cond_has_first true b parts = ([], parts, refl)
cond_has_first false b parts = onto_has_first b parts

pub has_first : (bytes : List ℕ) → HasFirst (parts_of bytes)
has_first [] = ([], [], refl)
has_first (b ∷ bytes) = cond_has_first (is_line_feed b) b (parts_of bytes)

pub next_ended : (number : ℕ) (line : List ℕ) (parts : List (List ℕ)) → HasFirst parts → next_line (number, line ∷ parts) ≡ Ok (fields_of line, (number + 1, parts))
unfolding next_line
next_ended number line [] h = absurd cc
next_ended number line (next ∷ parts) h = refl

at_number : ℕ → List (List ℕ) → Rest
at_number number parts = (number, parts)

pub next_some : (number : ℕ) (bytes : List ℕ) (end : ℕ) → position is_line_feed bytes ≡ Some end → next_line (number, parts_of bytes) ≡ Ok (fields_of (take end bytes), (number + 1, parts_of (take (length bytes - (end + 1)) (drop (end + 1) bytes))))
unfolding at_number
next_some number bytes end e =
    let after = take (length bytes - (end + 1)) (drop (end + 1) bytes) in
    ap (λ (parts : List (List ℕ)). next_line (at_number number parts)) (split_some is_line_feed bytes end e) ∙ next_ended number (take end bytes) (parts_of after) (has_first after)

pub next_none : (number : ℕ) (bytes : List ℕ) → position is_line_feed bytes ≡ None → next_line (number, parts_of bytes) ≡ Err (fault number NoEnd)
unfolding next_line at_number
next_none number bytes e = ap (λ (parts : List (List ℕ)). next_line (at_number number parts)) (split_none is_line_feed bytes e)

onto_not_finished : (number b : ℕ) (parts : List (List ℕ)) → finished (number, onto_first b parts) ≡ Err (fault number AfterEnd)
onto_not_finished number b [] = refl
onto_not_finished number b (part ∷ parts) = refl

cut_not_finished : (number : ℕ) (parts : List (List ℕ)) → HasFirst parts → finished (number, [] ∷ parts) ≡ Err (fault number AfterEnd)
cut_not_finished number [] h = absurd cc
cut_not_finished number (part ∷ parts) h = refl

cond_not_finished : (number : ℕ) (test : Bool) (b : ℕ) (parts : List (List ℕ)) → HasFirst parts → finished (number, cond test ([] ∷ parts) (onto_first b parts)) ≡ Err (fault number AfterEnd)
cond_not_finished number true b parts h = cut_not_finished number parts h
cond_not_finished number false b parts h = onto_not_finished number b parts

pub not_finished : (number : ℕ) (bytes : List ℕ) → eqb (length bytes) 0 ≡ false → finished (number, parts_of bytes) ≡ Err (fault number AfterEnd)
not_finished number [] e = absurd cc
not_finished number (b ∷ bytes) e = cond_not_finished number (is_line_feed b) b (parts_of bytes) (has_first bytes)
