-- The values that clap finds in the words of `solve`.
use Rattle.std.proofs.Common.{◌≡◌, Bool, List, [], ◌∷◌, ◌++◌, true, false, Option, Some, None, codes, refl, ap, ◌∙◌, sym, map}
use Rattle.std.specs.Prelude.{fold, find, option_map, option_and_then, slice_get}
use Rattle.std.specs.Option.{option_or}
use Rattle.std.specs.Str.{bytes_eq}
use Rattle.std.proofs.lemmas.List.Folds.{find-append}
use Rattle.clap.specs.Words.{Row, Text, first_of, one_of}
use Rattle.clap.specs.Walk.{has_row, more_values, with_default}
use Rattle.clap.specs.declared.parser.matches.ValueSource.TheVariants.{DefaultValue}
use Rattle.std.proofs.lemmas.Bool.{false≢true}
use Rattle.clap.proofs.WalkLemmas.{find-map}
use Rattle.fapp_words.specs.Solving.{Name, text_of, workers, fuel, split, pool, cert, Piece, apart, joined, bare, key_of, value_of, names, given}
use Rattle.fapp_words.proofs.BuiltProgram.{option_rule, flag_rule, rules}
use Rattle.fapp_words.proofs.SolveRows.{row_of, has_row-names, at_row-missing, or_false}

same_default : (id : Text) (rows : List Row) → with_default rows (option_rule id) ≡ rows
same_default id rows = go (has_row id rows) refl
  where
    go : (b : Bool) → has_row id rows ≡ b → with_default rows (option_rule id) ≡ rows
    go true e = rw e refl
    go false e = rw e refl

finished_is : (rows : List Row) → fold with_default rows rules ≡ with_default rows flag_rule
finished_is rows = ap (λ r. with_default r flag_rule)
    (same_default (codes "cert") _ ∙ (same_default (codes "pool") _ ∙ (same_default (codes "split") _ ∙ (same_default (codes "fuel") _ ∙ same_default (codes "workers") rows))))

false_row : Row
false_row = (get_row (with_default [] flag_rule))
  where
    get_row : List Row → Row
    get_row [] = row_of bare
    get_row (r ∷ rs) = r

flag_not : (rows : List Row) → has_row (codes "answer-only") rows ≡ true → with_default rows flag_rule ≡ rows
flag_not rows h = rw h refl

flag_added : (rows : List Row) → has_row (codes "answer-only") rows ≡ false → with_default rows flag_rule ≡ rows ++ false_row ∷ []
unfolding false_row
flag_added rows h = rw h (at_row-missing (codes "answer-only") (more_values DefaultValue (codes "false" ∷ [])) (false_row ∷ []) rows h)

-- ---- look-ups in the rows of pieces

found_piece : (id : Text) (ps : List Piece) → find (λ r. bytes_eq r.id id) (map row_of ps) ≡ option_map row_of (find (λ p. bytes_eq (key_of p) id) ps)
found_piece id ps = sym (find-map (λ (r : Row). bytes_eq r.id id) row_of ps)

first_value_of : (o : Option Piece) → option_and_then (λ (r : Row). slice_get r.values 0) (option_map row_of o) ≡ option_map value_of o
first_value_of None = refl
first_value_of (Some p) = refl

or_none : {X : Type 0} (o : Option X) → option_or o None ≡ o
or_none None = refl
or_none (Some x) = refl

first_given : (id : Text) (ps : List Piece) → first_of id (map row_of ps) ≡ given id ps
first_given id ps = ap (option_and_then (λ (r : Row). slice_get r.values 0)) (found_piece id ps) ∙ first_value_of (find (λ p. bytes_eq (key_of p) id) ps)

not_flag : (name : Name) → find (λ r. bytes_eq r.id (text_of name)) (false_row ∷ []) ≡ None
unfolding false_row
not_flag workers = refl
not_flag fuel = refl
not_flag split = refl
not_flag pool = refl
not_flag cert = refl

-- the value of an option, with the default of the flag behind
pub value_found : (name : Name) (ps : List Piece) → first_of (text_of name) (fold with_default (map row_of ps) rules) ≡ given (text_of name) ps
value_found name ps = ap (first_of (text_of name)) (finished_is (map row_of ps)) ∙ go (has_row (codes "answer-only") (map row_of ps)) refl
  where
    go : (b : Bool) → has_row (codes "answer-only") (map row_of ps) ≡ b → first_of (text_of name) (with_default (map row_of ps) flag_rule) ≡ given (text_of name) ps
    go true e = ap (first_of (text_of name)) (flag_not (map row_of ps) e) ∙ first_given (text_of name) ps
    go false e =
        ap (first_of (text_of name)) (flag_added (map row_of ps) e)
        ∙ (ap (option_and_then (λ (r : Row). slice_get r.values 0)) (find-append (λ (r : Row). bytes_eq r.id (text_of name)) (map row_of ps) (false_row ∷ []) ∙ (ap (option_or (find (λ r. bytes_eq r.id (text_of name)) (map row_of ps))) (not_flag name) ∙ or_none _))
        ∙ first_given (text_of name) ps)

-- ---- the flag

abbrev pub flag_text : Bool → Text
flag_text true = codes "true"
flag_text false = codes "false"

flag_given : (ps : List Piece) → has_row (codes "answer-only") (map row_of ps) ≡ true → one_of (codes "answer-only") (map row_of ps) ≡ Some (codes "true")
flag_given [] h = absurd (false≢true h)
flag_given (apart workers v ∷ ps) h = flag_given ps h
flag_given (apart fuel v ∷ ps) h = flag_given ps h
flag_given (apart split v ∷ ps) h = flag_given ps h
flag_given (apart pool v ∷ ps) h = flag_given ps h
flag_given (apart cert v ∷ ps) h = flag_given ps h
flag_given (joined workers v ∷ ps) h = flag_given ps h
flag_given (joined fuel v ∷ ps) h = flag_given ps h
flag_given (joined split v ∷ ps) h = flag_given ps h
flag_given (joined pool v ∷ ps) h = flag_given ps h
flag_given (joined cert v ∷ ps) h = flag_given ps h
flag_given (bare ∷ ps) h = refl

flag_missing : (rows : List Row) → has_row (codes "answer-only") rows ≡ false → one_of (codes "answer-only") (rows ++ false_row ∷ []) ≡ Some (codes "false")
unfolding false_row
flag_missing [] h = refl
flag_missing (r ∷ rs) h = let parts = or_false (bytes_eq r.id (codes "answer-only")) (has_row (codes "answer-only") rs) h in rw parts.0 (flag_missing rs parts.1)

pub flag_found : (ps : List Piece) → one_of (codes "answer-only") (fold with_default (map row_of ps) rules) ≡ Some (flag_text (names (codes "answer-only") ps))
flag_found ps = ap (one_of (codes "answer-only")) (finished_is (map row_of ps)) ∙ (go (has_row (codes "answer-only") (map row_of ps)) refl ∙ ap (λ b. Some (flag_text b)) (has_row-names (codes "answer-only") ps))
  where
    go : (b : Bool) → has_row (codes "answer-only") (map row_of ps) ≡ b → one_of (codes "answer-only") (with_default (map row_of ps) flag_rule) ≡ Some (flag_text (has_row (codes "answer-only") (map row_of ps)))
    go true e = ap (one_of (codes "answer-only")) (flag_not (map row_of ps) e) ∙ (flag_given ps e ∙ ap (λ b. Some (flag_text b)) (sym e))
    go false e = ap (one_of (codes "answer-only")) (flag_added (map row_of ps) e) ∙ (flag_missing (map row_of ps) e ∙ ap (λ b. Some (flag_text b)) (sym e))
