-- Words that were read.
use Rattle.std.proofs.Common.{◌≡◌, Bool, List, [], ◌∷◌, ◌==◌, length, true, false, Option, Some, None, codes, refl, ap, ◌∙◌, sym, arith, map, drop}
use Rattle.std.specs.Prelude.{flat_map, fold, nat_le, nat_lt, option_map, is_some}
use Rattle.std.specs.List.{All, list_all}
use Rattle.std.proofs.lemmas.Bool.{false≢true}
use Rattle.std.proofs.lemmas.Bool.Decides.{nat_tests}
use Rattle.std.proofs.lemmas.List.Elements.{All-nil, All-cons, All-head, All-tail}
use Rattle.clap.proofs.WalkLemmas.{both}
use Rattle.clap.specs.Words.{Row, Text, fault_of, first_of, one_of, subcommand_of}
use Rattle.clap.specs.Walk.{finished, nothing_held, with_default}
use Rattle.fapp_text.specs.Numbers.{is_digit, is_numeral}
use Rattle.fapp_words.specs.declared.options.SolveOptions.{SolveOptions}
use Rattle.fapp_words.specs.Commands.{program}
use Rattle.fapp_words.specs.Solving.{Name, text_of, workers, fuel, split, pool, cert, Piece, apart, joined, bare, words_of, HasNumeral, AreNew, is_short_numeral, are_pieces, given, names}
use Rattle.fapp_words.specs.Options.{IsPromised, ReadsSolve, options_in, options_of}
use Rattle.fapp_words.proofs.BuiltProgram.{rules}
use Rattle.fapp_words.proofs.SolveWalk.{IsPlain, IsPlainPiece, after}
use Rattle.fapp_words.proofs.SolveRows.{row_of}
use Rattle.fapp_words.proofs.SolveFaults.{taken}
use Rattle.fapp_words.proofs.SolveLevel.{nothing_fails, is_new, found_is}
use Rattle.fapp_words.proofs.SolveValues.{value_found, flag_found, flag_text}
use Rattle.fapp_words.proofs.FormLemmas.{pieces_pass, pieces_of}

-- a numeral is no flag
pub plain_of : (v : Text) → is_short_numeral v ≡ true → IsPlain v
plain_of [] e = absurd (false≢true e)
plain_of (d ∷ ds) e =
    let numeral = (both (nat_le (length (d ∷ ds)) 10) (is_numeral (d ∷ ds)) e).1 in
    let digits = (both (nat_lt 0 (length (d ∷ ds))) (list_all is_digit (d ∷ ds)) numeral).1 in
    let first = (both (is_digit d) (list_all is_digit ds) digits).0 in
    let low = (both (nat_le 48 d) (nat_le d 57) first).0 in
    let not_minus : (d == 45) ≡ false = grind (arith, nat_tests) in
    record { dashes = rw not_minus refl; long = rw not_minus refl; short = rw not_minus refl }

plain_piece : (p : Piece) → HasNumeral p → IsPlainPiece p
plain_piece (apart name v) h = plain_of v h
plain_piece (joined name v) h = tt
plain_piece bare h = tt

plain_pieces : (ps : List Piece) → All HasNumeral ps → All IsPlainPiece ps
plain_pieces [] h = All-nil IsPlainPiece
plain_pieces (p ∷ ps) h = All-cons IsPlainPiece p ps (plain_piece p (All-head HasNumeral p ps h)) (plain_pieces ps (All-tail HasNumeral p ps h))

-- clap takes words that are promised
pub promised_taken : (words : List Text) (options : SolveOptions) → IsPromised words options → fault_of program words ≡ []
promised_taken words options is = ap (fault_of program) is.spelled ∙ nothing_fails is.pieces (plain_pieces is.pieces is.numerals) is.once

get : {X : Type 0} → Option X → X → X
get None d = d
get (Some x) d = x

pub some_same : {X : Type 0} {x y : X} → Some x ≡ Some y → x ≡ y
unfolding get
some_same {X} {x} {y} e = ap (λ o. get o x) e

pub none_some : {X : Type 0} {x : X} → None ≡ Some x → ⊥
none_some {X} {x} e = absurd (false≢true (ap is_some e))

-- what clap found has the values of the pieces
module _ (ps : List Piece) (numerals : All HasNumeral ps) (new : AreNew [] ps) where
  rows_are : (rows : List Row) → Some rows ≡ option_map (λ p. p.1) (subcommand_of program (codes "solve" ∷ flat_map words_of ps)) → rows ≡ fold with_default (map row_of ps) rules
  rows_are rows found =
      let plain = plain_pieces ps numerals in
      let here : Some rows ≡ Some (finished rules (fold after nothing_held ps)) = found ∙ ap (option_map (λ p. p.1)) (found_is ps plain) in
      some_same here ∙ ap (λ r. fold with_default r rules) (taken [] ps nothing_held plain refl refl new).2

  flag_is : (b only : Bool) → (text : Option Text) → text ≡ Some (flag_text b) → (text ≡ Some (codes "true") → only ≡ true) → (text ≡ Some (codes "false") → only ≡ false) → only ≡ b
  flag_is true only text is is_true is_false = is_true is
  flag_is false only text is is_true is_false = is_false is

  -- so the options are theirs
  settings_are : (rows : List Row) (w f s p v : Option Text) (only : Bool) →
      Some rows ≡ option_map (λ p. p.1) (subcommand_of program (codes "solve" ∷ flat_map words_of ps)) →
      w ≡ first_of (codes "workers") rows → f ≡ first_of (codes "fuel") rows → s ≡ first_of (codes "split") rows → p ≡ first_of (codes "pool") rows → v ≡ first_of (codes "cert") rows →
      (one_of (codes "answer-only") rows ≡ Some (codes "true") → only ≡ true) → (one_of (codes "answer-only") rows ≡ Some (codes "false") → only ≡ false) →
      options_in w f s p v only ≡ options_of ps
  settings_are rows w f s p v only found w_is f_is s_is p_is v_is is_true is_false =
      let are = rows_are rows found in
      let value : (name : Name) → first_of (text_of name) rows ≡ given (text_of name) ps = λ name. ap (first_of (text_of name)) are ∙ value_found name ps in
      let flag = flag_is (names (codes "answer-only") ps) only (one_of (codes "answer-only") rows) (ap (one_of (codes "answer-only")) are ∙ flag_found ps) is_true is_false in
      rw (w_is ∙ value workers, f_is ∙ value fuel, s_is ∙ value split, p_is ∙ value pool, v_is ∙ value cert, flag) refl

-- the options that were read are those that the words promise
pub options_read : (words options : List Text) (rows : List Row) (w f s p v : Option Text) (only : Bool) → words ≡ codes "solve" ∷ options → are_pieces false options ≡ true → fault_of program words ≡ [] →
    Some rows ≡ option_map (λ p. p.1) (subcommand_of program words) →
    w ≡ first_of (codes "workers") rows → f ≡ first_of (codes "fuel") rows → s ≡ first_of (codes "split") rows → p ≡ first_of (codes "pool") rows → v ≡ first_of (codes "cert") rows →
    (one_of (codes "answer-only") rows ≡ Some (codes "true") → only ≡ true) → (one_of (codes "answer-only") rows ≡ Some (codes "false") → only ≡ false) →
    ReadsSolve words (options_in w f s p v only)
options_read words options rows w f s p v only words_are form none found w_is f_is s_is p_is v_is is_true is_false =
    let pieces = pieces_of options form in
    let ps = pieces.0 in
    let spelled : words ≡ codes "solve" ∷ flat_map words_of ps = words_are ∙ ap (λ xs. codes "solve" ∷ xs) pieces.1 in
    let new = is_new ps (plain_pieces ps pieces.2) (ap (fault_of program) (sym spelled) ∙ none) in
    let theirs : (qs : List Piece) → All HasNumeral qs → AreNew [] qs → words ≡ codes "solve" ∷ flat_map words_of qs → options_in w f s p v only ≡ options_of qs =
    λ qs numerals once are. settings_are qs numerals once rows w f s p v only (found ∙ ap (λ xs. option_map (λ p. p.1) (subcommand_of program xs)) are) w_is f_is s_is p_is v_is is_true is_false in
    go ps spelled pieces.2 new theirs (options_in w f s p v only) (sym (theirs ps pieces.2 new spelled)) refl
  where
    go : (ps : List Piece) → words ≡ codes "solve" ∷ flat_map words_of ps → All HasNumeral ps → AreNew [] ps →
        ((qs : List Piece) → All HasNumeral qs → AreNew [] qs → words ≡ codes "solve" ∷ flat_map words_of qs → options_in w f s p v only ≡ options_of qs) →
        (o : Option SolveOptions) → options_of ps ≡ o → options_in w f s p v only ≡ o → ReadsSolve words o
    go ps spelled numerals new theirs (Some options) are is = record { pieces = ps; spelled = spelled; numerals = numerals; once = new; values = are }
    go ps spelled numerals new theirs None are is = λ options promised. none_some (sym is ∙ (theirs promised.pieces promised.numerals promised.once promised.spelled ∙ promised.values))

-- words that are not in their forms are not promised
pub not_formed : (words rest : List Text) (first : Text) (options : SolveOptions) → words ≡ first ∷ rest → are_pieces false rest ≡ false → IsPromised words options → ⊥
not_formed words rest first options are none promised =
    let same : rest ≡ flat_map words_of promised.pieces = ap (drop 1) (sym are ∙ promised.spelled) in
    absurd (false≢true (sym none ∙ (ap (are_pieces false) same ∙ pieces_pass promised.pieces promised.numerals)))

-- of words that are promised clap found something
pub promised_found : (words : List Text) (options : SolveOptions) → IsPromised words options → None ≡ option_map (λ p. p.1) (subcommand_of program words) → ⊥
promised_found words options promised none =
    none_some (none ∙ ap (option_map (λ p. p.1)) (ap (subcommand_of program) promised.spelled ∙ found_is promised.pieces (plain_pieces promised.pieces promised.numerals)))
