-- The words of `check` that were read.
use Rattle.std.proofs.Common.{◌≡◌, List, [], ◌∷◌, ◌++◌, length, drop, true, false, Option, Some, None, codes, refl, ap, ◌∙◌, sym, subst, arith}
use Rattle.std.specs.Prelude.{flat_map, option_map}
use Rattle.std.specs.List.{All}
use Rattle.std.specs.Str.{bytes_eq}
use Rattle.std.proofs.lemmas.Bool.{false≢true}
use Rattle.std.proofs.lemmas.List.Elements.{All-nil, All-cons, All-head, All-tail}
use Rattle.clap.proofs.WalkLemmas.{both}
use Rattle.clap.specs.Words.{Row, Text, fault_of, first_of, subcommand_of}
use Rattle.fapp_words.specs.declared.options.CheckOptions.{CheckOptions}
use Rattle.fapp_words.specs.Commands.{program}
use Rattle.fapp_words.specs.Solving.{text_of, workers, fuel, split, pool, cert, Piece, apart, joined, bare, words_of, key_of, HasNumeral, AreNew, given, is_short_numeral, is_at_most_workers}
use Rattle.fapp_words.specs.Options.{IsCheck, ReadsCheck, check_in}
use Rattle.fapp_words.proofs.FormLemmas.{bytes_same, cut_by, workers_pass}
use Rattle.fapp_words.proofs.ReadingLemmas.{none_some, plain_of, some_same}
use Rattle.fapp_words.proofs.CheckLevel.{alone_taken, alone_found, apart_taken, apart_found, joined_taken, joined_found}

abbrev AreWorkers : List Piece → Type 0
AreWorkers ps = All (λ p. key_of p ≡ text_of workers) ps

-- the option `workers`, each once: there is one at most
module _ (P : List Piece → Type 0) (none : P []) (in_two : (v : Text) → is_short_numeral v ≡ true → P (apart workers v ∷ [])) (in_one : (v : Text) → is_short_numeral v ≡ true → P (joined workers v ∷ [])) where
  one : (p : Piece) → key_of p ≡ text_of workers → HasNumeral p → P (p ∷ [])
  one (apart workers v) key form = in_two v form
  one (apart fuel v) key form = absurd (omega (arith, ap length key))
  one (apart split v) key form = absurd (omega (arith, ap length key))
  one (apart pool v) key form = absurd (omega (arith, ap length key))
  one (apart cert v) key form = absurd (omega (arith, ap length key))
  one (joined workers v) key form = in_one v form
  one (joined fuel v) key form = absurd (omega (arith, ap length key))
  one (joined split v) key form = absurd (omega (arith, ap length key))
  one (joined pool v) key form = absurd (omega (arith, ap length key))
  one (joined cert v) key form = absurd (omega (arith, ap length key))
  one bare key form = absurd (omega (arith, ap length key))

  at_most_one : (ps : List Piece) → AreWorkers ps → All HasNumeral ps → AreNew [] ps → P ps
  at_most_one [] alone forms new = none
  at_most_one (p ∷ []) alone forms new = one p (All-head (λ p. key_of p ≡ text_of workers) p [] alone) (All-head HasNumeral p [] forms)
  at_most_one (p ∷ q ∷ ps) alone forms new =
      let first = All-head (λ p. key_of p ≡ text_of workers) p (q ∷ ps) alone in
      let second = All-head (λ p. key_of p ≡ text_of workers) q ps (All-tail (λ p. key_of p ≡ text_of workers) p (q ∷ ps) alone) in
      absurd (false≢true (sym (rw (first, second) at new.1.0)))

-- ---- clap takes them, and finds the number

abbrev IsTaken : List Piece → Type 0
IsTaken ps = fault_of program (codes "check" ∷ flat_map words_of ps) ≡ []

abbrev IsFound : List Piece → Type 0
IsFound ps = (rows : List Row) × (subcommand_of program (codes "check" ∷ flat_map words_of ps) ≡ Some (codes "check", rows)) × (first_of (codes "workers") rows ≡ given (text_of workers) ps)

pub check_taken : (words : List Text) (options : CheckOptions) → IsCheck words options → fault_of program words ≡ []
check_taken words options is = ap (fault_of program) is.spelled ∙ at_most_one IsTaken alone_taken (λ v form. apart_taken v (plain_of v form)) (λ v form. joined_taken v) is.pieces is.alone is.numerals is.once

are_found : (ps : List Piece) → AreWorkers ps → All HasNumeral ps → AreNew [] ps → IsFound ps
are_found = at_most_one IsFound alone_found (λ v form. apart_found v (plain_of v form)) (λ v form. joined_found v)

-- of words that are promised clap found something
pub check_found : (words : List Text) (options : CheckOptions) → IsCheck words options → None ≡ option_map (λ p. p.1) (subcommand_of program words) → ⊥
check_found words options is nothing =
    none_some (nothing ∙ ap (option_map (λ p. p.1)) (ap (subcommand_of program) is.spelled ∙ (are_found is.pieces is.alone is.numerals is.once).1))

-- ---- forms

abbrev IsFormed : List Piece → Type 0
IsFormed ps = is_at_most_workers (flat_map words_of ps) ≡ true

-- words that are not in their form are not promised
pub not_workers : (words rest : List Text) (first : Text) (options : CheckOptions) → words ≡ first ∷ rest → is_at_most_workers rest ≡ false → IsCheck words options → ⊥
not_workers words rest first options are none is =
    let same : rest ≡ flat_map words_of is.pieces = ap (drop 1) (sym are ∙ is.spelled) in
    absurd (false≢true (sym none ∙ (ap is_at_most_workers same ∙ at_most_one IsFormed refl (λ v form. form) workers_pass is.pieces is.alone is.numerals is.once)))

-- the words are some pieces, the option `workers` at most once
abbrev AreChecked : List Text → Type 0
AreChecked words = (ps : List Piece) × (words ≡ flat_map words_of ps) × AreWorkers ps × All HasNumeral ps × AreNew [] ps

single : (p : Piece) → key_of p ≡ text_of workers → HasNumeral p → AreChecked (words_of p ++ [])
single p key form = (p ∷ [], refl, All-cons (λ p. key_of p ≡ text_of workers) p [] key (All-nil (λ p. key_of p ≡ text_of workers)), All-cons HasNumeral p [] form (All-nil HasNumeral), (refl, tt))

workers_of : (words : List Text) → is_at_most_workers words ≡ true → AreChecked words
workers_of [] e = ([], refl, All-nil (λ p. key_of p ≡ text_of workers), All-nil HasNumeral, tt)
workers_of (word ∷ []) e =
    let cut = cut_by (λ a. bytes_eq a (codes "--workers")) word e in
    let is : word ≡ codes "--workers=" ++ cut.1 = cut.2 ∙ ap (λ a. a ++ 61 ∷ cut.1) (bytes_same cut.0 (codes "--workers") cut.3) in
    subst (λ w. AreChecked (w ∷ [])) (sym is) (single (joined workers cut.1) refl cut.4)
workers_of (name ∷ value ∷ []) e =
    let parts = both (bytes_eq name (codes "--workers")) (is_short_numeral value) e in
    subst (λ w. AreChecked (w ∷ value ∷ [])) (sym (bytes_same name (codes "--workers") parts.0)) (single (apart workers value) refl parts.1)
workers_of (word ∷ name ∷ value ∷ rest) e = absurd (false≢true e)

-- ---- the options that were read

module _ (words : List Text) (rows : List Row) (w : Option Text) (found : Some rows ≡ option_map (λ p. p.1) (subcommand_of program words)) (w_is : w ≡ first_of (codes "workers") rows) where
  number_is : (ps : List Piece) → words ≡ codes "check" ∷ flat_map words_of ps → AreWorkers ps → All HasNumeral ps → AreNew [] ps → check_in w ≡ check_in (given (text_of workers) ps)
  number_is ps spelled alone forms new =
      let there = are_found ps alone forms new in
      let same : rows ≡ there.0 = some_same (found ∙ ap (option_map (λ p. p.1)) (ap (subcommand_of program) spelled ∙ there.1)) in
      ap check_in (w_is ∙ (ap (first_of (codes "workers")) same ∙ there.2))

  judged : (ps : List Piece) → words ≡ codes "check" ∷ flat_map words_of ps → AreWorkers ps → All HasNumeral ps → AreNew [] ps → (o : Option CheckOptions) → check_in w ≡ o → ReadsCheck words o
  judged ps spelled alone forms new (Some options) are = record { pieces = ps; spelled = spelled; alone = alone; numerals = forms; once = new; values = sym (number_is ps spelled alone forms new) ∙ are }
  judged ps spelled alone forms new None are = λ options is. none_some (sym are ∙ (number_is is.pieces is.spelled is.alone is.numerals is.once ∙ is.values))

  -- the options that were read are those that the words promise
  pub check_read : (rest : List Text) → words ≡ codes "check" ∷ rest → is_at_most_workers rest ≡ true → ReadsCheck words (check_in w)
  check_read rest are form =
      let is = workers_of rest form in
      judged is.0 (are ∙ ap (λ xs. codes "check" ∷ xs) is.1) is.2 is.3 is.4 (check_in w) refl
