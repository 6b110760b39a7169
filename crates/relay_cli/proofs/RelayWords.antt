-- Whether the plan alone is asked for is told by the words, so words that are promised are so in one way.
use Rattle.std.proofs.Common.{◌≡◌, ℕ, Bool, true, false, List, [], ◌∷◌, ◌++◌, ◌||◌, drop, map, codes, Option, Some, None, refl, ap, ap₂, sym, ◌∙◌, cond, arith}
use Rattle.std.specs.Prelude.{IfSome, flat_map, option_and_then, unwrap_or, String, string_bytes, get_or}
use Rattle.std.specs.Global.{Global}
use Rattle.std.specs.List.{All, AllZip, list_any}
use Rattle.std.specs.Str.{bytes_eq}
use Rattle.std.proofs.lemmas.Bool.{false≢true}
use Rattle.std.proofs.lemmas.List.Elements.{All-head, All-tail}
use Rattle.std.proofs.lemmas.List.Folds.{list_any-append}
use Rattle.std.proofs.lemmas.Slice.Eq.{bytes_eq-Decides}
use Rattle.clap.specs.Words.{Text}
use Rattle.fapp_words.specs.declared.options.SolveOptions.{SolveOptions}
use Rattle.fapp_words.specs.declared.request.Request.{Request}
use Rattle.fapp_words.specs.declared.request.Request.TheVariants.{Solve, Check, Gen, Demo}
use Rattle.fapp_words.specs.Solving.{Name, text_of, workers, fuel, split, pool, cert, Piece, apart, joined, bare, words_of, key_of, HasNumeral, is_short_numeral, is_bare, names, given}
use Rattle.fapp_words.specs.Options.{IsPromised, ranged}
use Rattle.fapp_words.specs.Promises.{ArePromised, ReadsWords}
use Rattle.fapp_run.specs.Answers.{AreOptions}
use Rattle.fapp_run.proofs.Asked.{asked-in}
use Rattle.relay_cli.specs.Words.{ReadsRelay, whole_options}

-- ---- the word that asks for the plan alone

key_differs : (name : Name) → bytes_eq (text_of name) (codes "answer-only") ≡ false
key_differs workers = refl
key_differs fuel = refl
key_differs split = refl
key_differs pool = refl
key_differs cert = refl

apart_differs : (name : Name) → is_bare (codes "--" ++ text_of name) ≡ false
apart_differs workers = refl
apart_differs fuel = refl
apart_differs split = refl
apart_differs pool = refl
apart_differs cert = refl

joined_differs : (name : Name) (value : Text) → is_bare (codes "--" ++ (text_of name ++ (codes "=" ++ value))) ≡ false
joined_differs workers value = refl
joined_differs fuel value = refl
joined_differs split value = refl
joined_differs pool value = refl
joined_differs cert value = refl

numeral_differs : (value : Text) → is_short_numeral value ≡ true → is_bare value ≡ false
numeral_differs value h = by_case (is_bare value) refl
  where
    by_case : (b : Bool) → is_bare value ≡ b → b ≡ false
    by_case false e = refl
    by_case true e =
        let same : value ≡ codes "--answer-only" = (bytes_eq-Decides value (codes "--answer-only")).0 e in
        absurd (false≢true (ap is_short_numeral (sym same) ∙ h))

piece_tells : (piece : Piece) → HasNumeral piece → list_any is_bare (words_of piece) ≡ bytes_eq (key_of piece) (codes "answer-only")
piece_tells (apart name value) h = ap₂ (λ a b. a || (b || false)) (apart_differs name) (numeral_differs value h) ∙ sym (key_differs name)
piece_tells (joined name value) h = ap (λ a. a || false) (joined_differs name value) ∙ sym (key_differs name)
piece_tells bare h = refl

names_told : (pieces : List Piece) → All HasNumeral pieces → list_any is_bare (flat_map words_of pieces) ≡ names (codes "answer-only") pieces
names_told [] h = refl
names_told (piece ∷ more) h =
    list_any-append is_bare (words_of piece) (flat_map words_of more)
    ∙ ap₂ (λ a b. a || b) (piece_tells piece (All-head HasNumeral piece more h)) (names_told more (All-tail HasNumeral piece more h))

-- ---- the options that words name

only_is : (w f s p v : Option (Option ℕ)) (only : Bool) (options : SolveOptions) →
    option_and_then (λ w'. option_and_then (λ f'. option_and_then (λ s'. option_and_then (λ p'. option_and_then (λ v'. Some (record { workers = unwrap_or w' 4; fuel = f'; split = unwrap_or s' 64; pool = unwrap_or p' 4096; cert = unwrap_or v' 1; answer_only = only })) v) p) s) f) w ≡ Some options
    → options.answer_only ≡ only
only_is None f s p v only options e = absurd (cc)
only_is (Some w) None s p v only options e = absurd (cc)
only_is (Some w) (Some f) None p v only options e = absurd (cc)
only_is (Some w) (Some f) (Some s) None v only options e = absurd (cc)
only_is (Some w) (Some f) (Some s) (Some p) None only options e = absurd (cc)
only_is (Some w) (Some f) (Some s) (Some p) (Some v) only options e = ap only_or (sym e)
  where
    only_or : Option SolveOptions → Bool
    only_or (Some o) = o.answer_only
    only_or None = false

only_told : (words : List Text) (options : SolveOptions) → IsPromised (codes "solve" ∷ words) options → options.answer_only ≡ list_any is_bare words
only_told words options h =
    let value : Name → Option Text = λ name. given (text_of name) h.pieces in
    only_is (ranged 1 32 (value workers)) (ranged 0 1000000 (value fuel)) (ranged 1 4096 (value split)) (ranged 0 65536 (value pool)) (ranged 1 2 (value cert)) (names (codes "answer-only") h.pieces) options h.values
    ∙ (sym (names_told h.pieces h.numerals) ∙ ap (λ ws. list_any is_bare (drop 1 ws)) (sym h.spelled))

abbrev first_letter : List Text → ℕ
first_letter words = get_or (get_or words 0 []) 0 0

solve_read : (words : List Text) (options : SolveOptions) → IsPromised (codes "solve" ∷ words) options → ReadsRelay words (whole_options (Solve options))
solve_read words options h = by_flag options.answer_only refl
  where
    by_flag : (only : Bool) → options.answer_only ≡ only → ReadsRelay words (cond only None (Some options))
    by_flag false e = (h, e)
    by_flag true e = λ other named. false≢true (sym named.1 ∙ (only_told words other named.0 ∙ (sym (only_told words options h) ∙ e)))

request_read : (words : List Text) (request : Request) → ArePromised (codes "solve" ∷ words) request → ReadsRelay words (whole_options request)
request_read words (Solve options) h = solve_read words options h
request_read words (Check options) h = absurd (let e = ap first_letter h.spelled in omega arith)
request_read words (Gen seed) h = absurd (let e = ap first_letter h.spelled in omega arith)
request_read words (Demo seed) h = absurd (let e = ap first_letter h.spelled in omega arith)

-- what the whole words ask for tells what these ask for
pub relay_read : (words : List Text) (asked : Option Request) → ReadsWords (codes "solve" ∷ words) asked → ReadsRelay words (option_and_then whole_options asked)
relay_read words None reads = λ other named. reads (Solve other) named.0
relay_read words (Some request) reads = request_read words request reads

-- copies of words have the same letters
pub same_letters : (words copies : List (String Global)) → AllZip (λ s t. string_bytes t ≡ string_bytes s) words copies → map string_bytes copies ≡ map string_bytes words
same_letters [] [] h = refl
same_letters [] (copy ∷ copies) h = absurd h
same_letters (word ∷ words) [] h = absurd h
same_letters (word ∷ words) (copy ∷ copies) h = ap₂ (λ (a : Text) (b : List Text). a ∷ b) h.0 (same_letters words copies h.1)

-- the options of a request are in their ranges
pub relay_range : (words : List Text) (request : Request) → ArePromised words request → IfSome (whole_options request) AreOptions
relay_range words (Solve options) h = by_flag options.answer_only
  where
    by_flag : (only : Bool) → IfSome (cond only None (Some options)) AreOptions
    by_flag true = tt
    by_flag false = asked-in words (Solve options) h
relay_range words (Check options) h = tt
relay_range words (Gen seed) h = tt
relay_range words (Demo seed) h = tt
