-- What is asked for, by the first word.
use Rattle.std.proofs.Common.{◌≡◌, ℕ, List, [], ◌∷◌, true, Option, Some, None, codes, get_or, refl, ap, ◌∙◌, sym, arith}
use Rattle.std.specs.Prelude.{length, option_map, option_and_then}
use Rattle.clap.specs.Words.{Row, Text, fault_of, first_of, subcommand_of}
use Rattle.fapp_model.specs.declared.limits.TheConstants.{MAX_MADE_PATHS, MAX_NUMBER}
use Rattle.fapp_words.specs.declared.options.SolveOptions.{SolveOptions}
use Rattle.fapp_words.specs.declared.options.CheckOptions.{CheckOptions}
use Rattle.fapp_words.specs.declared.request.Seed.{Seed}
use Rattle.fapp_words.specs.declared.request.Request.{Request}
use Rattle.fapp_words.specs.declared.request.Request.TheVariants.{Solve, Check, Gen, Demo}
use Rattle.fapp_words.specs.declared.request.Maker.{Maker}
use Rattle.fapp_words.specs.declared.request.Maker.TheVariants as maker
use Rattle.fapp_words.specs.Commands.{maker_name, program}
use Rattle.fapp_words.specs.Solving.{is_short_numeral}
use Rattle.fapp_words.specs.Options.{ReadsSolve, ReadsCheck, seed_in, ranged}
use Rattle.fapp_words.specs.Promises.{ArePromised, IsSeed, ReadsSeed, ReadsWords}
use Rattle.fapp_words.proofs.ReadingLemmas.{none_some, plain_of, promised_taken, some_same}
use Rattle.fapp_words.proofs.MakerLevel.{made_found, made_taken}
use Rattle.fapp_words.proofs.CheckLemmas.{check_taken}

seed_taken : (maker : Maker) (words : List Text) (seed : Seed) → IsSeed (maker_name maker) words seed → fault_of program words ≡ []
seed_taken maker words seed promised = ap (fault_of program) promised.spelled ∙ made_taken maker promised.number promised.paths (plain_of promised.number promised.number_form) (plain_of promised.paths promised.paths_form)

-- clap takes what is promised
pub request_taken : (words : List Text) (request : Request) → ArePromised words request → fault_of program words ≡ []
request_taken words (Solve options) promised = promised_taken words options promised
request_taken words (Check options) promised = check_taken words options promised
request_taken words (Gen seed) promised = seed_taken maker.Gen words seed promised
request_taken words (Demo seed) promised = seed_taken maker.Demo words seed promised

-- the first letter of the first word
abbrev letter : List Text → ℕ
letter words = get_or (get_or words 0 []) 0 0

-- words that begin with a command are of no other
pub reads_solve : (words : List Text) → letter words ≡ 115 → (o : Option SolveOptions) → ReadsSolve words o → ReadsWords words (option_map Solve o)
reads_solve words first (Some options) h = h
reads_solve words first None h = λ request promised. other request promised
  where
    other : (request : Request) → ArePromised words request → ⊥
    other (Solve options) promised = h options promised
    other (Check options) promised = absurd (omega (arith, first, ap letter promised.spelled))
    other (Gen seed) promised = absurd (omega (arith, first, ap letter promised.spelled))
    other (Demo seed) promised = absurd (omega (arith, first, ap letter promised.spelled))

pub reads_check : (words : List Text) → letter words ≡ 99 → (o : Option CheckOptions) → ReadsCheck words o → ReadsWords words (option_map Check o)
reads_check words first (Some options) h = h
reads_check words first None h = λ request promised. other request promised
  where
    other : (request : Request) → ArePromised words request → ⊥
    other (Solve options) promised = absurd (omega (arith, first, ap letter promised.spelled))
    other (Check options) promised = h options promised
    other (Gen seed) promised = absurd (omega (arith, first, ap letter promised.spelled))
    other (Demo seed) promised = absurd (omega (arith, first, ap letter promised.spelled))

pub reads_gen : (words : List Text) → letter words ≡ 103 → (o : Option Seed) → ReadsSeed maker.Gen words o → ReadsWords words (option_map Gen o)
reads_gen words first (Some seed) h = h
reads_gen words first None h = λ request promised. other request promised
  where
    other : (request : Request) → ArePromised words request → ⊥
    other (Solve options) promised = absurd (omega (arith, first, ap letter promised.spelled))
    other (Check options) promised = absurd (omega (arith, first, ap letter promised.spelled))
    other (Gen seed) promised = h seed promised
    other (Demo seed) promised = absurd (omega (arith, first, ap letter promised.spelled))

pub reads_demo : (words : List Text) → letter words ≡ 100 → (o : Option Seed) → ReadsSeed maker.Demo words o → ReadsWords words (option_map Demo o)
reads_demo words first (Some seed) h = h
reads_demo words first None h = λ request promised. other request promised
  where
    other : (request : Request) → ArePromised words request → ⊥
    other (Solve options) promised = absurd (omega (arith, first, ap letter promised.spelled))
    other (Check options) promised = absurd (omega (arith, first, ap letter promised.spelled))
    other (Gen seed) promised = absurd (omega (arith, first, ap letter promised.spelled))
    other (Demo seed) promised = h seed promised

-- ---- the words of a command that makes a network

pub three : {X : Type 0} (xs : List X) (x y z : X) → length xs ≡ 3 → x ≡ get_or xs 0 x → y ≡ get_or xs 1 y → z ≡ get_or xs 2 z → xs ≡ x ∷ y ∷ z ∷ []
three [] x y z n a b c = absurd (omega (arith, n))
three (u ∷ []) x y z n a b c = absurd (omega (arith, n))
three (u ∷ v ∷ []) x y z n a b c = absurd (omega (arith, n))
three (u ∷ v ∷ w ∷ []) x y z n a b c = rw (a, b, c) refl
three (u ∷ v ∷ w ∷ t ∷ ts) x y z n a b c = absurd (omega (arith, n))

module _ (maker : Maker) (words : List Text) (a b : Text) (spelled : words ≡ maker_name maker ∷ a ∷ b ∷ []) (a_form : is_short_numeral a ≡ true) (b_form : is_short_numeral b ≡ true) where
  values : (seed : Seed) → IsSeed (maker_name maker) words seed → (ranged 0 MAX_NUMBER (Some a) ≡ Some (Some seed.number)) × (ranged 2 MAX_MADE_PATHS (Some b) ≡ Some (Some seed.paths))
  values seed is =
      let same = sym spelled ∙ is.spelled in (
        ap (λ ws. ranged 0 MAX_NUMBER (Some (get_or ws 1 []))) same ∙ is.number_value,
        ap (λ ws. ranged 2 MAX_MADE_PATHS (Some (get_or ws 2 []))) same ∙ is.paths_value,
      )

  judged : (o q : Option (Option ℕ)) → ranged 0 MAX_NUMBER (Some a) ≡ o → ranged 2 MAX_MADE_PATHS (Some b) ≡ q → ReadsSeed maker words
      (option_and_then (λ n'. option_and_then (λ n''. option_and_then (λ p'. option_and_then (λ p''. Some (record { number = n''; paths = p'' })) p') q) n') o)
  judged (Some (Some n)) (Some (Some p)) e f = record { number = a; paths = b; spelled = spelled; number_form = a_form; paths_form = b_form; number_value = e; paths_value = f }
  judged (Some (Some n)) (Some None) e f = λ seed is. none_some (some_same (sym f ∙ (values seed is).1))
  judged (Some (Some n)) None e f = λ seed is. none_some (sym f ∙ (values seed is).1)
  judged (Some None) q e f = λ seed is. none_some (some_same (sym e ∙ (values seed is).0))
  judged None q e f = λ seed is. none_some (sym e ∙ (values seed is).0)

  pub seed_read : (rows : List Row) (n p : Option Text) → Some rows ≡ option_map (λ p. p.1) (subcommand_of program words) → n ≡ first_of (codes "number") rows → p ≡ first_of (codes "paths") rows →
      ReadsSeed maker words (seed_in n p)
  seed_read rows n p found n_is p_is =
      let there = made_found maker a b (plain_of a a_form) (plain_of b b_form) in
      let same : rows ≡ there.0 = some_same (found ∙ ap (option_map (λ p. p.1)) (ap (subcommand_of program) spelled ∙ there.1)) in
      let n' : n ≡ Some a = n_is ∙ (ap (first_of (codes "number")) same ∙ there.2) in
      let p' : p ≡ Some b = p_is ∙ (ap (first_of (codes "paths")) same ∙ there.3) in
      rw (n', p') (judged (ranged 0 MAX_NUMBER (Some a)) (ranged 2 MAX_MADE_PATHS (Some b)) refl refl)

-- of words that are promised clap found something
pub seed_found : (maker : Maker) (words : List Text) (seed : Seed) → IsSeed (maker_name maker) words seed → None ≡ option_map (λ p. p.1) (subcommand_of program words) → ⊥
seed_found maker words seed is none =
    let there = made_found maker is.number is.paths (plain_of is.number is.number_form) (plain_of is.paths is.paths_form) in
    none_some (none ∙ ap (option_map (λ p. p.1)) (ap (subcommand_of program) is.spelled ∙ there.1))
