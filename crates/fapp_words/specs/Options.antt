-- What the options of a command ask for.
use Rattle.std.specs.Prelude.{◌≡◌, ℕ, Bool, ◌&&◌, nat_le, List, [], ◌∷◌, Option, Some, None, Result, Ok, Err, codes, flat_map, unwrap_or, option_and_then, if◌then◌else◌}
use Rattle.std.specs.List.{All}
use Rattle.clap.specs.Words.{Text}
use Rattle.fapp_text.specs.Numbers.{number_of}
use Rattle.fapp_text.specs.declared.numeral.NumFault.{NumFault}
use Rattle.fapp_model.specs.declared.limits.TheConstants.{MAX_FUEL, MAX_MADE_PATHS, MAX_NUMBER, MAX_POOL, MAX_SPLIT, MAX_WORKERS}
use Rattle.fapp_words.specs.declared.options.TheConstants.{DEFAULT_POOL, DEFAULT_SPLIT, DEFAULT_WORKERS, MAX_VERSION}
use Rattle.fapp_words.specs.declared.options.SolveOptions.{SolveOptions}
use Rattle.fapp_words.specs.declared.options.CheckOptions.{CheckOptions}
use Rattle.fapp_words.specs.declared.request.Seed.{Seed}
use Rattle.fapp_words.specs.Solving.{Piece, words_of, key_of, HasNumeral, AreNew, given, names, text_of, workers, fuel, split, pool, cert}

abbrev pub within : ℕ → ℕ → Result ℕ NumFault → Option (Option ℕ)
within low high (Ok n) = if nat_le low n && nat_le n high then Some (Some n) else None
within low high (Err fault) = None

-- a number, where it is written; nothing where it is out of its range
abbrev pub ranged : ℕ → ℕ → Option Text → Option (Option ℕ)
ranged low high None = Some None
ranged low high (Some text) = within low high (number_of text)

-- the options for the values of the options, where each number is in its range
abbrev pub options_in : Option Text → Option Text → Option Text → Option Text → Option Text → Bool →
    Option SolveOptions
options_in w f s p c only =
    option_and_then (λ w'. option_and_then (λ f'. option_and_then (λ s'.
    option_and_then (λ p'. option_and_then (λ c'.
    Some (record {
      workers = unwrap_or w' DEFAULT_WORKERS;
      fuel = f';
      split = unwrap_or s' DEFAULT_SPLIT;
      pool = unwrap_or p' DEFAULT_POOL;
      cert =
          unwrap_or c' 1;
      answer_only = only;
    }))
    (ranged 1 MAX_VERSION c)) (ranged 0 MAX_POOL p)) (ranged 1 MAX_SPLIT s)) (ranged 0 MAX_FUEL f))
    (ranged 1 MAX_WORKERS w)

-- the options of `check` for the value of its option, where the number is in its range
abbrev pub check_in : Option Text → Option CheckOptions
check_in w =
    option_and_then (λ w'. Some (record { workers = unwrap_or w' 1 })) (ranged 1 MAX_WORKERS w)

-- a seed for two values, where each is written and in its range
abbrev pub seed_in : Option Text → Option Text → Option Seed
seed_in n p =
    option_and_then (λ n'. option_and_then (λ n''.
    option_and_then (λ p'. option_and_then (λ p''. Some (record { number = n''; paths = p'' })) p')
    (ranged 2 MAX_MADE_PATHS p)) n') (ranged 0 MAX_NUMBER n)

abbrev pub options_of : List Piece → Option SolveOptions
options_of ps =
    options_in (given (text_of workers) ps) (given (text_of fuel) ps) (given (text_of split) ps)
    (given (text_of pool) ps) (given (text_of cert) ps) (names (codes "answer-only") ps)

-- the words are options of `solve`, each at most once and each number in its range, and these are
-- the options
pub record IsPromised (words : List Text) (options : SolveOptions) : Type 0 where
  pub pieces : List Piece
  pub spelled : words ≡ codes "solve" ∷ flat_map words_of pieces
  pub numerals : All HasNumeral pieces
  pub once : AreNew [] pieces
  pub values : options_of pieces ≡ Some options

-- the options, exactly where the words are promised
abbrev pub ReadsSolve : List Text → Option SolveOptions → Type 0
ReadsSolve words (Some options) = IsPromised words options
ReadsSolve words None = (options : SolveOptions) → IsPromised words options → ⊥

-- the words are `check` and its option `workers`, at most once and with a number in its range, and
-- these are the options
pub record IsCheck (words : List Text) (options : CheckOptions) : Type 0 where
  pub pieces : List Piece
  pub spelled : words ≡ codes "check" ∷ flat_map words_of pieces
  pub alone : All (λ p. key_of p ≡ text_of workers) pieces
  pub numerals : All HasNumeral pieces
  pub once : AreNew [] pieces
  pub values : check_in (given (text_of workers) pieces) ≡ Some options

-- the options of `check`, exactly where the words are promised
abbrev pub ReadsCheck : List Text → Option CheckOptions → Type 0
ReadsCheck words (Some options) = IsCheck words options
ReadsCheck words None = (options : CheckOptions) → IsCheck words options → ⊥
