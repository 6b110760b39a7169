-- The words that the program promises to take.
use Rattle.std.specs.Prelude.{◌≡◌, true, List, [], ◌∷◌, Option, Some, None, codes}
use Rattle.clap.specs.Words.{Text}
use Rattle.fapp_model.specs.declared.limits.TheConstants.{MAX_FUEL, MAX_MADE_PATHS, MAX_NUMBER, MAX_POOL, MAX_SPLIT, MAX_WORKERS}
use Rattle.fapp_words.specs.declared.options.TheConstants.{DEFAULT_POOL, DEFAULT_SPLIT, DEFAULT_WORKERS, MAX_VERSION}
use Rattle.fapp_words.specs.declared.request.Seed.{Seed}
use Rattle.fapp_words.specs.declared.request.Request.{Request}
use Rattle.fapp_words.specs.declared.request.Request.TheVariants.{Solve, Check, Gen, Demo}
use Rattle.fapp_words.specs.declared.request.Maker.{Maker}
use Rattle.fapp_words.specs.Commands.{maker_name}
use Rattle.fapp_words.specs.Solving.{is_short_numeral}
use Rattle.fapp_words.specs.Options.{IsPromised, IsCheck, ranged}

-- two numerals behind the name of a command, each in its range
pub record IsSeed (name : Text) (words : List Text) (seed : Seed) : Type 0 where
  pub number : Text
  pub paths : Text
  pub spelled : words ≡ name ∷ number ∷ paths ∷ []
  pub number_form : is_short_numeral number ≡ true
  pub paths_form : is_short_numeral paths ≡ true
  pub number_value : ranged 0 MAX_NUMBER (Some number) ≡ Some (Some seed.number)
  pub paths_value : ranged 2 MAX_MADE_PATHS (Some paths) ≡ Some (Some seed.paths)

abbrev pub ArePromised : List Text → Request → Type 0
ArePromised words (Solve options) = IsPromised words options
ArePromised words (Check options) = IsCheck words options
ArePromised words (Gen seed) = IsSeed (codes "gen") words seed
ArePromised words (Demo seed) = IsSeed (codes "demo") words seed

-- what is asked for, exactly where the words are promised
abbrev pub ReadsWords : List Text → Option Request → Type 0
ReadsWords words (Some request) = ArePromised words request
ReadsWords words None = (request : Request) → ArePromised words request → ⊥

-- the number and the paths, exactly where the words are those of the command
abbrev pub ReadsSeed : Maker → List Text → Option Seed → Type 0
ReadsSeed maker words (Some seed) = IsSeed (maker_name maker) words seed
ReadsSeed maker words None = (seed : Seed) → IsSeed (maker_name maker) words seed → ⊥

-- the ranges and the defaults of the options, as numbers
pub record AreRanges : Type 0 where
  pub workers : MAX_WORKERS ≡ 32
  pub fuel : MAX_FUEL ≡ 1000000
  pub split : MAX_SPLIT ≡ 4096
  pub pool : MAX_POOL ≡ 65536
  pub version : MAX_VERSION ≡ 2
  pub number : MAX_NUMBER ≡ 1000000000
  pub made_paths : MAX_MADE_PATHS ≡ 2000
  pub default_workers : DEFAULT_WORKERS ≡ 4
  pub default_split : DEFAULT_SPLIT ≡ 64
  pub default_pool : DEFAULT_POOL ≡ 4096
