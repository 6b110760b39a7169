-- The words of the relay.
use Rattle.std.specs.Prelude.{◌≡◌, ◌∷◌, List, Option, Some, None, codes, false, if◌then◌else◌}
use Rattle.clap.specs.Words.{Text}
use Rattle.fapp_words.specs.declared.options.SolveOptions.{SolveOptions}
use Rattle.fapp_words.specs.declared.request.Request.{Request}
use Rattle.fapp_words.specs.declared.request.Request.TheVariants.{Solve, Check, Gen, Demo}
use Rattle.fapp_words.specs.Promises.{ArePromised}

-- behind the word `solve` the words are promised with these options, and the plan is not to be
-- written alone
abbrev pub AreRelayWords : List Text → SolveOptions → Type 0
AreRelayWords words options =
    ArePromised (codes "solve" ∷ words) (Solve options) × (options.answer_only ≡ false)

-- the options, exactly where the words have some
abbrev pub ReadsRelay : List Text → Option SolveOptions → Type 0
ReadsRelay words (Some options) = AreRelayWords words options
ReadsRelay words None = (options : SolveOptions) → AreRelayWords words options → ⊥

-- the options of a request to solve, unless the plan is to be written alone
abbrev pub whole_options : Request → Option SolveOptions
whole_options (Solve options) = if options.answer_only then None else Some options
whole_options (Check options) = None
whole_options (Gen seed) = None
whole_options (Demo seed) = None
