-- What is answered to the words and a source, and how the source is left.
use Rattle.std.specs.Prelude.{◌≡◌, ◌⊎◌, ◌+◌, ℕ, List, String, map, string_bytes, Option, Some, None}
use Rattle.std.specs.Global.{Global}
use Rattle.fapp_io.specs.Counts.{Rose}
use Rattle.fapp_io.specs.Known.{Drops}
use Rattle.fapp_io.specs.Moments.{SourceMoment}
use Rattle.fapp_io.specs.Whole.{IsAllOf, DropsUpTo}
use Rattle.answer_writer.specs.declared.status.Status.{Status}
use Rattle.answer_writer.specs.declared.status.Status.TheVariants.{Usage, Written, TooLong, ReadFault}
use Rattle.answer_writer.specs.Refusals.{refusal_line}
use Rattle.fapp_gen.specs.Generated.{network_text}
use Rattle.fapp_words.specs.declared.options.SolveOptions.{SolveOptions}
use Rattle.fapp_words.specs.declared.request.Request.{Request}
use Rattle.fapp_words.specs.declared.request.Request.TheVariants as requests
use Rattle.fapp_words.specs.Promises.{ArePromised, ReadsWords}
use Rattle.fapp_run.specs.declared.judgement.TheConstants.{MAX_CHECK_INPUT}
use Rattle.fapp_run.specs.declared.reply.TheConstants.{MAX_INPUT}
use Rattle.fapp_run.specs.Answers.{Answers}
use Rattle.fapp_run.specs.Judgements.{Judges}
use Rattle.fapp_run.specs.Made.{Demonstrates}

-- the words ask for this
abbrev pub Names : List (String Global) → Request → Type 0
Names words request = ArePromised (map string_bytes words) request

-- what the words ask for, or that they ask for nothing
abbrev pub Asks : List (String Global) → Option Request → Type 0
Asks words asked = ReadsWords (map string_bytes words) asked

-- The status and the text for an input of at most so many bytes, by what is answered to its bytes,
-- and for what the source had left. A fault stops within the limit, and an input that is too long
-- is read to one byte past it. Each other was read to its end.
abbrev pub IsReplyWithin : ℕ → (List ℕ → Status → List ℕ → Type 0) → SourceMoment → SourceMoment →
    Status → List ℕ → Type 0
IsReplyWithin limit answers source source' Usage text = ⊥
IsReplyWithin limit answers source source' ReadFault text =
    Rose source.faults source'.faults × DropsUpTo source.left source'.left limit
    × (text ≡ refusal_line ReadFault)
IsReplyWithin limit answers source source' TooLong text =
    Drops source.left source'.left (limit + 1) × (text ≡ refusal_line TooLong)
IsReplyWithin limit answers source source' status text =
    (bytes : List ℕ) × IsAllOf source.left source'.left bytes × answers bytes status text

-- for an input that is to be solved, and for one that is to be checked
abbrev pub IsSolveReply : SolveOptions → SourceMoment → SourceMoment → Status → List ℕ → Type 0
IsSolveReply options source source' status text =
    IsReplyWithin MAX_INPUT (Answers options) source source' status text

abbrev pub IsCheckReply : SourceMoment → SourceMoment → Status → List ℕ → Type 0
IsCheckReply source source' status text =
    IsReplyWithin MAX_CHECK_INPUT Judges source source' status text

-- The status and the text for what the words ask for: Usage where they ask for nothing, a made
-- network, the verdict on one, and for these three nothing is read; or the reply to the input.
abbrev pub IsReplyFor : Option Request → SourceMoment → SourceMoment → Status → List ℕ → Type 0
IsReplyFor None source source' status text =
    (source' ≡ source) × (status ≡ Usage) × (text ≡ refusal_line Usage)
IsReplyFor (Some (requests.Gen seed)) source source' status text =
    (source' ≡ source) × (status ≡ Written) × (text ≡ network_text seed.number seed.paths)
IsReplyFor (Some (requests.Demo seed)) source source' status text =
    (source' ≡ source) × Demonstrates (network_text seed.number seed.paths) status text
IsReplyFor (Some (requests.Solve options)) source source' status text =
    IsSolveReply options source source' status text
IsReplyFor (Some (requests.Check options)) source source' status text =
    IsCheckReply source source' status text

-- the status and the text for the words
abbrev pub IsReply : List (String Global) → SourceMoment → SourceMoment → Status → List ℕ → Type 0
IsReply words source source' status text =
    (asked : Option Request) × Asks words asked × IsReplyFor asked source source' status text

-- where there was no memory: a front was read, up to one byte past the input's limit, and nothing
-- for what reads none
abbrev pub ReadsFor : Request → SourceMoment → SourceMoment → Type 0
ReadsFor (requests.Solve options) source source' =
    DropsUpTo source.left source'.left (MAX_INPUT + 1)
ReadsFor (requests.Check options) source source' =
    DropsUpTo source.left source'.left (MAX_CHECK_INPUT + 1)
ReadsFor (requests.Gen seed) source source' = source' ≡ source
ReadsFor (requests.Demo seed) source source' = source' ≡ source

abbrev pub ReadsFront : List (String Global) → SourceMoment → SourceMoment → Type 0
ReadsFront words source source' =
    (source' ≡ source) ⊎ ((request : Request) × Names words request
    × ReadsFor request source source')
