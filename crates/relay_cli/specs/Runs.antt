-- Whole runs of the relay.
use Rattle.std.specs.Prelude.{◌≡◌, ◌≢◌, ◌⊎◌, ◌+◌, ℕ, ◌≤◌, List, length, map, String, string_bytes, Option, Some, None, Ok}
use Rattle.std.specs.Global.{Global}
use Rattle.fapp_io.specs.Counts.{Rose}
use Rattle.fapp_io.specs.Known.{BytesGrow}
use Rattle.fapp_io.specs.Moments.{SourceMoment, SinkMoment}
use Rattle.fapp_io.specs.Whole.{DropsUpTo, GrowsByFront}
use Rattle.fapp_model.specs.declared.instance.Instance.{Instance}
use Rattle.record_reader.specs.Texts.{instance_of_text}
use Rattle.cert_lines.specs.declared.answer.Verdict.{Verdict}
use Rattle.answer_writer.specs.declared.status.Status.{Status}
use Rattle.answer_writer.specs.declared.status.Status.TheVariants.{Open, Usage, WriteFault, NoMemory}
use Rattle.answer_writer.specs.Refusals.{refusal_line}
use Rattle.fapp_plan.specs.Plans.{split_of}
use Rattle.fapp_words.specs.declared.options.SolveOptions.{SolveOptions}
use Rattle.fapp_workers.specs.VerdictLaws.{IsEnough}
use Rattle.fapp_run.specs.declared.reply.TheConstants.{MAX_INPUT}
use Rattle.fapp_run.specs.Answers.{fuel_of, status_of}
use Rattle.fapp_run.specs.Replies.{IsSolveReply}
use Rattle.fapp_run.specs.Runs.{IsAnswer, IsUnfailing}
use Rattle.relay_cli.specs.Words.{AreRelayWords, ReadsRelay}

-- the words ask for a relay with these options
abbrev pub NamesRelay : List (String Global) → SolveOptions → Type 0
NamesRelay words options = AreRelayWords (map string_bytes words) options

-- Usage where nothing is asked for, and then nothing is read; or the outcome of `solve` with the
-- options for the input
abbrev pub IsRelayReplyFor : Option SolveOptions → SourceMoment → SourceMoment → Status → List ℕ →
    Type 0
IsRelayReplyFor None source source' status text =
    (source' ≡ source) × (status ≡ Usage) × (text ≡ refusal_line Usage)
IsRelayReplyFor (Some options) source source' status text =
    IsSolveReply options source source' status text

-- the status and the text for the words
abbrev pub IsRelayReply : List (String Global) → SourceMoment → SourceMoment → Status → List ℕ →
    Type 0
IsRelayReply words source source' status text =
    (asked : Option SolveOptions) × ReadsRelay (map string_bytes words) asked
    × IsRelayReplyFor asked source source' status text

-- a front of some outcome's text was taken, short of the whole
abbrev pub IsCutReply : List (String Global) → SourceMoment → SourceMoment → SinkMoment →
    SinkMoment → Type 0
IsCutReply words source source' sink sink' =
    (status : Status) × (text : List ℕ) × IsRelayReply words source source' status text
    × GrowsByFront sink.taken sink'.taken text

-- a front of an answer's text was taken, short of the whole
abbrev pub IsCutAnswer : List (String Global) → SourceMoment → SourceMoment → SinkMoment →
    SinkMoment → Type 0
IsCutAnswer words source source' sink sink' =
    (verdict : Verdict) × (text : List ℕ)
    × IsRelayReply words source source' (status_of verdict) text
    × GrowsByFront sink.taken sink'.taken text

-- nothing was read, or on promised words a front, up to one byte past the limit
abbrev pub ReadsRelayFront : List (String Global) → SourceMoment → SourceMoment → Type 0
ReadsRelayFront words source source' =
    (source' ≡ source)
    ⊎ ((options : SolveOptions) × NamesRelay words options
    × DropsUpTo source.left source'.left (MAX_INPUT + 1))

-- The whole text of the outcome was taken. Where the sink failed, a front of some outcome's text
-- was taken, and its count of faults rose. Where there was no memory, nothing was written, or a
-- front of an answer's text was taken.
abbrev pub IsRelayRun : List (String Global) → SourceMoment → SourceMoment → SinkMoment →
    SinkMoment → Status → Type 0
IsRelayRun words source source' sink sink' NoMemory =
    (ReadsRelayFront words source source' × (sink' ≡ sink))
    ⊎ IsCutAnswer words source source' sink sink'
IsRelayRun words source source' sink sink' WriteFault =
    Rose sink.faults sink'.faults × IsCutReply words source source' sink sink'
IsRelayRun words source source' sink sink' status =
    (text : List ℕ) × IsRelayReply words source source' status text
    × BytesGrow sink.taken sink'.taken text

-- each job of one level that decides has tries within the fuel that the words name
abbrev pub IsEnoughForRelay : List (String Global) → Instance → Type 0
IsEnoughForRelay words instance = (options : SolveOptions) → NamesRelay words options →
    IsEnough (split_of instance options.split) (fuel_of options instance)

-- on promised words, a text of an instance within the limit, and no fault, the run ends with an
-- answer or for want of memory, and with fuel enough it is not open
abbrev pub CompletesRelay : List (String Global) → SourceMoment → SourceMoment → SinkMoment →
    SinkMoment → Status →
    Type 0
CompletesRelay words source source' sink sink' status =
    (bytes : List ℕ) (instance : Instance) (options : SolveOptions) → NamesRelay words options
    → source.left ≡ Some bytes → length bytes ≤ MAX_INPUT → instance_of_text bytes ≡ Ok instance
    → IsUnfailing source source' sink sink' → IsAnswer status
    × (IsEnoughForRelay words instance → status ≢ Open)
