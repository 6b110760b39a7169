-- Whole runs of the program.
use Rattle.std.specs.Prelude.{◌≡◌, ◌≢◌, ◌⊎◌, ℕ, ◌≤◌, List, [], length, Some, Ok, String}
use Rattle.std.specs.Global.{Global}
use Rattle.fapp_io.specs.Counts.{Rose}
use Rattle.fapp_io.specs.Known.{BytesGrow}
use Rattle.fapp_io.specs.Moments.{SourceMoment, SinkMoment}
use Rattle.fapp_io.specs.Whole.{GrowsByFront}
use Rattle.fapp_model.specs.declared.instance.Instance.{Instance}
use Rattle.fapp_model.specs.declared.level.TheConstants.{LEVELS, MAX_LEVELS}
use Rattle.fapp_model.specs.ModelLaws.{LimitsAre}
use Rattle.record_reader.specs.Texts.{instance_of_text}
use Rattle.cert_lines.specs.declared.answer.Answer.{Answer}
use Rattle.cert_lines.specs.acceptance.Accepts.{Accepts}
use Rattle.answer_writer.specs.declared.status.Status.{Status}
use Rattle.answer_writer.specs.declared.status.Status.TheVariants.{Best, NoneFeasible, Open, Accepted, Written, WriteFault, NoMemory}
use Rattle.fapp_gen.specs.Generated.{network_text}
use Rattle.fapp_plan.specs.Plans.{split_of}
use Rattle.fapp_words.specs.declared.options.TheConstants.{DEFAULT_SPLIT}
use Rattle.fapp_run.specs.declared.made.TheConstants.{DEMO_FUEL}
use Rattle.fapp_words.specs.declared.options.CheckOptions.{CheckOptions}
use Rattle.fapp_words.specs.declared.options.SolveOptions.{SolveOptions}
use Rattle.fapp_words.specs.declared.request.Request.TheVariants as requests
use Rattle.fapp_words.specs.declared.request.Seed.{Seed}
use Rattle.fapp_workers.specs.VerdictLaws.{IsEnough}
use Rattle.fapp_run.specs.declared.judgement.TheConstants.{MAX_CHECK_INPUT}
use Rattle.fapp_run.specs.declared.reply.TheConstants.{MAX_INPUT}
use Rattle.fapp_run.specs.AnswerLaws.{IsProved}
use Rattle.fapp_run.specs.Answers.{fuel_of}
use Rattle.fapp_run.specs.Judgements.{IsCheckInput}
use Rattle.fapp_run.specs.Replies.{IsReply, Names, ReadsFront}

-- the whole text was taken, an empty one by no call
abbrev pub TakesWhole : SinkMoment → SinkMoment → List ℕ → Type 0
TakesWhole sink sink' text = BytesGrow sink.taken sink'.taken text × (text ≡ [] → sink' ≡ sink)

-- The whole text of the reply was taken. Where the sink failed, a front of some reply's text was
-- taken, short of the whole, and its count of faults rose. Where there was no memory, nothing was
-- written.
abbrev pub IsRun : List (String Global) → SourceMoment → SourceMoment → SinkMoment → SinkMoment →
    Status → Type 0
IsRun words source source' sink sink' NoMemory = ReadsFront words source source' × (sink' ≡ sink)
IsRun words source source' sink sink' WriteFault =
    Rose sink.faults sink'.faults
    × (status : Status) × (text : List ℕ) × IsReply words source source' status text
    × GrowsByFront sink.taken sink'.taken text
IsRun words source source' sink sink' status =
    (text : List ℕ) × IsReply words source source' status text × TakesWhole sink sink' text

-- an answer, or no memory
abbrev pub IsAnswer : Status → Type 0
IsAnswer status =
    (status ≡ Best) ⊎ ((status ≡ NoneFeasible) ⊎ ((status ≡ Open) ⊎ (status ≡ NoMemory)))

-- each job of one level that decides has tries within the fuel that the words name
abbrev pub IsEnoughFor : List (String Global) → Instance → Type 0
IsEnoughFor words instance = (options : SolveOptions) → Names words (requests.Solve options) →
    IsEnough (split_of instance options.split) (fuel_of options instance)

-- neither the source nor the sink failed
abbrev pub IsUnfailing : SourceMoment → SourceMoment → SinkMoment → SinkMoment → Type 0
IsUnfailing source source' sink sink' =
    (Rose source.faults source'.faults → ⊥) × (Rose sink.faults sink'.faults → ⊥)

-- on the words of solve, a text of an instance within the limit, and no fault, the run ends with an
-- answer, and with fuel enough it is not open
abbrev pub Completes : List (String Global) → SourceMoment → SourceMoment → SinkMoment →
    SinkMoment → Status → Type 0
Completes words source source' sink sink' status =
    (bytes : List ℕ) (instance : Instance) (options : SolveOptions) →
    Names words (requests.Solve options)
    → source.left ≡ Some bytes → length bytes ≤ MAX_INPUT → instance_of_text bytes ≡ Ok instance
    → IsUnfailing source source' sink sink' → IsAnswer status
    × (IsEnoughFor words instance → status ≢ Open)

-- on the words of check, an instance with an answer that is to be accepted, within the limit, and
-- no fault, the answer is accepted, or there was no memory
abbrev pub CompletesCheck : List (String Global) → SourceMoment → SourceMoment → SinkMoment →
    SinkMoment → Status →
    Type 0
CompletesCheck words source source' sink sink' status =
    (bytes : List ℕ) (instance : Instance) (answer : Answer) (options : CheckOptions) →
    Names words (requests.Check options)
    → source.left ≡ Some bytes → length bytes ≤ MAX_CHECK_INPUT → IsCheckInput bytes instance answer
    → Accepts instance answer → IsUnfailing source source' sink sink' → (status ≡ Accepted)
    ⊎ (status ≡ NoMemory)

-- on the words of gen and no fault of the sink, the network is written, or there was no memory
abbrev pub CompletesGen : List (String Global) → SinkMoment → SinkMoment → Status → Type 0
CompletesGen words sink sink' status =
    (seed : Seed) → Names words (requests.Gen seed) → (Rose sink.faults sink'.faults → ⊥)
    → (status ≡ Written) ⊎ (status ≡ NoMemory)

-- on the words of demo and no fault of the sink, the run ends with the verdict on the made network,
-- or there was no memory, and with fuel enough for one level the verdict is not open
abbrev pub CompletesDemo : List (String Global) → SinkMoment → SinkMoment → Status → Type 0
CompletesDemo words sink sink' status =
    (seed : Seed) → Names words (requests.Demo seed) → (Rose sink.faults sink'.faults → ⊥)
    → IsAnswer status
    × ((instance : Instance) → instance_of_text (network_text seed.number seed.paths) ≡ Ok instance
    → IsEnough (split_of instance DEFAULT_SPLIT) DEMO_FUEL → status ≢ Open)

-- where a source that tells its bytes was read and the status is Accepted, what the answer in them
-- claims is so
abbrev pub ProvesAccepted : SourceMoment → Status → Type 0
ProvesAccepted source status =
    (bytes : List ℕ) → source.left ≡ Some bytes → status ≡ Accepted → IsProved bytes

-- the most bytes of an input that is solved and of one that is checked, the levels of an instance,
-- the limits of its text, and the fuel of a made network's jobs, as numbers
pub record AreLimits : Type 0 where
  pub input : MAX_INPUT ≡ 134217728
  pub check_input : MAX_CHECK_INPUT ≡ 1073741824
  pub levels : LEVELS ≡ 11
  pub most_levels : MAX_LEVELS ≡ 11
  pub texts : LimitsAre
  pub demo_fuel : DEMO_FUEL ≡ 40000
