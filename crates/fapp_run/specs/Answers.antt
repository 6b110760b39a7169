-- What is answered to the bytes of an input that is to be solved.
use Rattle.std.specs.Prelude.{◌≡◌, ℕ, ◌+◌, ◌<◌, ◌≤◌, List, length, unwrap_or, IfSome, Ok, Err}
use Rattle.fapp_model.specs.declared.instance.Instance.{Instance}
use Rattle.fapp_model.specs.declared.limits.TheConstants.{MAX_FUEL, MAX_POOL, MAX_SPLIT, MAX_WORKERS}
use Rattle.fapp_words.specs.declared.options.TheConstants.{MAX_VERSION}
use Rattle.record_reader.specs.Texts.{instance_of_text}
use Rattle.cert_lines.specs.declared.answer.Answer.{Answer}
use Rattle.cert_lines.specs.declared.answer.Verdict.{Verdict}
use Rattle.cert_lines.specs.declared.answer.Verdict.TheVariants as verdicts
use Rattle.answer_writer.specs.declared.status.Status.{Status}
use Rattle.answer_writer.specs.declared.status.Status.TheVariants.{Best, NoneFeasible, Open, BadInput, TooLong}
use Rattle.answer_writer.specs.Refusals.{refusal_line}
use Rattle.answer_writer.specs.Texts.{written_text}
use Rattle.fapp_words.specs.declared.options.SolveOptions.{SolveOptions}
use Rattle.fapp_run.specs.declared.reply.Solution.{Solution}
use Rattle.fapp_run.specs.declared.reply.Solution.TheVariants.{Refused, Answered}
use Rattle.fapp_run.specs.declared.reply.TheConstants.{MAX_INPUT}
use Rattle.fapp_run.specs.Solving.{IsAnswerFor}
use Rattle.fapp_run.specs.Versions.{IsWrittenIn}

-- options in their ranges
pub record AreOptions (options : SolveOptions) : Type 0 where
  pub some_workers : 1 ≤ options.workers
  pub few_workers : options.workers ≤ MAX_WORKERS
  pub fuel : IfSome options.fuel (λ fuel. fuel ≤ MAX_FUEL)
  pub some_prefixes : 1 ≤ options.split
  pub few_prefixes : options.split ≤ MAX_SPLIT
  pub rows : options.pool ≤ MAX_POOL
  pub some_version : 1 ≤ options.cert
  pub few_versions : options.cert ≤ MAX_VERSION

-- the fuel of each job: what is named, else 1,000 and the number of paths
abbrev pub fuel_of : SolveOptions → Instance → ℕ
fuel_of options instance = unwrap_or options.fuel (1000 + length instance.paths)

-- the status that tells of a verdict
abbrev pub status_of : Verdict → Status
status_of (verdicts.Best t) = Best
status_of verdicts.NoneFeasible = NoneFeasible
status_of (verdicts.Open best lower level prefix) = Open

-- an answer to an instance, written whole, in the version that is asked for, or as its plan alone
pub record IsSolved (instance : Instance) (options : SolveOptions) (status : Status)
    (text : List ℕ) : Type 0 where
  pub answer : Answer
  pub answers : IsAnswerFor instance options.split (fuel_of options instance) answer
  pub written : Answer
  pub writes : IsWrittenIn instance options.cert answer written
  pub status_is : status ≡ status_of answer.verdict
  pub text_is : text ≡ written_text instance written options.answer_only

-- the answer to an input: that it is longer than the limit, or its first refused line, or that to
-- the instance whose text it is
abbrev pub Answers : SolveOptions → List ℕ → Status → List ℕ → Type 0
Answers options bytes TooLong text = (MAX_INPUT < length bytes) × (text ≡ refusal_line TooLong)
Answers options bytes (BadInput refused) text =
    (length bytes ≤ MAX_INPUT) × (instance_of_text bytes ≡ Err refused)
    × (text ≡ refusal_line (BadInput refused))
Answers options bytes status text =
    (length bytes ≤ MAX_INPUT)
    × (instance : Instance) × (instance_of_text bytes ≡ Ok instance)
    × IsSolved instance options status text

-- an answer to an instance, in the version that is asked for
pub record IsAnswerIn (instance : Instance) (options : SolveOptions)
    (written : Answer) : Type 0 where
  pub answer : Answer
  pub answers : IsAnswerFor instance options.split (fuel_of options instance) answer
  pub writes : IsWrittenIn instance options.cert answer written

-- what an input is solved to: that it is longer than the limit, or its first refused line, or the
-- instance whose text it is, with an answer
abbrev pub Solves : SolveOptions → List ℕ → Solution → Type 0
Solves options bytes (Refused TooLong) = MAX_INPUT < length bytes
Solves options bytes (Refused (BadInput refused)) =
    (length bytes ≤ MAX_INPUT) × (instance_of_text bytes ≡ Err refused)
Solves options bytes (Refused _) = ⊥
Solves options bytes (Answered instance written) =
    (length bytes ≤ MAX_INPUT) × (instance_of_text bytes ≡ Ok instance)
    × IsAnswerIn instance options written
