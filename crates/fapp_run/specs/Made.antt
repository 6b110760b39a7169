-- What is answered where the network is made from a seed.
use Rattle.std.specs.Prelude.{◌≡◌, ℕ, ◌≤◌, List, Some, false, Ok}
use Rattle.fapp_model.specs.declared.instance.Instance.{Instance}
use Rattle.fapp_model.specs.declared.limits.TheConstants.{MAX_MADE_PATHS, MAX_NUMBER}
use Rattle.fapp_words.specs.declared.options.TheConstants.{DEFAULT_POOL, DEFAULT_SPLIT, DEFAULT_WORKERS}
use Rattle.fapp_run.specs.declared.made.TheConstants.{DEMO_FUEL}
use Rattle.record_reader.specs.Texts.{instance_of_text}
use Rattle.cert_lines.specs.declared.answer.Answer.{Answer}
use Rattle.cert_lines.specs.Spelling.{verdict_text}
use Rattle.answer_writer.specs.declared.status.Status.{Status}
use Rattle.fapp_words.specs.declared.options.SolveOptions.{SolveOptions}
use Rattle.fapp_words.specs.declared.request.Request.{Request}
use Rattle.fapp_words.specs.declared.request.Request.TheVariants.{Solve, Check, Gen, Demo}
use Rattle.fapp_words.specs.declared.request.Seed.{Seed}
use Rattle.fapp_run.specs.Answers.{AreOptions, status_of}
use Rattle.fapp_run.specs.Judgements.{AreCheckOptions}
use Rattle.fapp_run.specs.Solving.{IsAnswerFor}

-- a seed in its ranges
pub record AreSeed (seed : Seed) : Type 0 where
  pub number : seed.number ≤ MAX_NUMBER
  pub some_paths : 2 ≤ seed.paths
  pub few_paths : seed.paths ≤ MAX_MADE_PATHS

-- a request in its ranges
abbrev pub AreRequested : Request → Type 0
AreRequested (Solve options) = AreOptions options
AreRequested (Check options) = AreCheckOptions options
AreRequested (Gen seed) = AreSeed seed
AreRequested (Demo seed) = AreSeed seed

-- how a made network is solved
abbrev pub demo_options : SolveOptions
demo_options =
    record {
      workers = DEFAULT_WORKERS;
      fuel = Some DEMO_FUEL;
      split = DEFAULT_SPLIT;
      pool = DEFAULT_POOL;
      cert = 1;
      answer_only = false;
    }

-- an answer to an instance, of which the verdict is written
pub record IsDemonstrated (instance : Instance) (status : Status) (text : List ℕ) : Type 0 where
  pub answer : Answer
  pub answers : IsAnswerFor instance DEFAULT_SPLIT DEMO_FUEL answer
  pub status_is : status ≡ status_of answer.verdict
  pub text_is : text ≡ verdict_text answer.verdict

-- a made text is that of an instance, and this is the verdict on it
pub record Demonstrates (made : List ℕ) (status : Status) (text : List ℕ) : Type 0 where
  pub instance : Instance
  pub read : instance_of_text made ≡ Ok instance
  pub shown : IsDemonstrated instance status text
