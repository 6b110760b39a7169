-- What answers say, as laws over their definitions.
use Rattle.std.specs.Prelude.{◌≡◌, ℕ, List}
use Rattle.fapp_model.specs.declared.instance.Instance.{Instance}
use Rattle.cert_lines.specs.declared.answer.Answer.{Answer}
use Rattle.accept_laws.specs.Answers.{IsRight}
use Rattle.answer_writer.specs.declared.status.Status.{Status}
use Rattle.answer_writer.specs.declared.status.Status.TheVariants.{Accepted}
use Rattle.fapp_run.specs.Judgements.{Judges, IsCheckInput}

-- an input of a check has one status
abbrev pub OneCheckStatus : Type 0
OneCheckStatus =
    (bytes : List ℕ) (one other : Status) (text more : List ℕ)
    → Judges bytes one text → Judges bytes other more → one ≡ other

-- the input is an instance, a line `--` and the text of an answer to the instance, and what the
-- answer claims is so
pub record IsProved (bytes : List ℕ) : Type 0 where
  pub instance : Instance
  pub answer : Answer
  pub input : IsCheckInput bytes instance answer
  pub right : IsRight instance answer.plan answer.verdict

-- what an accepted answer claims is so
abbrev pub AcceptedIsRight : Type 0
AcceptedIsRight = (bytes text : List ℕ) → Judges bytes Accepted text → IsProved bytes
