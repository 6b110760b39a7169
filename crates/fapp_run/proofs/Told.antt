-- An answer to an instance is that to its text, and what an input is solved to is what is answered to it.
use Rattle.std.proofs.Common.{◌≡◌, ℕ, ◌≤◌, List, length, Result, Ok, Err, IfOk, ap, sym, subst, ◌∙◌}
use Rattle.fapp_model.specs.declared.instance.Instance.{Instance}
use Rattle.record_reader.specs.Texts.{instance_of_text}
use Rattle.cert_lines.specs.declared.answer.Verdict.{Verdict}
use Rattle.cert_lines.specs.declared.answer.Verdict.TheVariants as verdicts
use Rattle.answer_writer.specs.declared.status.Status.{Status}
use Rattle.answer_writer.specs.declared.status.Status.TheVariants.{Best, NoneFeasible, Open, Accepted, Written, Rejected, Usage, BadInput, BadAnswer, TooLong, NoAnswer, ReadFault, WriteFault, NoMemory}
use Rattle.answer_writer.specs.Refusals.{refusal_line}
use Rattle.fapp_words.specs.declared.options.SolveOptions.{SolveOptions}
use Rattle.fapp_run.specs.declared.reply.TheConstants.{MAX_INPUT}
use Rattle.cert_lines.specs.declared.answer.Answer.{Answer}
use Rattle.answer_writer.specs.Texts.{written_text}
use Rattle.fapp_run.specs.declared.reply.Reply.{Reply}
use Rattle.fapp_run.specs.declared.reply.Solution.TheVariants.{Refused, Answered}
use Rattle.fapp_run.specs.Solving.{IsAnswerFor}
use Rattle.fapp_run.specs.Versions.{IsWrittenIn}
use Rattle.fapp_run.proofs.Written.{same-verdict}
use Rattle.fapp_run.specs.Answers.{Answers, IsAnswerIn, IsSolved, Solves, fuel_of, status_of}

module _ (bytes : List ℕ) (instance : Instance) (short : length bytes ≤ MAX_INPUT) (read : instance_of_text bytes ≡ Ok instance) where
  solved_by : (options : SolveOptions) (v : Verdict) (text : List ℕ) → IsSolved instance options (status_of v) text → Answers options bytes (status_of v) text
  solved_by options (verdicts.Best t) text h = (short, instance, read, h)
  solved_by options verdicts.NoneFeasible text h = (short, instance, read, h)
  solved_by options (verdicts.Open best lower level prefix) text h = (short, instance, read, h)

  pub solved_answers : (options : SolveOptions) (status : Status) (text : List ℕ) → IsSolved instance options status text → Answers options bytes status text
  solved_answers options status text h =
      subst (λ s. Answers options bytes s text) (sym h.status_is) (solved_by options h.answer.verdict text (subst (λ s. IsSolved instance options s text) h.status_is h))

-- an input that is refused
pub refused_answers : (options : SolveOptions) (bytes : List ℕ) (status : Status) (text : List ℕ) → Solves options bytes (Refused status) → text ≡ refusal_line status → Answers options bytes status text
refused_answers options bytes TooLong text h e = (h, e)
refused_answers options bytes (BadInput bad) text h e = (h.0, h.1, e)
refused_answers options bytes Best text h e = absurd h
refused_answers options bytes NoneFeasible text h e = absurd h
refused_answers options bytes Open text h e = absurd h
refused_answers options bytes Accepted text h e = absurd h
refused_answers options bytes Written text h e = absurd h
refused_answers options bytes (Rejected fault) text h e = absurd h
refused_answers options bytes Usage text h e = absurd h
refused_answers options bytes (BadAnswer bad) text h e = absurd h
refused_answers options bytes NoAnswer text h e = absurd h
refused_answers options bytes ReadFault text h e = absurd h
refused_answers options bytes WriteFault text h e = absurd h
refused_answers options bytes NoMemory text h e = absurd h

-- an answer in a version
pub answer_in : (instance : Instance) (options : SolveOptions) (split fuel : ℕ) (answer written : Answer) → split ≡ options.split → fuel ≡ fuel_of options instance → IsAnswerFor instance split fuel answer → IsWrittenIn instance options.cert answer written → IsAnswerIn instance options written
answer_in instance options split fuel answer written split_is fuel_is answers writes = record {
  answer = answer;
  answers = subst (λ n. IsAnswerFor instance options.split n answer) fuel_is (subst (λ n. IsAnswerFor instance n fuel answer) split_is answers);
  writes = writes;
}

-- an answer that was told answers the input
pub told_answers : (options : SolveOptions) (bytes : List ℕ) (instance : Instance) (written : Answer) (status : Status) (text : List ℕ) → Solves options bytes (Answered instance written) →
    status ≡ status_of written.verdict → text ≡ written_text instance written options.answer_only → Answers options bytes status text
told_answers options bytes instance written status text h status_is text_is =
    solved_answers bytes instance h.0 h.1 options status text (record {
      answer = h.2.answer;
      answers = h.2.answers;
      written = written;
      writes = h.2.writes;
      status_is = status_is ∙ ap status_of (same-verdict instance options.cert h.2.answer written h.2.writes);
      text_is = text_is;
    })

pub told_result : {E : Type 0} (options : SolveOptions) (bytes : List ℕ) (instance : Instance) (written : Answer) (r : Result Reply E) → Solves options bytes (Answered instance written) →
    IfOk r (λ outcome. outcome.status ≡ status_of written.verdict) → IfOk r (λ outcome. outcome.text.items ≡ written_text instance written options.answer_only) → IfOk r (λ outcome. Answers options bytes outcome.status outcome.text.items)
told_result options bytes instance written (Ok outcome) h status_is text_is = told_answers options bytes instance written outcome.status outcome.text.items h status_is text_is
told_result options bytes instance written (Err e) h status_is text_is = tt
