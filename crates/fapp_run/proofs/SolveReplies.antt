-- What is answered to the bytes of an input is the reply to that input.
use Rattle.std.proofs.Common.{◌≡◌, ℕ, ◌≤◌, List, length, arith}
use Rattle.fapp_io.specs.Moments.{SourceMoment}
use Rattle.fapp_io.specs.Whole.{IsAllOf}
use Rattle.cert_lines.specs.declared.answer.Verdict.{Verdict}
use Rattle.cert_lines.specs.declared.answer.Verdict.TheVariants as verdicts
use Rattle.answer_writer.specs.declared.status.Status.{Status}
use Rattle.answer_writer.specs.declared.status.Status.TheVariants.{Best, NoneFeasible, Open, Accepted, Written, Rejected, Usage, BadInput, BadAnswer, TooLong, NoAnswer, ReadFault, WriteFault, NoMemory}
use Rattle.fapp_words.specs.declared.options.SolveOptions.{SolveOptions}
use Rattle.fapp_run.specs.declared.reply.TheConstants.{MAX_INPUT}
use Rattle.fapp_run.specs.Answers.{Answers, status_of}
use Rattle.fapp_run.specs.Replies.{IsSolveReply}

no-usage : (v : Verdict) → Usage ≡ status_of v → ⊥
no-usage (verdicts.Best t) e = cc
no-usage verdicts.NoneFeasible e = cc
no-usage (verdicts.Open best lower level prefix) e = cc

no-read_fault : (v : Verdict) → ReadFault ≡ status_of v → ⊥
no-read_fault (verdicts.Best t) e = cc
no-read_fault verdicts.NoneFeasible e = cc
no-read_fault (verdicts.Open best lower level prefix) e = cc

pub solve-reply : (options : SolveOptions) (source source' : SourceMoment) (bytes : List ℕ) (status : Status) (text : List ℕ) → length bytes ≤ MAX_INPUT → IsAllOf source.left source'.left bytes →
    Answers options bytes status text → IsSolveReply options source source' status text
solve-reply options source source' bytes Best text short all a = (bytes, all, a)
solve-reply options source source' bytes NoneFeasible text short all a = (bytes, all, a)
solve-reply options source source' bytes Open text short all a = (bytes, all, a)
solve-reply options source source' bytes Accepted text short all a = (bytes, all, a)
solve-reply options source source' bytes Written text short all a = (bytes, all, a)
solve-reply options source source' bytes (Rejected fault) text short all a = (bytes, all, a)
solve-reply options source source' bytes Usage text short all a = absurd (no-usage a.3.answer.verdict a.3.status_is)
solve-reply options source source' bytes (BadInput bad) text short all a = (bytes, all, a)
solve-reply options source source' bytes (BadAnswer bad) text short all a = (bytes, all, a)
solve-reply options source source' bytes TooLong text short all a = absurd (let long = a.0 in omega arith)
solve-reply options source source' bytes NoAnswer text short all a = (bytes, all, a)
solve-reply options source source' bytes ReadFault text short all a = absurd (no-read_fault a.3.answer.verdict a.3.status_is)
solve-reply options source source' bytes WriteFault text short all a = (bytes, all, a)
solve-reply options source source' bytes NoMemory text short all a = (bytes, all, a)
