-- What the steps of a run say of the whole run.
use Rattle.std.proofs.Common.{◌≡◌, ◌≢◌, ◌⊎◌, ℕ, ◌+◌, ◌≤◌, false, List, length, Option, None, Some, Ok, refl, sym, ap, ◌∙◌, subst, inl, inr, arith}
use Rattle.std.specs.Prelude.{String, map, string_bytes}
use Rattle.std.specs.Global.{Global}
use Rattle.std.proofs.lemmas.List.{drop_all}
use Rattle.fapp_io.specs.Counts.{Rose}
use Rattle.fapp_io.specs.Known.{BytesGrow}
use Rattle.fapp_io.specs.Moments.{SourceMoment, SinkMoment}
use Rattle.fapp_io.specs.Whole.{DropsUpTo, GrowsByFront, IsAllOf}
use Rattle.fapp_model.specs.declared.instance.Instance.{Instance}
use Rattle.cert_lines.specs.declared.answer.Answer.{Answer}
use Rattle.cert_lines.specs.declared.answer.Verdict.{Verdict}
use Rattle.cert_lines.specs.declared.answer.Verdict.TheVariants as verdicts
use Rattle.cert_lines.specs.Spelling.{answer_text}
use Rattle.record_reader.specs.Texts.{instance_of_text}
use Rattle.answer_writer.specs.declared.status.Status.{Status}
use Rattle.answer_writer.specs.declared.status.Status.TheVariants.{Best, NoneFeasible, Open, Accepted, Written, Rejected, Usage, BadInput, BadAnswer, TooLong, NoAnswer, ReadFault, WriteFault, NoMemory}
use Rattle.answer_writer.specs.Refusals.{refusal_line}
use Rattle.answer_writer.specs.Texts.{written_text}
use Rattle.fapp_words.specs.declared.options.SolveOptions.{SolveOptions}
use Rattle.fapp_run.specs.declared.reply.Solution.TheVariants.{Refused, Answered}
use Rattle.fapp_run.specs.declared.reply.TheConstants.{MAX_INPUT}
use Rattle.fapp_run.specs.Answers.{Answers, Solves, status_of}
use Rattle.fapp_run.specs.Replies.{IsSolveReply}
use Rattle.fapp_run.specs.Runs.{IsAnswer}
use Rattle.fapp_run.proofs.RunEnds.{solution_ends, no_verdict_fault, no_verdict_want}
use Rattle.fapp_run.proofs.Told.{refused_answers, told_answers}
use Rattle.relay_cli.specs.Words.{ReadsRelay}
use Rattle.relay_cli.specs.Runs.{CompletesRelay, IsEnoughForRelay, IsRelayReply, IsRelayReplyFor, IsRelayRun, NamesRelay, ReadsRelayFront}
use Rattle.relay_cli.specs.RelaySteps.{IsRunBy, IsSolutionOf, IsWriting}

-- ---- what was read

-- what is read whole and within a limit is a front within it
pub all_dropped : (left left' : Option (List ℕ)) (bytes : List ℕ) (most : ℕ) → length bytes ≤ most → IsAllOf left left' bytes → DropsUpTo left left' (most + 1)
all_dropped None left' bytes most short h = (0, omega arith, tt)
all_dropped (Some whole) left' bytes most short h =
    let same : length whole ≡ length bytes = ap length (sym h.0) in
    (length whole, omega (arith, same, short), (omega arith, h.1 ∙ ap Some (sym (drop_all (length whole) whole (omega arith)))))

-- ---- what it was solved to

module _ (options : SolveOptions) (source source' : SourceMoment) where
  refused_whole : (status : Status) → ((bytes : List ℕ) × IsAllOf source.left source'.left bytes × Solves options bytes (Refused status)) → (bytes : List ℕ) × IsAllOf source.left source'.left bytes × Answers options bytes status (refusal_line status)
  refused_whole status h = (h.0, h.1, refused_answers options h.0 status (refusal_line status) h.2 refl)

  -- a refusal is the outcome of `solve`
  pub refused_outcome : (status : Status) → IsSolutionOf options source source' (Refused status) → IsSolveReply options source source' status (refusal_line status)
  refused_outcome ReadFault h = (h.0, h.1, refl)
  refused_outcome TooLong h = (h, refl)
  refused_outcome (BadInput bad) h = refused_whole (BadInput bad) h
  refused_outcome Best h = refused_whole Best h
  refused_outcome NoneFeasible h = refused_whole NoneFeasible h
  refused_outcome Open h = refused_whole Open h
  refused_outcome Accepted h = refused_whole Accepted h
  refused_outcome Written h = refused_whole Written h
  refused_outcome (Rejected fault) h = refused_whole (Rejected fault) h
  refused_outcome Usage h = absurd h.2
  refused_outcome (BadAnswer bad) h = refused_whole (BadAnswer bad) h
  refused_outcome NoAnswer h = refused_whole NoAnswer h
  refused_outcome WriteFault h = refused_whole WriteFault h
  refused_outcome NoMemory h = refused_whole NoMemory h

  -- an answer is the outcome of `solve`
  pub answered_outcome : (instance : Instance) (answer : Answer) → options.answer_only ≡ false → IsSolutionOf options source source' (Answered instance answer) → IsSolveReply options source source' (status_of answer.verdict) (answer_text instance answer)
  answered_outcome instance answer whole h = by_verdict answer.verdict refl
    where
      text_is : answer_text instance answer ≡ written_text instance answer options.answer_only
      text_is = ap (written_text instance answer) (sym whole)

      told : (status : Status) → status ≡ status_of answer.verdict → (bytes : List ℕ) × IsAllOf source.left source'.left bytes × Answers options bytes status (answer_text instance answer)
      told status e = (h.0, h.1, told_answers options h.0 instance answer status (answer_text instance answer) h.2 e text_is)

      by_verdict : (v : Verdict) → answer.verdict ≡ v → IsSolveReply options source source' (status_of v) (answer_text instance answer)
      by_verdict (verdicts.Best t) e = told Best (ap status_of (sym e))
      by_verdict verdicts.NoneFeasible e = told NoneFeasible (ap status_of (sym e))
      by_verdict (verdicts.Open best lower level prefix) e = told Open (ap status_of (sym e))

-- ---- whole runs

module _ (words : List (String Global)) (source source' : SourceMoment) (sink sink' : SinkMoment) where
  -- no outcome is a fault of the sink, nor want of memory
  no_fault : (text : List ℕ) (asked : Option SolveOptions) → IsRelayReplyFor asked source source' WriteFault text → ⊥
  no_fault text None h = let e = h.1 in cc
  no_fault text (Some options) h = no_verdict_fault h.2.3.answer.verdict h.2.3.status_is

  no_want : (text : List ℕ) (asked : Option SolveOptions) → IsRelayReplyFor asked source source' NoMemory text → ⊥
  no_want text None h = let e = h.1 in cc
  no_want text (Some options) h = no_verdict_want h.2.3.answer.verdict h.2.3.status_is

  whole_run : (text : List ℕ) (status : Status) → IsRelayReply words source source' status text → BytesGrow sink.taken sink'.taken text → IsRelayRun words source source' sink sink' status
  whole_run text Best out takes = (text, out, takes)
  whole_run text NoneFeasible out takes = (text, out, takes)
  whole_run text Open out takes = (text, out, takes)
  whole_run text Accepted out takes = (text, out, takes)
  whole_run text Written out takes = (text, out, takes)
  whole_run text (Rejected fault) out takes = (text, out, takes)
  whole_run text Usage out takes = (text, out, takes)
  whole_run text (BadInput bad) out takes = (text, out, takes)
  whole_run text (BadAnswer bad) out takes = (text, out, takes)
  whole_run text TooLong out takes = (text, out, takes)
  whole_run text NoAnswer out takes = (text, out, takes)
  whole_run text ReadFault out takes = (text, out, takes)
  whole_run text WriteFault out takes = absurd (no_fault text out.0 out.2)
  whole_run text NoMemory out takes = absurd (no_want text out.0 out.2)

  -- an outcome whose text was written
  pub written_run : (text : List ℕ) (status end : Status) → IsRelayReply words source source' status text → ReadsRelayFront words source source' → IsWriting status text sink sink' end → IsRelayRun words source source' sink sink' end
  written_run text status end out reads writing = elim writing [
    | inl whole ↦ subst (IsRelayRun words source source' sink sink') (sym whole.0) (whole_run text status out whole.1)
    | inr (inl fault) ↦ subst (IsRelayRun words source source' sink sink') (sym fault.0) (fault.1, (status, text, out, fault.2))
    | inr (inr want) ↦ subst (IsRelayRun words source source' sink sink') (sym want.0) (wanted want.1)
  ]
    where
      wanted : (sink' ≡ sink) ⊎ ((verdict : Verdict) × (status ≡ status_of verdict) × GrowsByFront sink.taken sink'.taken text) → IsRelayRun words source source' sink sink' NoMemory
      wanted (inl same) = inl (reads, same)
      wanted (inr (verdict, told, front)) = inr (verdict, text, subst (λ s. IsRelayReply words source source' s text) told out, front)

  -- a run by the options that the words name
  pub named_run : (options : SolveOptions) (end : Status) → NamesRelay words options → DropsUpTo source.left source'.left (MAX_INPUT + 1) → IsRunBy options source source' sink sink' end → IsRelayRun words source source' sink sink' end
  named_run options end named reads run = elim run [
    | inl none ↦ subst (IsRelayRun words source source' sink sink') (sym none.0) (inl (inr (options, named, reads), none.1))
    | inr some ↦ written_run some.1 some.0 end (Some options, named, some.2) (inr (options, named, reads)) some.3
  ]

  -- ---- how a run ends where nothing fails

  abbrev IsEnd : Status → Type 0
  IsEnd end = (end ≡ NoMemory) ⊎ (Rose sink.faults sink'.faults ⊎ ((text : List ℕ) × IsRelayReply words source source' end text))

  end_of : (end : Status) → IsRelayRun words source source' sink sink' end → IsEnd end
  end_of Best h = inr (inr (h.0, h.1))
  end_of NoneFeasible h = inr (inr (h.0, h.1))
  end_of Open h = inr (inr (h.0, h.1))
  end_of Accepted h = inr (inr (h.0, h.1))
  end_of Written h = inr (inr (h.0, h.1))
  end_of (Rejected fault) h = inr (inr (h.0, h.1))
  end_of Usage h = inr (inr (h.0, h.1))
  end_of (BadInput bad) h = inr (inr (h.0, h.1))
  end_of (BadAnswer bad) h = inr (inr (h.0, h.1))
  end_of TooLong h = inr (inr (h.0, h.1))
  end_of NoAnswer h = inr (inr (h.0, h.1))
  end_of ReadFault h = inr (inr (h.0, h.1))
  end_of WriteFault h = inr (inl h.0)
  end_of NoMemory h = inl refl

  wanting : (end : Status) → end ≡ NoMemory → IsAnswer end × (end ≢ Open)
  wanting end e = (inr (inr (inr e)), λ other. let same : NoMemory ≡ Open = sym e ∙ other in cc)

  -- on promised words, a text of an instance, and no fault
  pub run_completes : (end : Status) → IsRelayRun words source source' sink sink' end → CompletesRelay words source source' sink sink' end
  run_completes end run = λ bytes instance options named left short read sound. elim (end_of end run) [
    | inl want ↦ (let w = wanting end want in (w.0, λ enough. w.1))
    | inr (inl risen) ↦ absurd (sound.1 risen)
    | inr (inr whole) ↦ by_asked bytes instance options named left short read sound.0 whole.0 whole.1.0 whole.1.1 whole.1.2
  ]
    where
      by_asked : (bytes : List ℕ) (instance : Instance) (options : SolveOptions) → NamesRelay words options → source.left ≡ Some bytes → length bytes ≤ MAX_INPUT → instance_of_text bytes ≡ Ok instance → (Rose source.faults source'.faults → ⊥) →
          (text : List ℕ) (asked : Option SolveOptions) → ReadsRelay (map string_bytes words) asked → IsRelayReplyFor asked source source' end text → IsAnswer end × (IsEnoughForRelay words instance → end ≢ Open)
      by_asked bytes instance options named left short read sound text None reads out = absurd (reads options named)
      by_asked bytes instance options named left short read sound text (Some other) reads out =
          let ends = solution_ends source source' bytes instance end text left other short read sound out in
          (ends.0, λ enough. ends.1 (enough other reads))
