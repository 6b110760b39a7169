-- How a run ends where nothing fails, what Accepted tells, and that an outcome whose text was taken makes a run.
use Rattle.std.proofs.Common.{◌≡◌, ◌≢◌, ◌⊎◌, ℕ, ◌+◌, ◌≤◌, List, [], ◌∷◌, length, get_or, Option, None, Some, Ok, refl, sym, ap, ◌∙◌, subst, inl, inr, arith}
use Rattle.std.specs.Prelude.{String, codes, map, string_bytes}
use Rattle.std.specs.Global.{Global}
use Rattle.fapp_io.specs.Counts.{Rose}
use Rattle.fapp_io.specs.Known.{Drops}
use Rattle.fapp_io.specs.Moments.{SourceMoment, SinkMoment}
use Rattle.fapp_io.specs.Whole.{IsAllOf}
use Rattle.fapp_model.specs.declared.instance.Instance.{Instance}
use Rattle.record_reader.specs.Texts.{instance_of_text}
use Rattle.cert_lines.specs.declared.answer.Answer.{Answer}
use Rattle.cert_lines.specs.declared.answer.Verdict.{Verdict}
use Rattle.cert_lines.specs.declared.answer.Verdict.TheVariants as verdicts
use Rattle.cert_lines.specs.acceptance.Accepts.{Accepts}
use Rattle.answer_writer.specs.declared.status.Status.{Status}
use Rattle.answer_writer.specs.declared.status.Status.TheVariants.{Best, NoneFeasible, Open, Accepted, Written, Rejected, Usage, BadInput, BadAnswer, TooLong, NoAnswer, ReadFault, WriteFault, NoMemory}
use Rattle.fapp_plan.specs.Plans.{split_of}
use Rattle.fapp_words.specs.declared.options.CheckOptions.{CheckOptions}
use Rattle.fapp_words.specs.declared.options.SolveOptions.{SolveOptions}
use Rattle.fapp_words.specs.declared.request.Request.{Request}
use Rattle.fapp_words.specs.declared.request.Request.TheVariants as requests
use Rattle.fapp_words.specs.declared.request.Seed.{Seed}
use Rattle.fapp_words.specs.Options.{ranged}
use Rattle.fapp_words.specs.Promises.{IsSeed}
use Rattle.fapp_gen.specs.Generated.{network_text}
use Rattle.fapp_workers.specs.VerdictLaws.{IsEnough}
use Rattle.fapp_run.specs.declared.judgement.TheConstants.{MAX_CHECK_INPUT}
use Rattle.fapp_run.specs.declared.reply.TheConstants.{MAX_INPUT}
use Rattle.fapp_run.specs.AnswerLaws.{IsProved}
use Rattle.fapp_run.specs.Answers.{Answers, IsSolved, fuel_of, status_of}
use Rattle.fapp_run.specs.Halves.{Halves, halves}
use Rattle.fapp_run.specs.Judgements.{IsCheckInput, IsJudged, Judges}
use Rattle.fapp_run.specs.Made.{Demonstrates}
use Rattle.fapp_run.specs.Replies.{Asks, IsCheckReply, IsReply, IsReplyFor, IsReplyWithin, IsSolveReply, Names}
use Rattle.fapp_run.specs.Runs.{IsAnswer, IsEnoughFor, IsRun, TakesWhole}
use Rattle.fapp_run.specs.Solving.{IsClosedVerdict}
use Rattle.fapp_run.proofs.CheckKinds.{accepted, accepted_proved}

-- ---- words ask for one thing

abbrev first_letter : List (List ℕ) → ℕ
first_letter words = get_or (get_or words 0 []) 0 0

module _ (words : List (String Global)) where
  solve_only : (options : SolveOptions) (asked : Option Request) → Names words (requests.Solve options) → Asks words asked → (other : SolveOptions) × (asked ≡ Some (requests.Solve other))
  solve_only options None named h = absurd (h (requests.Solve options) named)
  solve_only options (Some (requests.Solve other)) named h = (other, refl)
  solve_only options (Some (requests.Check other)) named h = absurd (let e = ap first_letter (sym named.spelled ∙ h.spelled) in omega arith)
  solve_only options (Some (requests.Gen seed)) named h = absurd (let e = ap first_letter (sym named.spelled ∙ h.spelled) in omega arith)
  solve_only options (Some (requests.Demo seed)) named h = absurd (let e = ap first_letter (sym named.spelled ∙ h.spelled) in omega arith)

  check_only : (options : CheckOptions) (asked : Option Request) → Names words (requests.Check options) → Asks words asked → (other : CheckOptions) × (asked ≡ Some (requests.Check other))
  check_only options None named h = absurd (h (requests.Check options) named)
  check_only options (Some (requests.Solve other)) named h = absurd (let e = ap first_letter (sym named.spelled ∙ h.spelled) in omega arith)
  check_only options (Some (requests.Check other)) named h = (other, refl)
  check_only options (Some (requests.Gen seed)) named h = absurd (let e = ap first_letter (sym named.spelled ∙ h.spelled) in omega arith)
  check_only options (Some (requests.Demo seed)) named h = absurd (let e = ap first_letter (sym named.spelled ∙ h.spelled) in omega arith)

  gen_only : (seed : Seed) (asked : Option Request) → Names words (requests.Gen seed) → Asks words asked → (other : Seed) × (asked ≡ Some (requests.Gen other))
  gen_only seed None named h = absurd (h (requests.Gen seed) named)
  gen_only seed (Some (requests.Solve options)) named h = absurd (let e = ap first_letter (sym named.spelled ∙ h.spelled) in omega arith)
  gen_only seed (Some (requests.Check options)) named h = absurd (let e = ap first_letter (sym named.spelled ∙ h.spelled) in omega arith)
  gen_only seed (Some (requests.Gen other)) named h = (other, refl)
  gen_only seed (Some (requests.Demo other)) named h = absurd (let e = ap first_letter (sym named.spelled ∙ h.spelled) in omega arith)

  demo_only : (seed : Seed) (asked : Option Request) → Names words (requests.Demo seed) → Asks words asked → (other : Seed) × (asked ≡ Some (requests.Demo other))
  demo_only seed None named h = absurd (h (requests.Demo seed) named)
  demo_only seed (Some (requests.Solve options)) named h = absurd (let e = ap first_letter (sym named.spelled ∙ h.spelled) in omega arith)
  demo_only seed (Some (requests.Check options)) named h = absurd (let e = ap first_letter (sym named.spelled ∙ h.spelled) in omega arith)
  demo_only seed (Some (requests.Gen other)) named h = absurd (let e = ap first_letter (sym named.spelled ∙ h.spelled) in omega arith)
  demo_only seed (Some (requests.Demo other)) named h = (other, refl)

-- two seeds that the same words spell make the same network
same_value : (low high : ℕ) (given given' : List ℕ) (n m : ℕ) → given ≡ given' → ranged low high (Some given) ≡ Some (Some n) → ranged low high (Some given') ≡ Some (Some m) → n ≡ m
same_value low high given given' n m e p q = some_is n m (sym p ∙ (ap (λ text. ranged low high (Some text)) e ∙ q))
  where
    some_is : (a b : ℕ) → Some (Some a) ≡ Some (Some b) → a ≡ b
    some_is a b e = cc

same_network : (name : List ℕ) (words : List (List ℕ)) (seed other : Seed) → IsSeed name words seed → IsSeed name words other → network_text seed.number seed.paths ≡ network_text other.number other.paths
same_network name words seed other a b =
    let e : (name ∷ a.number ∷ a.paths ∷ []) ≡ (name ∷ b.number ∷ b.paths ∷ []) = sym a.spelled ∙ b.spelled in
    let number = same_value 0 1000000000 a.number b.number seed.number other.number (ap (λ ws. get_or ws 1 []) e) a.number_value b.number_value in
    let paths = same_value 2 2000 a.paths b.paths seed.paths other.paths (ap (λ ws. get_or ws 2 []) e) a.paths_value b.paths_value in
    ap (λ n. network_text n seed.paths) number ∙ ap (λ p. network_text other.number p) paths

-- ---- how a command ends

-- what is answered to the bytes of an input
abbrev Answering : Type 1
Answering = List ℕ → Status → List ℕ → Type 0

record IsWhole (answers : Answering) (source source' : SourceMoment) (status : Status) (text : List ℕ) : Type 0 where
  pub bytes : List ℕ
  pub all : IsAllOf source.left source'.left bytes
  pub answered : answers bytes status text

abbrev IsEnd : ℕ → Answering → SourceMoment → SourceMoment → Status → List ℕ → Type 0
IsEnd limit answers source source' status text =
    Rose source.faults source'.faults ⊎ (Drops source.left source'.left (limit + 1) ⊎ IsWhole answers source source' status text)

whole_end : (limit : ℕ) (answers : Answering) (source source' : SourceMoment) (status : Status) (text : List ℕ) → ((bytes : List ℕ) × IsAllOf source.left source'.left bytes × answers bytes status text) → IsEnd limit answers source source' status text
whole_end limit answers source source' status text h = inr (inr (record { bytes = h.0; all = h.1; answered = h.2 }))

end_of : (limit : ℕ) (answers : Answering) (source source' : SourceMoment) (status : Status) (text : List ℕ) → IsReplyWithin limit answers source source' status text → IsEnd limit answers source source' status text
end_of limit answers source source' Best text h = whole_end limit answers source source' Best text h
end_of limit answers source source' NoneFeasible text h = whole_end limit answers source source' NoneFeasible text h
end_of limit answers source source' Open text h = whole_end limit answers source source' Open text h
end_of limit answers source source' Accepted text h = whole_end limit answers source source' Accepted text h
end_of limit answers source source' Written text h = whole_end limit answers source source' Written text h
end_of limit answers source source' (Rejected fault) text h = whole_end limit answers source source' (Rejected fault) text h
end_of limit answers source source' Usage text h = absurd h
end_of limit answers source source' (BadInput bad) text h = whole_end limit answers source source' (BadInput bad) text h
end_of limit answers source source' (BadAnswer bad) text h = whole_end limit answers source source' (BadAnswer bad) text h
end_of limit answers source source' TooLong text h = inr (inl h.0)
end_of limit answers source source' NoAnswer text h = whole_end limit answers source source' NoAnswer text h
end_of limit answers source source' ReadFault text h = inl h.0
end_of limit answers source source' WriteFault text h = whole_end limit answers source source' WriteFault text h
end_of limit answers source source' NoMemory text h = whole_end limit answers source source' NoMemory text h

taken : (left left' : Option (List ℕ)) (bytes given : List ℕ) → left ≡ Some bytes → IsAllOf left left' given → given ≡ bytes
taken left left' bytes given e h = let g = rw e at h in g.0

dropped : (left left' : Option (List ℕ)) (bytes : List ℕ) (n : ℕ) → left ≡ Some bytes → Drops left left' n → n ≤ length bytes
dropped left left' bytes n e h = let g = rw e at h in g.0

-- ---- what an instance's answer is

record IsEnded (options : SolveOptions) (instance : Instance) (status : Status) : Type 0 where
  pub verdict : Verdict
  pub is : status ≡ status_of verdict
  pub closed : IsEnough (split_of instance options.split) (fuel_of options instance) → IsClosedVerdict verdict

same_instance : (bytes : List ℕ) (i j : Instance) → instance_of_text bytes ≡ Ok i → instance_of_text bytes ≡ Ok j → i ≡ j
same_instance bytes i j p q = cc

from_solved : (options : SolveOptions) (bytes : List ℕ) (instance : Instance) (status : Status) (text : List ℕ) → instance_of_text bytes ≡ Ok instance → (other : Instance) → instance_of_text bytes ≡ Ok other → IsSolved other options status text → IsEnded options instance status
from_solved options bytes instance status text read other e h =
    subst (λ i. IsEnded options i status) (same_instance bytes other instance e read) (record { verdict = h.answer.verdict; is = h.status_is; closed = h.answers.enough })

ended : (options : SolveOptions) (bytes : List ℕ) (instance : Instance) (status : Status) (text : List ℕ) → length bytes ≤ MAX_INPUT → instance_of_text bytes ≡ Ok instance → Answers options bytes status text → IsEnded options instance status
ended options bytes instance Best text short read a = from_solved options bytes instance Best text read a.1 a.2 a.3
ended options bytes instance NoneFeasible text short read a = from_solved options bytes instance NoneFeasible text read a.1 a.2 a.3
ended options bytes instance Open text short read a = from_solved options bytes instance Open text read a.1 a.2 a.3
ended options bytes instance Accepted text short read a = from_solved options bytes instance Accepted text read a.1 a.2 a.3
ended options bytes instance Written text short read a = from_solved options bytes instance Written text read a.1 a.2 a.3
ended options bytes instance (Rejected fault) text short read a = from_solved options bytes instance (Rejected fault) text read a.1 a.2 a.3
ended options bytes instance Usage text short read a = from_solved options bytes instance Usage text read a.1 a.2 a.3
ended options bytes instance (BadInput bad) text short read a = let e = sym a.1 ∙ read in absurd cc
ended options bytes instance (BadAnswer bad) text short read a = from_solved options bytes instance (BadAnswer bad) text read a.1 a.2 a.3
ended options bytes instance TooLong text short read a = absurd (omega (arith, a.0))
ended options bytes instance NoAnswer text short read a = from_solved options bytes instance NoAnswer text read a.1 a.2 a.3
ended options bytes instance ReadFault text short read a = from_solved options bytes instance ReadFault text read a.1 a.2 a.3
ended options bytes instance WriteFault text short read a = from_solved options bytes instance WriteFault text read a.1 a.2 a.3
ended options bytes instance NoMemory text short read a = from_solved options bytes instance NoMemory text read a.1 a.2 a.3

is_answer : (status : Status) (v : Verdict) → status ≡ status_of v → IsAnswer status
is_answer status (verdicts.Best t) e = inl e
is_answer status verdicts.NoneFeasible e = inr (inl e)
is_answer status (verdicts.Open best lower level prefix) e = inr (inr (inl e))

not_open : (status : Status) (v : Verdict) → status ≡ status_of v → IsClosedVerdict v → status ≢ Open
not_open status (verdicts.Best t) e closed same = cc
not_open status verdicts.NoneFeasible e closed same = cc
not_open status (verdicts.Open best lower level prefix) e closed same = absurd closed

not_accepted : (v : Verdict) → Accepted ≡ status_of v → ⊥
not_accepted (verdicts.Best t) e = cc
not_accepted verdicts.NoneFeasible e = cc
not_accepted (verdicts.Open best lower level prefix) e = cc

-- ---- runs

module _ (source source' : SourceMoment) (bytes : List ℕ) (instance : Instance) (status : Status) (text : List ℕ) (left : source.left ≡ Some bytes) where
  -- by some options and on a text of an instance
  pub solution_ends : (options : SolveOptions) → length bytes ≤ MAX_INPUT → instance_of_text bytes ≡ Ok instance → (Rose source.faults source'.faults → ⊥) → IsSolveReply options source source' status text →
      IsAnswer status × (IsEnough (split_of instance options.split) (fuel_of options instance) → status ≢ Open)
  solution_ends options short read sound h = elim (end_of MAX_INPUT (Answers options) source source' status text h) [
    | inl risen ↦ absurd (sound risen)
    | inr (inl long) ↦ absurd (let l = dropped source.left source'.left bytes (MAX_INPUT + 1) left long in omega arith)
    | inr (inr whole) ↦ (let e = ended options bytes instance status text short read (subst (λ b. Answers options b status text) (taken source.left source'.left bytes whole.bytes left whole.all) whole.answered) in
        (is_answer status e.verdict e.is, λ enough. not_open status e.verdict e.is (e.closed enough)))
  ]

module _ (words : List (String Global)) (source source' : SourceMoment) (bytes : List ℕ) (instance : Instance) (status : Status) (text : List ℕ) (left : source.left ≡ Some bytes) where
  -- on the words of solve and a text of an instance
  pub solve_ends : (options : SolveOptions) → Names words (requests.Solve options) → length bytes ≤ MAX_INPUT → instance_of_text bytes ≡ Ok instance → (Rose source.faults source'.faults → ⊥) → IsReply words source source' status text →
      IsAnswer status × (IsEnoughFor words instance → status ≢ Open)
  solve_ends options named short read sound (asked, asks, out) =
      let only = solve_only words options asked named asks in
      let end = solution_ends source source' bytes instance status text left only.0 short read sound (subst (λ a. IsReplyFor a source source' status text) only.1 out) in
      (end.0, λ enough. end.1 (enough only.0 (subst (Asks words) only.1 asks)))

  -- on the words of check and an answer that is to be accepted
  pub check_ends : (answer : Answer) (options : CheckOptions) → Names words (requests.Check options) → length bytes ≤ MAX_CHECK_INPUT → IsCheckInput bytes instance answer → Accepts instance answer → (Rose source.faults source'.faults → ⊥) → IsReply words source source' status text → status ≡ Accepted
  check_ends answer options named short given accepts sound (asked, asks, out) =
      let only = check_only words options asked named asks in
      let h : IsCheckReply source source' status text = subst (λ a. IsReplyFor a source source' status text) only.1 out in
      elim (end_of MAX_CHECK_INPUT Judges source source' status text h) [
        | inl risen ↦ absurd (sound risen)
        | inr (inl long) ↦ absurd (let l = dropped source.left source'.left bytes (MAX_CHECK_INPUT + 1) left long in omega arith)
        | inr (inr whole) ↦ accepted bytes instance answer status text short given accepts (subst (λ b. Judges b status text) (taken source.left source'.left bytes whole.bytes left whole.all) whole.answered)
      ]

-- on the words of gen
pub gen_ends : (words : List (String Global)) (source source' : SourceMoment) (status : Status) (text : List ℕ) (seed : Seed) → Names words (requests.Gen seed) → IsReply words source source' status text → status ≡ Written
gen_ends words source source' status text seed named (asked, asks, out) =
    let only = gen_only words seed asked named asks in
    (subst (λ a. IsReplyFor a source source' status text) only.1 out).1

-- on the words of demo
pub demo_ends : (words : List (String Global)) (source source' : SourceMoment) (status : Status) (text : List ℕ) (seed : Seed) → Names words (requests.Demo seed) → IsReply words source source' status text →
    IsAnswer status × ((instance : Instance) → instance_of_text (network_text seed.number seed.paths) ≡ Ok instance → IsEnough (split_of instance 64) 40000 → status ≢ Open)
demo_ends words source source' status text seed named (asked, asks, out) =
    let only = demo_only words seed asked named asks in
    let other : IsSeed (codes "demo") (map string_bytes words) only.0 = subst (Asks words) only.1 asks in
    let shown : Demonstrates (network_text only.0.number only.0.paths) status text = (subst (λ a. IsReplyFor a source source' status text) only.1 out).1 in
    let verdict = shown.shown.answer.verdict in (
      is_answer status verdict shown.shown.status_is,
      λ instance read enough.
          let read' = subst (λ made. instance_of_text made ≡ Ok instance) (same_network (codes "demo") (map string_bytes words) seed only.0 named other) read in
          let same = same_instance (network_text only.0.number only.0.paths) instance shown.instance read' shown.read in
          not_open status verdict shown.shown.status_is (shown.shown.answers.enough (subst (λ i. IsEnough (split_of i 64) 40000) same enough)),
    )

-- what was accepted is right
accepted_by : (source source' : SourceMoment) (bytes text : List ℕ) (asked : Option Request) → source.left ≡ Some bytes → IsReplyFor asked source source' Accepted text → IsProved bytes
accepted_by source source' bytes text None left h = absurd (let e = h.1 in cc)
accepted_by source source' bytes text (Some (requests.Gen seed)) left h = absurd (let e = h.1 in cc)
accepted_by source source' bytes text (Some (requests.Demo seed)) left h = absurd (not_accepted h.1.shown.answer.verdict h.1.shown.status_is)
accepted_by source source' bytes text (Some (requests.Solve options)) left h = absurd (not_accepted h.2.3.answer.verdict h.2.3.status_is)
accepted_by source source' bytes text (Some (requests.Check options)) left h =
    subst IsProved (taken source.left source'.left bytes h.0 left h.1) (accepted_proved h.0 text h.2)

pub accepted_ends : (words : List (String Global)) (source source' : SourceMoment) (bytes : List ℕ) (status : Status) (text : List ℕ)
    → source.left ≡ Some bytes → status ≡ Accepted → IsReply words source source' status text → IsProved bytes
accepted_ends words source source' bytes status text left e h =
    let g : IsReply words source source' Accepted text = subst (λ s. IsReply words source source' s text) e h in
    accepted_by source source' bytes text g.0 left g.2

-- ---- whole runs

pub no_verdict_fault : (v : Verdict) → WriteFault ≡ status_of v → ⊥
no_verdict_fault (verdicts.Best t) e = cc
no_verdict_fault verdicts.NoneFeasible e = cc
no_verdict_fault (verdicts.Open best lower level prefix) e = cc

pub no_verdict_want : (v : Verdict) → NoMemory ≡ status_of v → ⊥
no_verdict_want (verdicts.Best t) e = cc
no_verdict_want verdicts.NoneFeasible e = cc
no_verdict_want (verdicts.Open best lower level prefix) e = cc

no_judgement_fault : (bytes text : List ℕ) (cut : Option Halves) → IsJudged bytes cut WriteFault text → ⊥
no_judgement_fault bytes text (Some input) h = h.2.3
no_judgement_fault bytes text None h = h

no_judgement_want : (bytes text : List ℕ) (cut : Option Halves) → IsJudged bytes cut NoMemory text → ⊥
no_judgement_want bytes text (Some input) h = h.2.3
no_judgement_want bytes text None h = h

module _ (source source' : SourceMoment) (text : List ℕ) where
  -- no outcome is a fault of the sink, nor want of memory
  no_fault : (asked : Option Request) → IsReplyFor asked source source' WriteFault text → ⊥
  no_fault None h = let e = h.1 in cc
  no_fault (Some (requests.Gen seed)) h = let e = h.1 in cc
  no_fault (Some (requests.Demo seed)) h = no_verdict_fault h.1.shown.answer.verdict h.1.shown.status_is
  no_fault (Some (requests.Solve options)) h = no_verdict_fault h.2.3.answer.verdict h.2.3.status_is
  no_fault (Some (requests.Check options)) h = no_judgement_fault h.0 text (halves h.0) h.2.1

  no_want : (asked : Option Request) → IsReplyFor asked source source' NoMemory text → ⊥
  no_want None h = let e = h.1 in cc
  no_want (Some (requests.Gen seed)) h = let e = h.1 in cc
  no_want (Some (requests.Demo seed)) h = no_verdict_want h.1.shown.answer.verdict h.1.shown.status_is
  no_want (Some (requests.Solve options)) h = no_verdict_want h.2.3.answer.verdict h.2.3.status_is
  no_want (Some (requests.Check options)) h = no_judgement_want h.0 text (halves h.0) h.2.1

  -- an outcome whose text was taken whole
  pub whole_run : (words : List (String Global)) (sink sink' : SinkMoment) (status : Status) → IsReply words source source' status text → TakesWhole sink sink' text → IsRun words source source' sink sink' status
  whole_run words sink sink' Best out takes = (text, out, takes)
  whole_run words sink sink' NoneFeasible out takes = (text, out, takes)
  whole_run words sink sink' Open out takes = (text, out, takes)
  whole_run words sink sink' Accepted out takes = (text, out, takes)
  whole_run words sink sink' Written out takes = (text, out, takes)
  whole_run words sink sink' (Rejected fault) out takes = (text, out, takes)
  whole_run words sink sink' Usage out takes = (text, out, takes)
  whole_run words sink sink' (BadInput bad) out takes = (text, out, takes)
  whole_run words sink sink' (BadAnswer bad) out takes = (text, out, takes)
  whole_run words sink sink' TooLong out takes = (text, out, takes)
  whole_run words sink sink' NoAnswer out takes = (text, out, takes)
  whole_run words sink sink' ReadFault out takes = (text, out, takes)
  whole_run words sink sink' WriteFault out takes = absurd (no_fault out.0 out.2)
  whole_run words sink sink' NoMemory out takes = absurd (no_want out.0 out.2)
