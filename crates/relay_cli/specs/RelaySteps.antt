-- What the steps of a run do.
use Rattle.std.specs.Prelude.{◌≡◌, ◌⊎◌, ◌+◌, ℕ, List}
use Rattle.fapp_io.specs.Counts.{Rose}
use Rattle.fapp_io.specs.Known.{Drops, BytesGrow}
use Rattle.fapp_io.specs.Moments.{SourceMoment, SinkMoment}
use Rattle.fapp_io.specs.Whole.{DropsUpTo, GrowsByFront, IsAllOf}
use Rattle.cert_lines.specs.declared.answer.Verdict.{Verdict}
use Rattle.answer_writer.specs.declared.status.Status.{Status}
use Rattle.answer_writer.specs.declared.status.Status.TheVariants.{ReadFault, TooLong, WriteFault, NoMemory}
use Rattle.fapp_words.specs.declared.options.SolveOptions.{SolveOptions}
use Rattle.fapp_run.specs.declared.reply.Solution.{Solution}
use Rattle.fapp_run.specs.declared.reply.Solution.TheVariants.{Refused}
use Rattle.fapp_run.specs.declared.reply.TheConstants.{MAX_INPUT}
use Rattle.fapp_run.specs.Answers.{Solves, status_of}
use Rattle.fapp_run.specs.Replies.{IsSolveReply}

-- what a source is solved to: that it failed, that it has more than the limit, or what its bytes
-- are solved to
abbrev pub IsSolutionOf : SolveOptions → SourceMoment → SourceMoment → Solution → Type 0
IsSolutionOf options source source' (Refused ReadFault) =
    Rose source.faults source'.faults × DropsUpTo source.left source'.left MAX_INPUT
IsSolutionOf options source source' (Refused TooLong) =
    Drops source.left source'.left (MAX_INPUT + 1)
IsSolutionOf options source source' solution =
    (bytes : List ℕ) × IsAllOf source.left source'.left bytes × Solves options bytes solution

-- how the writing of a status's text ended: with the status, the whole was taken; or the sink
-- failed, and a front of it was taken; or there was no memory, and nothing was taken, or a front of
-- what tells a verdict
abbrev pub IsWriting : Status → List ℕ → SinkMoment → SinkMoment → Status → Type 0
IsWriting status text sink sink' end =
    ((end ≡ status) × BytesGrow sink.taken sink'.taken text)
    ⊎ (((end ≡ WriteFault) × Rose sink.faults sink'.faults
    × GrowsByFront sink.taken sink'.taken text)
    ⊎ ((end ≡ NoMemory) × ((sink' ≡ sink)
    ⊎ ((verdict : Verdict) × (status ≡ status_of verdict)
    × GrowsByFront sink.taken sink'.taken text))))

-- some outcome of `solve` was written so, or there was no memory before
abbrev pub IsRunBy : SolveOptions → SourceMoment → SourceMoment → SinkMoment → SinkMoment → Status →
    Type 0
IsRunBy options source source' sink sink' end =
    ((end ≡ NoMemory) × (sink' ≡ sink))
    ⊎ ((status : Status) × (text : List ℕ) × IsSolveReply options source source' status text
    × IsWriting status text sink sink' end)
