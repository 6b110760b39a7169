use Rattle.std.proofs.Common.{length}
use Rattle.fapp_model.specs.Instances.{IsNumber}
use Rattle.cert_merge.proofs.CompactSteps.{AreWritten}
use Rattle.cert_merge.proofs.compacting.compact.Given as goal

-- the lines so far
abbrev pub invariant-loop-place : goal.invariant-loop-place
invariant-loop-place l = record {
  written : AreWritten l.lines l.place l.out.items l.numbers.items;
  few : IsNumber (length l.out.items);
}
