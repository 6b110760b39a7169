use Rattle.std.proofs.Common.{◌≡◌, drop}
use Rattle.cert_lines.specs.acceptance.LineFaults.{first_of}
use Rattle.fapp_plan.specs.Outcomes.{settling}
use Rattle.fapp_plan.proofs.verdict.first_settling.Given as goal

abbrev pub invariant-loop-outcome : goal.invariant-loop-outcome
invariant-loop-outcome l = first_of (settling l.tag.code) l.outcomes ≡ first_of (settling l.tag.code) (drop l.outcome-index l.outcomes)
