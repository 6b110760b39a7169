use Rattle.fapp_tables.proofs.RunLaws.{RunsTo}
use Rattle.fapp_tables.proofs.runs.runs_of.Given as goal

abbrev pub invariant-loop-place : goal.invariant-loop-place
invariant-loop-place l = RunsTo l.links l.heads.items l.firsts.items l.place
