use Rattle.std.proofs.Common.{◌≡◌, take}
use Rattle.fapp_workers.specs.Puts.{puts_from}
use Rattle.fapp_workers.proofs.gather.puts_of.Given as goal

abbrev pub invariant-loop-place : goal.invariant-loop-place
invariant-loop-place l = l.puts.items ≡ puts_from 0 (take l.place l.works)
