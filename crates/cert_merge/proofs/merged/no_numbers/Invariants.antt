use Rattle.std.proofs.Common.{◌≡◌, [], replicate}
use Rattle.cert_merge.proofs.merged.no_numbers.Given as goal

abbrev pub invariant-loop : goal.invariant-loop
invariant-loop l = l.lists.items ≡ replicate l.counter []
