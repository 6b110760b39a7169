use Rattle.std.proofs.Common.{◌≡◌, take}
use Rattle.nogood_pool.specs.Examples.{crowded_paths}
use Rattle.nogood_pool.proofs.tests.crowded_paths.Given as goal

abbrev pub invariant-loop-number : goal.invariant-loop-number
invariant-loop-number l = l.paths ≡ crowded_paths (take l.number-index l.more)
