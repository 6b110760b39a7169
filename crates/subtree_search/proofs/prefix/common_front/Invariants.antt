use Rattle.std.proofs.Common.{◌≡◌, take}
use Rattle.subtree_search.proofs.prefix.common_front.Given as goal

-- those before this one are the same
abbrev pub invariant-loop-place : goal.invariant-loop-place
invariant-loop-place l = take l.place l.first ≡ take l.place l.second
