use Rattle.std.proofs.Common.{◌≡◌, ℕ, ◌<◌, length, get_or}
use Rattle.fapp_tables.proofs.DegreeLaws.{degree_so_far}
use Rattle.fapp_tables.proofs.order.degrees_of.Given as goal

abbrev pub invariant-loop-constraint : goal.invariant-loop-constraint
invariant-loop-constraint l = record {
  whole : length l.degrees.items ≡ length l.instance.paths;
  counted : (path : ℕ) → path < length l.instance.paths → get_or l.degrees.items path 0 ≡ degree_so_far l.constraint-items l.constraint-index path;
}
