use Rattle.std.proofs.Common.{◌≡◌}
use Rattle.arc_levels.specs.Left.{left_freqs}
use Rattle.arc_levels.proofs.left.left_at.Given as goal

abbrev pub invariant-loop-index : goal.invariant-loop-index
invariant-loop-index l = l.freqs.items ≡ left_freqs l.instance l.level l.removals.rows.items l.path l.polarization l.index
