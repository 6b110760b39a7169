use Rattle.std.proofs.Common.{ℕ, ◌<◌, length, get_or}
use Rattle.nogood.specs.declared.row.Row.{Row}
use Rattle.search_log.specs.Shares.{FitsPart, row_content}
use Rattle.search_log.proofs.mem_rows.first_fitting.Given as goal

abbrev pub invariant-loop-place : goal.invariant-loop-place
invariant-loop-place l = (k : ℕ) (d : Row) → k < l.place → k < length l.rows → FitsPart l.part l.target.code (row_content (get_or l.rows k d)) → ⊥
