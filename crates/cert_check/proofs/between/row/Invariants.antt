use Rattle.std.proofs.Common.{◌≡◌, ◌≤◌, ◌*◌, take}
use Rattle.fapp_model.specs.search.Weights.{bad_before, bad_further}
use Rattle.cert_check.specs.RecordsNamed.{row_at}
use Rattle.cert_check.specs.Weights.{pair_most}
use Rattle.cert_check.proofs.between.row.Given as goal

-- the literals so far
abbrev pub invariant-loop-b : goal.invariant-loop-b
invariant-loop-b l = record {
  v : l.sum.v ≡ row_at l.instance l.places (bad_before l.level) (take l.b-index l.literals) l.a;
  s : l.sum.s ≡ row_at l.instance l.places (bad_further l.level) (take l.b-index l.literals) l.a;
  small_v : l.sum.v ≤ l.b-index * pair_most;
  small_s : l.sum.s ≤ l.b-index * pair_most;
}
