use Rattle.std.proofs.Common.{◌≡◌, ◌≤◌, ◌*◌, take}
use Rattle.fapp_model.specs.declared.level.TheConstants.{MAX_LEVELS}
use Rattle.fapp_model.specs.search.Weights.{bad_before, bad_further}
use Rattle.cert_check.specs.RecordsNamed.{between_at}
use Rattle.cert_check.proofs.between.between.Given as goal

-- the records so far
abbrev pub invariant-loop-place : goal.invariant-loop-place
invariant-loop-place l = record {
  v : l.sum.v ≡ between_at l.instance (take l.place-index l.places) (bad_before l.level) l.a l.b;
  s : l.sum.s ≡ between_at l.instance (take l.place-index l.places) (bad_further l.level) l.a l.b;
  small_v : l.sum.v ≤ l.place-index;
  small_s : l.sum.s ≤ l.place-index * MAX_LEVELS;
}
