use Rattle.std.proofs.Common.{◌≡◌, ◌≤◌, ◌*◌, false, take, sum_by}
use Rattle.std.specs.List.{list_any}
use Rattle.fapp_model.specs.search.Clashes.{clashes_with}
use Rattle.fapp_model.specs.search.Weights.{between, bad_before, bad_further}
use Rattle.cert_check.specs.Weights.{row_most}
use Rattle.cert_check.proofs.judging.own_weight.Given as goal

-- the literals so far
abbrev pub invariant-loop-a : goal.invariant-loop-a
invariant-loop-a l = record {
  calm : list_any (clashes_with l.scene.instance.now l.scene.level l.literals) (take l.a-index l.literals) ≡ false;
  v : l.sum.v ≡ sum_by (λ a. sum_by (λ b. between l.scene.instance.now (bad_before l.scene.level) a b) l.literals) (take l.a-index l.literals);
  s : l.sum.s ≡ sum_by (λ a. sum_by (λ b. between l.scene.instance.now (bad_further l.scene.level) a b) l.literals) (take l.a-index l.literals);
  small_v : l.sum.v ≤ l.a-index * row_most;
  small_s : l.sum.s ≤ l.a-index * row_most;
}
