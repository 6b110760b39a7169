use Rattle.std.proofs.Common.{◌≡◌, take, map, IsTrue}
use Rattle.fapp_model.specs.Tags.{is_code}
use Rattle.fapp_plan.specs.Outcomes.{greatest_of, refuted_code}
use Rattle.fapp_plan.proofs.verdict.greatest_tag.Given as goal

abbrev pub invariant-loop-outcome : goal.invariant-loop-outcome
invariant-loop-outcome l = record {
  is_tag : IsTrue (is_code l.greatest.0);
  so_far : l.greatest.0 ≡ greatest_of (map refuted_code (take l.outcome-index l.outcomes));
}
