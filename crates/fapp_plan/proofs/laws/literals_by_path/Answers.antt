use Rattle.fapp_plan.proofs.ByPath.{from-by_path, in-by_path, length-by_path, ordered-by_path}
use Rattle.fapp_plan.proofs.laws.literals_by_path.Goals as goal

pub returns : goal.returns
returns c = record {
  members = λ literals a. (from-by_path literals a, in-by_path literals a);
  count = length-by_path;
  ascending = ordered-by_path;
}
