use Rattle.std.proofs.Common.{◌≡◌, ◌*◌, ◌^◌, ◌≤◌, Bool, sum_by, take}
use Rattle.dead_laws.specs.ArcLaws.{IsArcs}
use Rattle.fapp_model.specs.declared.literal.Literal.{Literal}
use Rattle.choice_counts.specs.Counts.{tally_of}
use Rattle.forward_count.proofs.afresh.Afresh.twice_inside.Given as goal

abbrev pub invariant-loop-index : goal.invariant-loop-index
invariant-loop-index l = record {
  sum : (arc : Literal → Bool) → IsArcs l.self.instance l.self.level arc → l.sum ≡ sum_by (tally_of l.self.instance l.self.level arc l.self.pushed) (take l.index l.self.pushed);
  small : l.sum ≤ l.index * 2 ^ 48;
}
