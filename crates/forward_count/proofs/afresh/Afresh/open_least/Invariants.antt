use Rattle.std.proofs.Common.{◌≡◌, ◌*◌, ◌^◌, ◌≤◌, Bool, cond, sum_by}
use Rattle.std.specs.List.{range_with_len}
use Rattle.dead_laws.specs.ArcLaws.{IsArcs}
use Rattle.fapp_model.specs.declared.literal.Literal.{Literal}
use Rattle.fapp_model.specs.search.Partials.{names}
use Rattle.choice_counts.specs.Counts.{tallies_of}
use Rattle.choice_counts.specs.Tallies.{least_of_tallies, least_part}
use Rattle.forward_count.proofs.afresh.Afresh.open_least.Given as goal

abbrev pub invariant-loop-path : goal.invariant-loop-path
invariant-loop-path l = record {
  sum : (arc : Literal → Bool) → IsArcs l.self.instance l.self.level arc →
      l.sum ≡ sum_by (λ p. cond (names l.self.pushed p) 0 (least_part (least_of_tallies (tallies_of l.self.instance l.self.level arc l.self.pushed p)))) (range_with_len 0 l.path);
  small : l.sum ≤ l.path * 2 ^ 48;
}
