use Rattle.std.proofs.Common.{◌≡◌, ◌+◌, ◌*◌, ◌^◌, ◌≤◌, [], Bool, sum_by, take}
use Rattle.dead_laws.specs.ArcLaws.{IsArcs}
use Rattle.fapp_model.specs.declared.literal.Literal.{Literal}
use Rattle.fapp_model.specs.search.Partials.{literal}
use Rattle.fapp_tables.specs.Indexes.{neighbours_of}
use Rattle.nogood.specs.Partials.{choice_given}
use Rattle.choice_counts.specs.Counts.{pair_tally, slot_part, tally_of}
use Rattle.forward_count.proofs.afresh.Afresh.tally.Given as goal

abbrev pub invariant-loop-place : goal.invariant-loop-place
invariant-loop-place l = record {
  sum : (arc : Literal → Bool) → IsArcs l.self-inside.tables.now l.self-inside.level arc → l.tally ≡ tally_of l.self-inside.tables.now l.self-inside.level arc [] (literal l.path l.choice)
      + sum_by (λ p. slot_part (pair_tally l.self-inside.tables.now l.self-inside.level (literal l.path l.choice)) p (choice_given l.self-inside.partial.now p)) (take l.place (neighbours_of l.self-inside.tables.now l.path));
  small : l.tally ≤ 2 ^ 48 + l.place * 2 ^ 49;
}
