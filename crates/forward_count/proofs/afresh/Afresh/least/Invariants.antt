use Rattle.std.proofs.Common.{◌≡◌, Bool, map}
use Rattle.std.specs.List.{range_with_len}
use Rattle.dead_laws.specs.ArcLaws.{IsArcs}
use Rattle.fapp_model.specs.declared.literal.Literal.{Literal}
use Rattle.fapp_model.specs.search.Partials.{literal}
use Rattle.choice_counts.specs.Counts.{tally_of}
use Rattle.choice_counts.specs.Tallies.{least_of_tallies}
use Rattle.forward_count.proofs.afresh.Afresh.least.Given as goal

abbrev pub invariant-loop-choice : goal.invariant-loop-choice
invariant-loop-choice l = (arc : Literal → Bool) → IsArcs l.self.instance l.self.level arc →
    l.least ≡ least_of_tallies (map (λ k. tally_of l.self.instance l.self.level arc l.self.pushed (literal l.path k)) (range_with_len 0 l.choice))
