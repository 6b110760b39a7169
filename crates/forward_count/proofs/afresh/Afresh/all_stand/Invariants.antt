use Rattle.std.proofs.Common.{◌<◌, ℕ, get_or}
use Rattle.fapp_model.specs.search.Partials.{literal}
use Rattle.choice_counts.specs.CountedSums.{RemainsAt}
use Rattle.forward_count.proofs.afresh.Afresh.all_stand.Given as goal

abbrev pub invariant-loop-index : goal.invariant-loop-index
invariant-loop-index l = (k : ℕ) → k < l.index → RemainsAt l.self.instance l.self.level l.self.pushed (get_or l.self.pushed k (literal 0 0))
