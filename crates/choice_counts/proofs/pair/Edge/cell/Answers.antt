use Rattle.std.proofs.Common.{◌<◌, ℕ, List, All, length, subst}
use Rattle.std.proofs.lemmas.List.Elements.{All-same}
use Rattle.fapp_tables.specs.Indexes.{record_at}
use Rattle.fapp_tables.proofs.PairLaws.{positions_within}
use Rattle.choice_counts.specs.Breaks.{IsSteady}
use Rattle.choice_counts.proofs.CellLaws.{cell_tallies}
use Rattle.choice_counts.proofs.pair.Edge.cell.Goals as goal

pub next_reach-requires : goal.next_reach-requires
next_reach-requires c = record {
  positions = All-same (λ k. k < length c.args.self.now.instance.now.records) c.args.self.now.positions.now _ c.args.self.now.found (positions_within c.args.self.now.instance.now c.args.self.now.path c.args.self.now.other);
}

pub returns-clause-tallies : goal.returns-clause-tallies
returns-clause-tallies c =
    let p = c.args.self.now in
    cell_tallies p.instance.now p.level p.path p.other p.apart c.args.distance (record { reach = c.next_reach.result; same = c.tally_apart.result; other = c.tally_apart-2.result }) c.tally_apart.ensures c.tally_apart-2.ensures
    (subst (λ (ks : List ℕ). All (λ k. IsSteady (record_at p.instance.now k) c.args.distance c.next_reach.result) ks) p.found c.next_reach.ensures.steady)
