use Rattle.std.proofs.Common.{◌≡◌, ◌∙◌, ℕ, List, ap, sym, subst, get_or}
use Rattle.fapp_model.specs.declared.instance.Instance.{Instance}
use Rattle.fapp_model.specs.Instances.{IsInstance}
use Rattle.fapp_tables.specs.Indexes.{neighbours_of, records_of}
use Rattle.choice_counts.proofs.NeighbourLaws.{near_shares, shares_apart}
use Rattle.choice_counts.proofs.table.pair_at.Goals as goal

pub invariant_of-result : goal.invariant_of-result
invariant_of-result c =
    let instance = c.args.tables.now in
    let valid = subst IsInstance c.instance.ensures.value c.instance.ensures.valid in
    let same : get_or c.neighbours.result.now c.args.place 0 ≡ get_or (neighbours_of instance c.args.path) c.args.place 0 = ap (λ (ns : List ℕ). get_or ns c.args.place 0) c.neighbours.ensures in
    record {
      low = c.requires.level;
      apart = λ e. shares_apart instance valid c.args.path (get_or (neighbours_of instance c.args.path) c.args.place 0) (near_shares instance c.args.path c.args.place c.requires.place) (e ∙ same);
      found = c.records_at.ensures ∙ (ap (records_of instance c.args.path) (sym same) ∙ ap (λ (i : Instance). records_of i c.args.path (get_or c.neighbours.result.now c.args.place 0)) (sym c.instance.ensures.value));
    }
