use Rattle.std.proofs.Common.{List, length, map, slice_index, ap, sym, subst, ◌∙◌, arith}
use Rattle.std.specs.List.Sorted.{IsNonDecreasingBy}
use Rattle.fapp_tables.specs.declared.links.Side.{Side}
use Rattle.fapp_tables.specs.Links.{AreSortedLinks}
use Rattle.fapp_tables.specs.Runs.{IsStart}
use Rattle.fapp_tables.proofs.IndexLaws.{paths-rise, few_heads, are_indexes}
use Rattle.fapp_tables.proofs.tables.Tables.new.Goals as goal

pub starts_of-requires-clause-rising : goal.starts_of-requires-clause-rising
starts_of-requires-clause-rising c =
    let sorted = subst (AreSortedLinks c.args.instance.now) (sym c.deref.ensures.value) c.in_ok-links.ensures in
    subst (IsNonDecreasingBy (λ (a : Side). a.path)) (sym (c.deref-2.ensures.value ∙ c.in_ok-heads.ensures.heads)) (paths-rise c.args.instance.now c.requires c.deref.result.now sorted)

pub starts_of-requires-clause-few : goal.starts_of-requires-clause-few
starts_of-requires-clause-few c =
    let sorted = subst (AreSortedLinks c.args.instance.now) (sym c.deref.ensures.value) c.in_ok-links.ensures in
    omega (arith, few_heads c.args.instance.now c.requires c.deref.result.now sorted, ap length (c.deref-2.ensures.value ∙ c.in_ok-heads.ensures.heads), sorted.count, c.requires.few_records)

pub invariant_of-result : goal.invariant_of-result
invariant_of-result c =
    let links = c.deref.result.now in
    let sorted = subst (AreSortedLinks c.args.instance.now) (sym c.deref.ensures.value) c.in_ok-links.ensures in
    let heads = c.in_ok-heads.ensures.heads in
    record {
      valid = c.requires;
      ordered = c.in_ok-order.ensures;
      indexed = are_indexes c.args.instance.now c.requires links sorted
          c.in_ok-starts.starts.items c.in_ok-neighbours.neighbours.items c.in_ok-heads.field-0.firsts.items c.in_ok-positions.positions.items
          (omega (arith, c.in_ok-starts.ensures.whole, c.len.ensures))
          (λ path most. subst (λ (hs : List Side). IsStart hs path (slice_index c.in_ok-starts.starts.items path)) (c.deref-2.ensures.value ∙ heads) (c.in_ok-starts.ensures.each path (omega (arith, c.len.ensures))))
          (c.in_ok-neighbours.ensures ∙ ap (map (λ (a : Side). a.other)) (c.deref-3.ensures.value ∙ heads))
          (c.in_ok-positions.ensures ∙ ap (map (λ (a : Side). a.position)) (c.deref-4.ensures.value ∙ sym c.deref.ensures.value))
          c.in_ok-heads.ensures.firsts;
    }
