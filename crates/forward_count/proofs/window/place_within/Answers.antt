use Rattle.std.proofs.Common.{◌-◌, leb, rules, arith}
use Rattle.std.proofs.lemmas.Bool.{leb-false, leb-true}
use Rattle.std.proofs.lemmas.List.Sorted.{IsPartitionedBy-leb, IsPartitionPoint-from_clause}
use Rattle.forward_count.proofs.WindowLaws.{rising_by}
use Rattle.forward_count.proofs.window.place_within.Goals as goal

pub returns-clause-below : goal.returns-clause-below
returns-clause-below c place before =
    let last = c.args.freq - c.args.far in
    let parted = IsPartitionedBy-leb (λ n. n) c.args.freqs.now last (rising_by c.args.freqs.now c.requires) in
    let point = IsPartitionPoint-from_clause (λ n. leb n last) _ _ c.partition_point.ensures.partitioned parted (λ a r q k. search rules) in
    omega (arith, leb-true _ _ (point.0 place 0 (omega arith) before), c.if-far-from.false, c.from.ensures)

pub returns-clause-near : goal.returns-clause-near
returns-clause-near c place from inside =
    let last = c.args.freq - c.args.far in
    let parted = IsPartitionedBy-leb (λ n. n) c.args.freqs.now last (rising_by c.args.freqs.now c.requires) in
    let point = IsPartitionPoint-from_clause (λ n. leb n last) _ _ c.partition_point.ensures.partitioned parted (λ a r q k. search rules) in
    omega (arith, leb-false _ _ (point.1 place 0 from inside), c.if-far-from.false, c.from.ensures)
