use Rattle.std.proofs.Common.{ltb, rules, arith}
use Rattle.std.proofs.lemmas.Bool.{ltb-true, ltb-false}
use Rattle.std.proofs.lemmas.List.Sorted.{IsPartitionedBy-ltb, IsPartitionPoint-from_clause}
use Rattle.arc_levels.proofs.LeftLaws.{rising_by}
use Rattle.arc_levels.proofs.left.place_of.Goals as goal

pub returns : goal.returns
returns c =
    let parted = IsPartitionedBy-ltb (λ n. n) c.args.freqs.now c.args.next (rising_by c.args.freqs.now c.requires) in
    let point = IsPartitionPoint-from_clause (λ n. ltb n c.args.next) _ _ c.partition_point.ensures.partitioned parted (λ a r q k. search rules) in
    record {
      within = c.partition_point.ensures.bound;
      before = λ k below. ltb-true _ _ (point.0 k 0 (omega arith) below);
      behind = λ k high below. ltb-false _ _ (point.1 k 0 high below);
    }
