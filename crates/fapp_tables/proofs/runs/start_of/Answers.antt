use Rattle.std.proofs.Common.{ltb, rules}
use Rattle.std.proofs.lemmas.Bool.{ltb-true, ltb-false}
use Rattle.std.proofs.lemmas.List.Sorted.{IsPartitionedBy-ltb, IsPartitionPoint-from_clause}
use Rattle.fapp_tables.specs.declared.links.Side.{Side}
use Rattle.fapp_tables.proofs.runs.start_of.Goals as goal

pub returns : goal.returns
returns c =
    let parted = IsPartitionedBy-ltb (λ (head : Side). head.path) c.args.heads.now c.args.path c.requires in
    let point = IsPartitionPoint-from_clause (λ (head : Side). ltb head.path c.args.path) _ _ c.partition_point.ensures.partitioned parted (λ a r q k. search rules) in
    record {
      within = c.partition_point.ensures.bound;
      before = λ k d least below. ltb-true _ _ (point.0 k d least below);
      behind = λ k d least below. ltb-false _ _ (point.1 k d least below);
    }
