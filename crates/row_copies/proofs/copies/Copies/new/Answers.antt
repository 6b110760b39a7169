use Rattle.std.proofs.Common.{rules}
use Rattle.row_copies.proofs.Filing.{filed-start}
use Rattle.row_copies.proofs.copies.Copies.new.Goals as goal

pub invariant_of-result : goal.invariant_of-result
invariant_of-result c =
    let is = c.in_ok-vec.ensures.items_if_clones_equal (λ y e. e) in (
      filed-start c.buckets_for-buckets.result c.in_ok-with_capacity.field-0.items c.in_ok-with_capacity-2.field-0.items c.in_ok-with_capacity-3.field-0.items c.in_ok-vec.field-0.items
          c.in_ok-with_capacity.ensures.items c.in_ok-with_capacity-2.ensures.items c.in_ok-with_capacity-3.ensures.items c.buckets_for-buckets.ensures.0 is (search rules),
      search rules,
      search rules,
      search rules,
      search rules,
      search rules,
    )
