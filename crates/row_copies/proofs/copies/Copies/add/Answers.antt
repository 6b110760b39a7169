use Rattle.std.proofs.Common.{rules, sym, arith, ap, ◌∙◌, ◌≡◌, ◌++◌, ◌∷◌, ◌+◌, [], length, slice_index, length-set}
use Rattle.std.proofs.lemmas.List.{length-append}
use Rattle.row_copies.proofs.Filing.{filed-add}
use Rattle.row_copies.proofs.copies.Copies.add.Goals as goal

pub invariant_of-self : goal.invariant_of-self
invariant_of-self c =
    let own = c.self.invariant in
    let was = c.self.inside in
    let is = c.number_at-before.ensures ∙ ap (λ l. slice_index l c.bucket_for-bucket.result) c.as_slice-2.ensures.value in
    let count : length c.as_slice-count.result.now + 1 ≡ length was.cites.items + 1 = ap (λ l. length l + 1) c.as_slice-count.ensures.value in
    let viewed : c.args.self.now.cites ≡ was.cites.items = search rules in
    let room : c.args.self.now.room ≡ was.room = search rules in
    let less = c.requires in (
      filed-add was.buckets was.cites.items was.filed.items was.before.items was.last.items was.paths c.paths_of-self-inside.result c.bucket_for-bucket.result c.args.cite
          c.push_reserved.new.self.items c.push_reserved-2.new.self.items c.push_reserved-3.new.self.items (length c.as_slice-count.result.now + 1) c.literals-lits.result.now
          own.0 c.literals-lits.ensures c.bucket_for-bucket.ensures c.paths_of-self-inside.ensures.more c.paths_of-self-inside.ensures.few c.paths_of-self-inside.ensures.below
          c.push_reserved.ensures.items c.push_reserved-2.ensures.items (c.push_reserved-3.ensures.items ∙ ap (λ n. was.before.items ++ n ∷ []) is) count,
      length-set was.sizes.items c.bucket_for-bucket.result c.saturating_add.result ∙ (own.1 ∙ sym (length-set was.last.items c.bucket_for-bucket.result (length c.as_slice-count.result.now + 1))),
      omega (arith, own.2, c.push_reserved.ensures.capacity),
      omega (arith, own.3, c.push_reserved-2.ensures.capacity),
      omega (arith, own.4, c.push_reserved-3.ensures.capacity),
      omega (arith, less, ap length c.push_reserved.ensures.items, ap length viewed, room, length-append was.cites.items (c.args.cite ∷ [])),
    )
