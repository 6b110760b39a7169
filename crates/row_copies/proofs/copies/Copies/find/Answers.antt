use Rattle.std.proofs.Common.{rules, ◌≡◌}
use Rattle.row_copies.proofs.Finding.{none-seen}
use Rattle.row_copies.proofs.copies.Copies.find.Goals as goal

pub returns : goal.returns
returns c =
    let is : c.args.self.now.cites ≡ c.self.inside.cites.items = search rules in
    let past = c.loop-path-test.false in
    none-seen c.self.inside.buckets c.self.inside.cites.items c.self.inside.filed.items c.self.inside.before.items c.self.inside.last.items c.self.inside.paths c.self.invariant.0
    c.args.part.now c.args.target.code c.args.self.now.cites c.as_slice-cites.result.now c.as_slice-filed.result.now c.loop-path.path is
    c.as_slice-cites.ensures.value c.as_slice-filed.ensures.value past c.in_default.ensures c.loop-path.invariant
