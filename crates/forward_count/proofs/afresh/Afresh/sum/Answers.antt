use Rattle.std.proofs.Common.{refl}
use Rattle.forward_count.proofs.AfreshLaws.{seen, sum_is}
use Rattle.forward_count.proofs.afresh.Afresh.sum.Goals as goal

pub returns : goal.returns
returns c = sum_is c.args.self.now.instance c.args.self.now.level c.args.self.now.pushed c.self.inside.partial.now (seen c.self.inside.tables.now c.self.inside.level c.self.inside.pushed.now c.self.inside.partial.now c.self.invariant.1 c.args.self.now c.self.view_is)
    c.requires c.twice_inside.result _ c.open_least.result _ c.twice_inside.ensures.sum c.open_least.ensures.sum refl refl
