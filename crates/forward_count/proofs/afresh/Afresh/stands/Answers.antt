use Rattle.forward_count.proofs.AfreshLaws.{remains_is, seen}
use Rattle.forward_count.proofs.afresh.Afresh.stands.Goals as goal

pub returns : goal.returns
returns c = remains_is c.args.self.now.instance c.args.self.now.level c.args.self.now.pushed c.self.inside.partial.now (seen c.self.inside.tables.now c.self.inside.level c.self.inside.pushed.now c.self.inside.partial.now c.self.invariant.1 c.args.self.now c.self.view_is) c.args.literal c.tally.result c.tally.ensures
