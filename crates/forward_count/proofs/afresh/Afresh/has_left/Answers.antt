use Rattle.std.proofs.Common.{ap, refl, sym, ◌∙◌}
use Rattle.std.specs.Option.{is_some}
use Rattle.forward_count.proofs.AfreshLaws.{left_is, left_taken, seen}
use Rattle.forward_count.proofs.afresh.Afresh.has_left.Goals as goal

pub returns-then-is_some : goal.returns-then-is_some
returns-then-is_some c =
    let taken = sym (c.is_some.ensures ∙ ap is_some c.get.ensures) ∙ c.if-is_some.true in
    (λ _. left_taken c.args.self.now.instance c.args.self.now.level c.args.self.now.pushed c.self.inside.partial.now (seen c.self.inside.tables.now c.self.inside.level c.self.inside.pushed.now c.self.inside.partial.now c.self.invariant.1 c.args.self.now c.self.view_is) c.args.path taken, λ _. refl)

pub returns : goal.returns
returns c =
    let free = sym (c.is_some.ensures ∙ ap is_some c.get.ensures) ∙ c.if-is_some.false in
    left_is c.args.self.now.instance c.args.self.now.level c.args.self.now.pushed c.self.inside.partial.now (seen c.self.inside.tables.now c.self.inside.level c.self.inside.pushed.now c.self.inside.partial.now c.self.invariant.1 c.args.self.now c.self.view_is) c.args.path c.least.result free c.least.ensures
