use Rattle.std.proofs.lemmas.Bool.{eq-eqb, eqb-true}
use Rattle.forward_count.proofs.DeadLaws.{calm_here, here_calm, seen}
use Rattle.forward_count.proofs.forward.Forward.is_calm_here.Goals as goal

pub returns-then-self-eq0 : goal.returns-then-self-eq0
returns-then-self-eq0 c =
    let f = (seen c.self.inside.tables.now c.self.inside.level c.self.inside.pushed.items c.self.inside.partial c.self.inside.rows.items c.self.inside.totals c.self.inside.pushed.cap c.self.invariant.1 c.args.self.now c.self.view_is) in (
      λ h. calm_here c.args.self.now.instance c.args.self.now.level c.args.self.now.pushed c.self.inside.partial c.self.inside.rows.items c.self.inside.totals c.self.inside.pushed.cap f c.if-self-eq0.true (eqb-true c.self.inside.totals.open_paths.stuck 0 h),
      λ calm. eq-eqb c.self.inside.totals.open_paths.stuck 0 (here_calm c.args.self.now.instance c.args.self.now.level c.args.self.now.pushed c.self.inside.partial c.self.inside.rows.items c.self.inside.totals c.self.inside.pushed.cap f calm).1,
    )

pub returns-else-self-eq0 : goal.returns-else-self-eq0
returns-else-self-eq0 c =
    let f = (seen c.self.inside.tables.now c.self.inside.level c.self.inside.pushed.items c.self.inside.partial c.self.inside.rows.items c.self.inside.totals c.self.inside.pushed.cap c.self.invariant.1 c.args.self.now c.self.view_is) in (
      λ h. absurd (c.if-self-eq0.false (eqb-true c.self.inside.totals.conflicts 0 h)),
      λ calm. eq-eqb c.self.inside.totals.conflicts 0 (here_calm c.args.self.now.instance c.args.self.now.level c.args.self.now.pushed c.self.inside.partial c.self.inside.rows.items c.self.inside.totals c.self.inside.pushed.cap f calm).0,
    )
