use Rattle.std.proofs.Common.{◌<◌, ◌∙◌, List, ap, length, subst, sym}
use Rattle.choice_counts.specs.declared.rows.PathTallies.{PathTallies}
use Rattle.choice_counts.specs.Tallies.{tallies_at}
use Rattle.forward_count.proofs.ReadLaws.{least_none, least_some, row_there}
use Rattle.forward_count.proofs.forward.Forward.least_sum.Goals as goal

pub tallies_at-requires : goal.tallies_at-requires
tallies_at-requires c = subst (λ (rs : List PathTallies). c.args.path < length rs) (sym c.deref.ensures.value)
    (row_there c.self.inside.tables.now c.self.inside.level c.self.inside.pushed.items c.self.inside.partial c.self.inside.rows.items c.self.inside.totals c.self.inside.pushed.cap c.self.invariant.1 c.args.self.now c.self.view_is c.args.path c.requires)

pub returns-then-least-lt-HARD : goal.returns-then-least-lt-HARD
returns-then-least-lt-HARD c = least_some c.self.inside.tables.now c.self.inside.level c.self.inside.pushed.items c.self.inside.partial c.self.inside.rows.items c.self.inside.totals c.self.inside.pushed.cap c.self.invariant.1 c.args.self.now c.self.view_is c.args.path c.requires
    c.tallies_at.result.now.least (ap (λ (r : PathTallies). r.least) c.tallies_at.ensures ∙ ap (λ (rs : List PathTallies). (tallies_at rs c.args.path).least) c.deref.ensures.value) c.if-least-lt-HARD.true

pub returns-else-least-lt-HARD : goal.returns-else-least-lt-HARD
returns-else-least-lt-HARD c = least_none c.self.inside.tables.now c.self.inside.level c.self.inside.pushed.items c.self.inside.partial c.self.inside.rows.items c.self.inside.totals c.self.inside.pushed.cap c.self.invariant.1 c.args.self.now c.self.view_is c.args.path c.requires
    c.tallies_at.result.now.least (ap (λ (r : PathTallies). r.least) c.tallies_at.ensures ∙ ap (λ (rs : List PathTallies). (tallies_at rs c.args.path).least) c.deref.ensures.value) c.if-least-lt-HARD.false
