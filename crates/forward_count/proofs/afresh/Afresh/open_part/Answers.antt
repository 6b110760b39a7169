use Rattle.std.proofs.Common.{ap, sym, ◌∙◌}
use Rattle.std.specs.Option.{is_some}
use Rattle.fapp_model.specs.search.Partials.{names}
use Rattle.choice_counts.specs.Counts.{tallies_of}
use Rattle.choice_counts.specs.Tallies.{least_of_tallies, least_part}
use Rattle.choice_counts.proofs.Slots.{named}
use Rattle.forward_count.proofs.AfreshLaws.{open_low, open_taken, seen}
use Rattle.forward_count.proofs.afresh.Afresh.open_part.Goals as goal

pub returns-then-is_some-clause-part : goal.returns-then-is_some-clause-part
returns-then-is_some-clause-part c arc arcs =
    let st = c.args.self.now in
    let f = (seen c.self.inside.tables.now c.self.inside.level c.self.inside.pushed.now c.self.inside.partial.now c.self.invariant.1 c.args.self.now c.self.view_is) in
    let taken = sym (named st.instance st.pushed c.self.inside.partial.now f.held c.args.path) ∙ (sym (c.is_some.ensures ∙ ap is_some c.get.ensures) ∙ c.if-is_some.true) in
    open_taken (names st.pushed c.args.path) (least_part (least_of_tallies (tallies_of st.instance st.level arc st.pushed c.args.path))) taken

pub returns-then-least-lt-HARD-clause-part : goal.returns-then-least-lt-HARD-clause-part
returns-then-least-lt-HARD-clause-part c arc arcs =
    let st = c.args.self.now in
    let f = (seen c.self.inside.tables.now c.self.inside.level c.self.inside.pushed.now c.self.inside.partial.now c.self.invariant.1 c.args.self.now c.self.view_is) in
    let free = sym (named st.instance st.pushed c.self.inside.partial.now f.held c.args.path) ∙ (sym (c.is_some.ensures ∙ ap is_some c.get.ensures) ∙ c.if-is_some.false) in
    open_low (names st.pushed c.args.path) c.least-least.result (least_of_tallies (tallies_of st.instance st.level arc st.pushed c.args.path)) free (c.least-least.ensures arc arcs) c.if-least-lt-HARD.true
