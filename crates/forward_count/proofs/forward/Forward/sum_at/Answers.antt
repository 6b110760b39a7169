use Rattle.std.proofs.Common.{◌<◌, ◌∙◌, List, ap, length, subst, sym}
use Rattle.choice_counts.specs.declared.rows.PathTallies.{PathTallies}
use Rattle.choice_counts.specs.Tallies.{tallies_at, tally_at}
use Rattle.forward_count.proofs.ReadLaws.{sum_read, row_there, tally_there}
use Rattle.forward_count.proofs.forward.Forward.sum_at.Goals as goal

pub tally_of-requires-clause-path : goal.tally_of-requires-clause-path
tally_of-requires-clause-path c = subst (λ (rs : List PathTallies). c.args.path < length rs) (sym c.deref.ensures.value)
    (row_there c.self.inside.tables.now c.self.inside.level c.self.inside.pushed.items c.self.inside.partial c.self.inside.rows.items c.self.inside.totals c.self.inside.pushed.cap c.self.invariant.1 c.args.self.now c.self.view_is c.args.path c.requires.path)

pub tally_of-requires-clause-choice : goal.tally_of-requires-clause-choice
tally_of-requires-clause-choice c = subst (λ (rs : List PathTallies). c.args.choice < length (tallies_at rs c.args.path).tallies) (sym c.deref.ensures.value)
    (tally_there c.self.inside.tables.now c.self.inside.level c.self.inside.pushed.items c.self.inside.partial c.self.inside.rows.items c.self.inside.totals c.self.inside.pushed.cap c.self.invariant.1 c.args.self.now c.self.view_is c.args.path c.args.choice c.requires.path c.requires.choice)

pub returns : goal.returns
returns c = sum_read c.self.inside.tables.now c.self.inside.level c.self.inside.pushed.items c.self.inside.partial c.self.inside.rows.items c.self.inside.totals c.self.inside.pushed.cap c.self.invariant.1 c.args.self.now c.self.view_is c.args.path c.args.choice c.requires.path c.requires.choice
    c.tally_of.result (c.tally_of.ensures ∙ ap (λ (rs : List PathTallies). tally_at (tallies_at rs c.args.path).tallies c.args.choice) c.deref.ensures.value)
