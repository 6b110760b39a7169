use Rattle.choice_counts.specs.Tables.{HasLinks}
use Rattle.choice_counts.proofs.table.blank_table.Given as goal

abbrev pub invariant-loop-path : goal.invariant-loop-path
invariant-loop-path l = HasLinks l.tables l.table.items l.path
