-- The rows in which conflicts are shared.
use Rattle.std.specs.Prelude.{List, take}
use Rattle.fapp_model.specs.declared.literal.Literal.{Literal}
use Rattle.nogood.specs.declared.row.Row.{Row}

-- the literals that count
abbrev pub row_literals : Row → List Literal
row_literals row = take row.len row.lits
