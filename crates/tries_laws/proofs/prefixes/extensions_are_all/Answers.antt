use Rattle.tries_laws.proofs.Extensions.{extensions-all, extensions-once}
use Rattle.tries_laws.proofs.prefixes.extensions_are_all.Goals as goal

pub returns : goal.returns
returns c = record { all = extensions-all; once = extensions-once }
