use Rattle.tries_laws.proofs.PrefixParts.{prefix-is_partial}
use Rattle.tries_laws.proofs.prefixes.prefixes_are_partial.Goals as goal

pub returns : goal.returns
returns c = prefix-is_partial
