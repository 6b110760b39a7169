use Rattle.tries_laws.proofs.ListPlaces.{length-by_length}
use Rattle.tries_laws.proofs.prefixes.lists_along_by_length.Goals as goal

pub returns : goal.returns
returns c = length-by_length
