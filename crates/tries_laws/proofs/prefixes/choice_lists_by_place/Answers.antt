use Rattle.tries_laws.proofs.ListPlaces.{list_at_place}
use Rattle.tries_laws.proofs.prefixes.choice_lists_by_place.Goals as goal

pub returns : goal.returns
returns c = list_at_place
