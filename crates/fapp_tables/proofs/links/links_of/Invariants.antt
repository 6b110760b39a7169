use Rattle.std.proofs.Common.{◌≡◌, flat_map}
use Rattle.std.specs.List.{range_with_len}
use Rattle.fapp_tables.specs.Links.{links_at}
use Rattle.fapp_tables.proofs.links.links_of.Given as goal

abbrev pub invariant-loop-index : goal.invariant-loop-index
invariant-loop-index l = l.links.items ≡ flat_map (links_at l.instance) (range_with_len 0 l.index)
