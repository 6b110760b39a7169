use Rattle.std.proofs.Common.{◌≡◌, map}
use Rattle.std.specs.List.{range_with_len}
use Rattle.fapp_tables.specs.PathDegrees.{place_of}
use Rattle.fapp_tables.proofs.order.places_of.Given as goal

abbrev pub invariant-loop-path : goal.invariant-loop-path
invariant-loop-path l = l.places.items ≡ map (place_of l.instance) (range_with_len 0 l.path)
