use Rattle.std.proofs.Common.{◌≡◌, ◌<◌, length, map, ap, ◌∙◌, arith}
use Rattle.std.specs.List.{range_with_len}
use Rattle.std.proofs.lemmas.List.FromFn.{length-map-range_with_len}
use Rattle.fapp_model.specs.search.WorkOrder.{degree}
use Rattle.fapp_tables.specs.PathDegrees.{place_of}
use Rattle.fapp_tables.proofs.PlaceLaws.{places_more}
use Rattle.fapp_tables.proofs.order.places_of.Goals as goal

inside : (c : goal.After-row_known-1) → c.loop-path.path < length c.args.instance.now.paths
inside c = omega (arith, ap length c.in_ok-degrees.ensures, length-map-range_with_len (degree c.args.instance.now) 0 (length c.args.instance.now.paths))

pub overflow_cast-path : goal.overflow_cast-path
overflow_cast-path c = omega (arith, inside c, c.requires.few_paths)

pub loop-path-preserved : goal.loop-path-preserved
loop-path-preserved c =
    places_more c.args.instance.now c.loop-path.path (length c.args.instance.now.paths) c.in_ok-degrees.degrees.items c.index.result.now c.loop-path.places.items c.push.new.self.items
    c.in_ok-degrees.ensures (omega (arith, ap length c.in_ok-degrees.ensures, length-map-range_with_len (degree c.args.instance.now) 0 (length c.args.instance.now.paths))) c.index.ensures c.loop-path.invariant c.in_ok-push.ensures.items

pub returns : goal.returns
returns c =
    let whole : c.loop-path.path ≡ length c.args.instance.now.paths =
    omega (arith, ap length c.in_ok-degrees.ensures, length-map-range_with_len (degree c.args.instance.now) 0 (length c.args.instance.now.paths)) in
    c.loop-path.invariant ∙ ap (λ n. map (place_of c.args.instance.now) (range_with_len 0 n)) whole
