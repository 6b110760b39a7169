use Rattle.std.proofs.Common.{◌≡◌, length, drop, map, ap, ◌∙◌, arith}
use Rattle.std.proofs.lemmas.List.{take_at}
use Rattle.std.proofs.lemmas.Result.{IfOk-weaker}
use Rattle.fapp_model.specs.search.WorkOrder.{work_order}
use Rattle.fapp_model.proofs.WorkOrders.{order-one}
use Rattle.fapp_tables.specs.declared.order.Place.{Place}
use Rattle.fapp_tables.proofs.PlaceLaws.{order_of_places}
use Rattle.fapp_tables.proofs.order.work_order.Goals as goal

pub returns : goal.returns
returns c =
    let instance = c.args.instance.now in
    let sorted = c.sort_places.new.places in
    let whole = take_at sorted (drop (length sorted) c.in_ok-places.places.items) c.in_ok-places.places.len (omega (arith, c.sort_places.auto.places, ap length c.deref_mut.ensures.value)) in
    let is = order_of_places instance c.requires c.deref_mut.result.now sorted (c.deref_mut.ensures.value ∙ c.in_ok-places.ensures) c.sort_places.ensures.same c.sort_places.ensures.ordered in
    IfOk-weaker c.paths_of.result (λ order. order.items ≡ map (λ (p : Place). p.path) c.deref.result.now) (λ order. order.items ≡ work_order instance)
    (λ order e. e ∙ (ap (map (λ (p : Place). p.path)) (c.deref.ensures.value ∙ whole) ∙ order-one instance (map (λ (p : Place). p.path) sorted) is))
    c.paths_of.ensures
