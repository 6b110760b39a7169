use Rattle.std.proofs.Common.{length, drop, ap, sym, subst, ◌∙◌, arith}
use Rattle.std.proofs.lemmas.List.{take_at}
use Rattle.fapp_tables.specs.Links.{AreSortedLinks}
use Rattle.fapp_tables.proofs.LinkLaws.{sorted_links}
use Rattle.fapp_tables.proofs.links.sorted_links.Goals as goal

pub returns : goal.returns
returns c =
    let rest = drop (length c.sort_links.new.links) c.in_ok-links.links.items in
    let whole = take_at c.sort_links.new.links rest c.in_ok-links.links.len (omega (arith, c.sort_links.auto.links, ap length c.deref_mut.ensures.value)) in
    subst (AreSortedLinks c.args.instance.now) (sym whole)
    (sorted_links c.args.instance.now c.deref_mut.result.now c.sort_links.new.links c.requires (c.deref_mut.ensures.value ∙ c.in_ok-links.ensures) c.sort_links.ensures.same c.sort_links.ensures.ordered)
