use Rattle.std.proofs.Common.{subst, arith}
use Rattle.nogood.specs.declared.row.Published.TheVariants.{Home}
use Rattle.search_log.specs.Shares.{OffersRow}
use Rattle.subtree_search.proofs.Closing.{home-published, read-at}
use Rattle.subtree_search.proofs.offering.publish.Goals as goal

pub returns-in-Home-clause-published : goal.returns-in-Home-clause-published
returns-in-Home-clause-published g c =
    home-published (g.H.Shared.state c.args.shared.now) (g.H.Shared.state c.offer.new.self) c.args.log.now c.home.new.self c.args.place c.in-Home.row c.index-lines-place.result c.home.result
    (read-at c.lines.result.now c.args.log.now.lines c.args.place c.index-lines-place.result c.lines.ensures (omega (arith, c.requires.last)) c.index-lines-place.is)
    (omega (arith, c.if-last-eq0.false))
    (subst (λ lits. OffersRow (g.H.Shared.state c.args.shared.now) (g.H.Shared.state c.offer.new.self) lits c.index-lines-place.result.tag.code (Home c.in-Home.row)) c.as_slice.ensures c.in-Home.ensures.offered)
    c.home.ensures.ok c.home.ensures.err
