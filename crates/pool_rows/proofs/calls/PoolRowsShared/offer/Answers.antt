use Rattle.std.proofs.Common.{rules, refl}
use Rattle.nogood_pool.specs.Seats.{view_of}
use Rattle.pool_rows.proofs.Offering.{copied-still, offered}
use Rattle.pool_rows.proofs.Since.{rows-on, view-published}
use Rattle.pool_rows.proofs.calls.PoolRowsShared.offer.Goals as goal

pub invariant_of-self : goal.invariant_of-self
invariant_of-self c =
    let rows = c.args.self.now in
    record {
      own = search rules;
      room = rows.room;
      empty = rows.empty;
      copied = copied-still (view_of rows.seat) (view_of c.publish.new.seat) rows.copies.cites rows.next rows.missing.items rows.copied c.args.lits.now c.args.tag.code c.publish.result c.publish.ensures.published;
    }

pub returns-clause-offered : goal.returns-clause-offered
returns-clause-offered c =
    let rows = c.args.self.now in
    offered (view_of rows.seat) (view_of c.publish.new.seat) rows.copies.cites rows.next rows.missing.items rows.copied c.args.lits.now c.args.tag.code c.publish.result c.publish.ensures.published

pub returns-clause-since : goal.returns-clause-since
returns-clause-since c = λ was h. rows-on was c.args.self.now _ h refl c.publish.ensures.same
    (view-published (view_of c.args.self.now.seat) (view_of c.publish.new.seat) c.args.lits.now c.args.tag.code c.publish.result c.publish.ensures.published)
