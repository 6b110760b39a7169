use Rattle.std.proofs.Common.{[], refl, sym, ◌∙◌, subst}
use Rattle.nogood_pool.specs.Seats.{view_of}
use Rattle.nogood_pool.specs.declared.view.PoolView.{PoolView}
use Rattle.pool_rows.specs.Copying.{AreSeatCopies, AreRowsAskedFor, IsRead, Looked}
use Rattle.pool_rows.proofs.Offering.{implied, looks, none-later}
use Rattle.pool_rows.proofs.Reading.{read-all}
use Rattle.pool_rows.proofs.Since.{rows-on, view-looked}
use Rattle.pool_rows.proofs.AskedRows.{copied-counted}
use Rattle.pool_rows.proofs.calls.PoolRowsShared.lookup.Goals as goal

pub ask_missing-requires-clause-copied : goal.ask_missing-requires-clause-copied
ask_missing-requires-clause-copied c =
    let rows = c.args.self.now in
    subst (λ (v : PoolView). AreSeatCopies v rows.copies.cites rows.next rows.missing.items) (sym c.count-count.ensures.view)
    (copied-counted (view_of rows.seat) c.count-count.result rows.copies.cites rows.next rows.missing.items rows.copied c.count-count.ensures.found.1.counter)

pub ask_new-requires-clause-none : goal.ask_new-requires-clause-none
ask_new-requires-clause-none c = none-later (view_of c.count-count.new.seat) (view_of c.ask_missing.new.seat) c.ask_missing.new.spare.items c.ask_missing.ensures.asked.looked c.ask_missing.ensures.none

pub returns-clause-looks : goal.returns-clause-looks
returns-clause-looks c =
    let rows = c.args.self.now in
    let first = subst (λ (v : PoolView). AreRowsAskedFor v (view_of c.ask_missing.new.seat) rows.copies.cites c.ask_missing.new.copies.cites rows.next c.ask_missing.new.spare.items) c.count-count.ensures.view c.ask_missing.ensures.asked in
    looks (view_of rows.seat) (view_of c.ask_missing.new.seat) (view_of c.ask_new.new.seat) c.count-count.result rows.next rows.copies.cites c.ask_missing.new.copies.cites c.ask_new.new.copies.cites
    c.ask_missing.new.spare.items c.ask_new.new.spare.items c.count-count.ensures.found first c.ask_new.ensures.asked c.ask_new.ensures.none c.args.part.now c.args.target.code c.find.result c.find.ensures

pub returns-clause-implied : goal.returns-clause-implied
returns-clause-implied c =
    let rows = c.args.self.now in
    let first = subst (λ (v : PoolView). AreRowsAskedFor v (view_of c.ask_missing.new.seat) rows.copies.cites c.ask_missing.new.copies.cites rows.next c.ask_missing.new.spare.items) c.count-count.ensures.view c.ask_missing.ensures.asked in
    implied (view_of rows.seat) (view_of c.ask_missing.new.seat) (view_of c.ask_new.new.seat) c.count-count.result rows.next rows.copies.cites c.ask_missing.new.copies.cites c.ask_new.new.copies.cites
    c.ask_missing.new.spare.items c.ask_new.new.spare.items c.count-count.ensures.found first c.ask_new.ensures.asked c.ask_new.ensures.none c.args.part.now c.args.target.code c.find.result c.find.ensures

pub returns-clause-look_up : goal.returns-clause-look_up
returns-clause-look_up c =
    let rows = c.args.self.now in
    let first = subst (λ (v : PoolView). IsRead v (view_of c.ask_missing.new.seat) rows.copies.cites c.ask_missing.new.copies.cites [] c.ask_missing.new.spare.items) c.count-count.ensures.view c.ask_missing.ensures.read in
    read-all (view_of rows.seat) (view_of c.ask_missing.new.seat) (view_of c.ask_new.new.seat) c.count-count.result rows.copies.cites c.ask_missing.new.copies.cites c.ask_new.new.copies.cites
    c.ask_missing.new.spare.items c.ask_new.new.spare.items c.count-count.ensures.found first c.ask_new.ensures.read c.ask_new.ensures.asked.copied

pub returns-clause-since : goal.returns-clause-since
returns-clause-since c =
    let rows = c.args.self.now in
    let counted : PoolView = view_of c.count-count.new.seat in
    let u : PoolView = view_of c.ask_missing.new.seat in
    let w : PoolView = view_of c.ask_new.new.seat in
    let same = c.count-count.ensures.same in
    let missing = c.ask_missing.ensures.same in
    let new = c.ask_new.ensures.same in
    let first = subst (λ (v : PoolView). Looked v u) c.count-count.ensures.view c.ask_missing.ensures.asked.looked in
    λ was h. rows-on was rows _ h refl (new.0 ∙ (missing.0 ∙ same.0), new.1 ∙ (missing.1 ∙ same.1))
    (view-looked (view_of rows.seat) u w c.count-count.result rows.copies.cites c.ask_new.new.copies.cites first c.ask_new.ensures.asked.looked (returns-clause-look_up c))
