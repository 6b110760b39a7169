use Rattle.std.proofs.Common.{◌≡◌, ◌+◌, List, ◌++◌, ◌∷◌, [], take, ap, sym, ◌∙◌, arith}
use Rattle.std.proofs.lemmas.List.{take_more}
use Rattle.search_log.specs.Contents.{KnownRow, known_row}
use Rattle.nogood.specs.declared.row.Row.{Row}
use Rattle.nogood_pool.specs.Seats.{view_of}
use Rattle.search_log.specs.NumberedRows.{numbered_rows}
use Rattle.search_log.specs.Shares.{row_content}
use Rattle.fapp_workers.proofs.FirstRows.{home-at, numbered-next, twins-more}
use Rattle.fapp_workers.proofs.first_rows.publish_first.Goals as goal

pub loop-place-preserved : goal.loop-place-preserved
loop-place-preserved c =
    let was = c.loop-place.invariant in
    let place = c.loop-place.place in
    let rows = c.args.first.now in
    let row : Row = c.index-first-place.result in
    let home = home-at (view_of c.loop-place.seat) (view_of c.publish.new.seat) row c.literals.result.now c.in-Home.row was.share c.literals.ensures c.in-Home.ensures.published in
    let same = c.in-Home.ensures.same in
    let next : take (place + 1) rows ≡ take place rows ++ row ∷ [] = take_more rows place row c.loop-place-test.true ∙ ap (λ (r : Row). take place rows ++ r ∷ []) (sym c.index-first-place.is) in
    record {
      own = record { table = same.0 ∙ was.own.table; rows = home.rows_are ∙ was.own.rows; instance_is = home.instance_is ∙ was.own.instance_is };
      share = home.share ∙ was.share;
      counter = home.counter ∙ ap (λ n. n + 1) was.counter;
      published = home.published
          ∙ (ap (λ (known : List KnownRow). known ++ known_row (view_of c.loop-place.seat).counter (row_content row) ∷ []) was.published
          ∙ (ap (λ n. numbered_rows (take place rows) ++ known_row n (row_content row) ∷ []) was.counter
          ∙ sym (numbered-next rows place row c.loop-place-test.true next)));
      placed = twins-more place c.loop-place.placed.items c.push_reserved.new.self.items c.in-Home.row was.placed (home.here ∙ was.counter) c.push_reserved.ensures.items;
      room = let r = was.room in let k = c.push_reserved.ensures.capacity in omega arith;
    }
