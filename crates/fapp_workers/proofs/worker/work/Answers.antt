use Rattle.std.proofs.Common.{List, [], refl, sym}
use Rattle.std.proofs.lemmas.List.{append-nil}
use Rattle.std.proofs.lemmas.Result.{IfOk-weaker}
use Rattle.nogood_pool.specs.Seats.{view_of}
use Rattle.pool_rows.specs.declared.rows.PoolRows.{PoolRows}
use Rattle.pool_rows.specs.Copying.{Grew}
use Rattle.pool_rows.specs.PoolRows.{AreLater, state_of_rows}
use Rattle.fapp_workers.specs.Jobs.{AreDecided, held}
use Rattle.fapp_workers.specs.Rows.{IsOffersClause, IsRowsClause}
use Rattle.fapp_workers.specs.States.{state_of}
use Rattle.fapp_workers.proofs.Pooling.{offers-clause, rows-clause}
use Rattle.fapp_workers.proofs.worker.work.Goals as goal

grew-none : {X : Type 0} (xs : List X) → Grew xs xs
grew-none xs = record { more = []; are = sym (append-nil xs) }

rows-here : (rows : PoolRows) → AreLater rows rows
rows-here rows = record {
  pool = refl;
  same = (refl, refl);
  view = record { share_is = refl; instance_is = refl; rows_are = refl; published = grew-none (view_of rows.seat).published; trail = grew-none (view_of rows.seat).trail };
}

pub returns-clause-same_rows : goal.returns-clause-same_rows
returns-clause-same_rows g c = c.decide_all.ensures.shared c.args.rows.now (rows-here c.args.rows.now)

pub returns-clause-rows : goal.returns-clause-rows
returns-clause-rows g c =
    let old = held (state_of c.args.bound.now) (state_of_rows c.args.rows.now) c.args.log.now in
    let new = held (state_of c.decide_all.new.bound) (state_of_rows c.decide_all.new.shared) c.decide_all.new.log in
    IfOk-weaker c.decide_all.result (λ done. AreDecided c.args.plan.now c.args.fuel old done.items new) (λ done. IsRowsClause c.args.plan.now old new done.items)
    (λ done h. rows-clause c.args.plan.now c.args.fuel old new done.items c.requires.good h) c.decide_all.ensures.decided

pub returns-clause-offers : goal.returns-clause-offers
returns-clause-offers g c =
    let old = held (state_of c.args.bound.now) (state_of_rows c.args.rows.now) c.args.log.now in
    let new = held (state_of c.decide_all.new.bound) (state_of_rows c.decide_all.new.shared) c.decide_all.new.log in
    IfOk-weaker c.decide_all.result (λ done. AreDecided c.args.plan.now c.args.fuel old done.items new) (λ done. IsOffersClause old new done.items)
    (λ done h. offers-clause c.args.plan.now c.args.fuel old new done.items c.requires.good h) c.decide_all.ensures.decided
