-- Rows later than an earlier state are so after one more call.
use Rattle.std.proofs.Common.{◌≡◌, ℕ, List, [], ◌∷◌, ◌++◌, map, refl, sym, ap, ◌∙◌, subst}
use Rattle.std.proofs.lemmas.List.{append_assoc, append-nil}
use Rattle.fapp_model.specs.declared.literal.Literal.{Literal}
use Rattle.nogood.specs.declared.row.Published.{Published}
use Rattle.nogood.specs.declared.row.Published.TheVariants.{Home, Full, Busy, TooLong}
use Rattle.nogood_pool.specs.declared.view.PoolView.{PoolView}
use Rattle.nogood_pool.specs.declared.view.TrailEntry.TheVariants.{Counted, Exchanged}
use Rattle.nogood_pool.specs.Pool.{content, held_row}
use Rattle.nogood_pool.specs.Seats.{IsSameSeat, SeatPublishes, view_of}
use Rattle.nogood_pool.specs.PoolSteps.{after_count}
use Rattle.pool_rows.specs.declared.rows.PoolRows.{PoolRows}
use Rattle.search_log.specs.declared.shared.Cite.{Cite}
use Rattle.pool_rows.specs.Copying.{Grew, IsLookUp, Looked, read_of}
use Rattle.pool_rows.specs.PoolRows.{AreLater, IsLaterView}

grew-none : {X : Type 0} (old new : List X) → new ≡ old → Grew old new
grew-none old new same = record { more = []; are = same ∙ sym (append-nil old) }

grew-on : {X : Type 0} (old mid new : List X) → Grew old mid → Grew mid new → Grew old new
grew-on old mid new g h = record {
  more = g.more ++ h.more;
  are = h.are ∙ (ap (λ l. l ++ h.more) g.are ∙ append_assoc old g.more h.more);
}

view-on : (u v w : PoolView) → IsLaterView u v → IsLaterView v w → IsLaterView u w
view-on u v w g h = record {
  share_is = h.share_is ∙ g.share_is;
  instance_is = h.instance_is ∙ g.instance_is;
  rows_are = h.rows_are ∙ g.rows_are;
  published = grew-on u.published v.published w.published g.published h.published;
  trail = grew-on u.trail v.trail w.trail g.trail h.trail;
}

-- after one call more
pub rows-on : (was rows newer : PoolRows) → AreLater was rows → newer.pool.now ≡ rows.pool.now → IsSameSeat rows.seat newer.seat → IsLaterView (view_of rows.seat) (view_of newer.seat) → AreLater was newer
rows-on was rows newer h pool same view = record {
  pool = pool ∙ h.pool;
  same = (same.0 ∙ h.same.0, same.1 ∙ h.same.1);
  view = view-on (view_of was.seat) (view_of rows.seat) (view_of newer.seat) h.view view;
}

pub view-published : (v w : PoolView) (lits : List Literal) (tag : ℕ) (answer : Published) → SeatPublishes v lits tag answer w → IsLaterView v w
view-published v w lits tag TooLong p =
    subst (IsLaterView v) (sym p.1) (record { share_is = refl; instance_is = refl; rows_are = refl; published = grew-none v.published v.published refl; trail = grew-none v.trail v.trail refl })
view-published v w lits tag (Full n) p =
    subst (IsLaterView v) (sym p.3) (record { share_is = refl; instance_is = refl; rows_are = refl; published = grew-none v.published v.published refl; trail = record { more = Counted n ∷ []; are = refl } })
view-published v w lits tag (Busy n m) p = subst (IsLaterView v) (sym p.6) (record {
  share_is = refl;
  instance_is = refl;
  rows_are = refl;
  published = grew-none v.published v.published refl;
  trail = record { more = Counted n ∷ Exchanged n m ∷ []; are = append_assoc v.trail (Counted n ∷ []) (Exchanged n m ∷ []) };
})
view-published v w lits tag (Home row) p = subst (IsLaterView v) (sym p.3) (record {
  share_is = refl;
  instance_is = refl;
  rows_are = refl;
  published = record { more = held_row row (content lits tag) ∷ []; are = refl };
  trail = record { more = Counted row ∷ Exchanged row row ∷ []; are = append_assoc v.trail (Counted row ∷ []) (Exchanged row row ∷ []) };
})

pub view-looked : (v u w : PoolView) (n : ℕ) (old new : List Cite) → Looked (after_count v n) u → Looked u w → IsLookUp v w old new → IsLaterView v w
view-looked v u w n old new first second look_up = record {
  share_is = second.share_is ∙ first.share_is;
  instance_is = second.instance_is ∙ first.instance_is;
  rows_are = second.rows_are ∙ first.rows_are;
  published = grew-none v.published w.published (second.published ∙ first.published);
  trail = record {
    more = Counted look_up.count ∷ map read_of look_up.words;
    are = look_up.trail ∙ append_assoc v.trail (Counted look_up.count ∷ []) (map read_of look_up.words);
  };
}
