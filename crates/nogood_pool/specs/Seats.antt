-- Words of the contracts: what a seat knows, and which pool it belongs to.
use Rattle.std.specs.Prelude.{◌≡◌, ◌≢◌, ◌⊎◌, ℕ, ◌<◌, ◌≤◌, List, [], ◌∷◌, length, Contains, Option, Some, None}
use Rattle.seat_laws.specs.declared.TheConstants.{WHOLE_SHARE}
use Rattle.fapp_model.specs.declared.instance.Instance.{Instance}
use Rattle.fapp_model.specs.declared.literal.Literal.{Literal}
use Rattle.nogood.specs.declared.row.Row.{Row}
use Rattle.nogood.specs.declared.row.Published.{Published}
use Rattle.nogood.specs.declared.row.Published.TheVariants.{Home, Full, Busy, TooLong}
use Rattle.nogood_pool.specs.declared.view.Content.{Content}
use Rattle.nogood_pool.specs.declared.view.PoolView.{PoolView}
use Rattle.nogood_pool.specs.declared.seat.Pool.{Pool}
use Rattle.nogood_pool.specs.declared.seat.PoolSeat.{PoolSeat}
use Rattle.nogood_pool.specs.Pool.{IsPoolRow, content, content_of_row, held_row}
use Rattle.nogood_pool.specs.PoolSteps.{IsBehind, IsOnlyContent, after_count, after_draw, after_miss, after_publish, after_read}

abbrev pub view_of : PoolSeat → PoolView
view_of s = s.seat.me.0

abbrev pub instance_seen : Pool → Instance
instance_seen p = p.table.shared.key.instance.value

pub record IsSeatOf (p : Pool) (s : PoolSeat) : Type 0 where
  pub table : s.seat.table_id ≡ p.table.shared.table_id
  pub rows : (view_of s).rows ≡ p.rows
  pub instance_is : (view_of s).instance ≡ instance_seen p

abbrev pub IsSameSeat : PoolSeat → PoolSeat → Type 0
IsSameSeat s t = (t.seat.table_id ≡ s.seat.table_id) × (t.seat.id ≡ s.seat.id)

-- the load of the counter that begins a call
abbrev pub Loads : PoolView → ℕ → Type 0
Loads v n = (n ≤ v.rows) × IsBehind v n × (v.share ≡ WHOLE_SHARE → n ≡ v.counter)

-- what `publish` answers, and what the seat then knows
abbrev pub SeatPublishes : PoolView → List Literal → ℕ → Published → PoolView → Type 0
SeatPublishes v lits tag TooLong w = (8 < length lits) × (w ≡ v)
SeatPublishes v lits tag (Full n) w =
    (length lits ≤ 8) × (v.rows ≤ n) × Loads v n × (w ≡ after_count v n)
SeatPublishes v lits tag (Busy n m) w =
    (length lits ≤ 8) × (n < v.rows) × Loads v n × (n < m) × (m ≤ v.rows) × (v.share ≢ WHOLE_SHARE)
    × (w ≡ after_miss (after_count v n) n m)
SeatPublishes v lits tag (Home row) w =
    (length lits ≤ 8) × (row < v.rows) × Loads v row
    × (w ≡ after_publish (after_draw (after_count v row) row (content lits tag)) row
    (content lits tag))

-- what `get` answers of a row, and what the seat then knows
abbrev pub SeatReads : PoolView → ℕ → Option Row → PoolView → Type 0
SeatReads v row None w =
    (w ≡ after_read v row 0 []) × ((c : Content) → Contains v.published (held_row row c)
    ⊎ Contains v.seen (held_row row c) → ⊥)
SeatReads v row (Some r) w =
    IsPoolRow v.instance (content_of_row r) × IsOnlyContent v row (content_of_row r)
    × (w ≡ after_read v row r.tag.code (held_row row (content_of_row r) ∷ []))

-- the same where a load of the counter may come first
abbrev pub Gets : PoolView → ℕ → Option Row → PoolView → Type 0
Gets v row o w =
    ((row < v.counter) × SeatReads v row o w)
    ⊎ ((v.counter ≤ row) × ((n : ℕ) × Loads v n × SeatReads (after_count v n) row o w))
