-- Rows that a worker copied from a pool, through a seat.
use Rattle.std.specs.Prelude.{◌≡◌, ◌≢◌, ℕ, ◌+◌, ◌-◌, ◌≤◌, Bool, true, false, cond, nat_lt, ◌==◌, List, [], ◌∷◌, ◌++◌, length, map, drop, filter, sum_by, All, Contains}
use Rattle.nogood.specs.declared.row.Row.{Row}
use Rattle.search_log.specs.Contents.{KnownRow, known_row}
use Rattle.search_log.specs.declared.shared.Cite.{Cite}
use Rattle.search_log.specs.Shares.{HaveOneContent, IsServedContent, SharedState, row_content}
use Rattle.nogood_pool.specs.declared.view.HeldRow.{HeldRow}
use Rattle.nogood_pool.specs.declared.view.PoolView.{PoolView}
use Rattle.nogood_pool.specs.declared.view.TrailEntry.{TrailEntry}
use Rattle.nogood_pool.specs.declared.view.TrailEntry.TheVariants.{Counted, Exchanged, Read}
use Rattle.nogood_pool.specs.Pool.{IsPoolRow, below, content_of_row, held_row, once}
use Rattle.nogood_pool.specs.Seats.{Loads}
use Rattle.nogood_pool.specs.PoolSteps.{IsOnlyContent, after_read}
use Rattle.row_copies.specs.Filed.{known_cites}

-- a row that a seat saw or published, as logs cite it
abbrev pub held_known : HeldRow → KnownRow
held_known h = known_row h.row (record { tag = h.content.tag; lits = h.content.lits })

abbrev pub all_known : List HeldRow → List KnownRow
all_known held = map held_known held

abbrev pub cite_of : ℕ → Row → Cite
cite_of row r = record { row = row; content = r }

-- the counter was found at the number of rows, or not as it was expected
abbrev pub is_refusal : ℕ → TrailEntry → ℕ
is_refusal rows (Counted n) = cond (nat_lt n rows) 0 1
is_refusal rows (Exchanged expected found) = cond (expected == found) 0 1
is_refusal rows (Read row word) = 0

abbrev pub refusals_in : PoolView → ℕ
refusals_in v = sum_by (is_refusal v.rows) v.trail

abbrev pub state_of : PoolView → List Cite → SharedState
state_of v cites =
    record {
      copied = known_cites cites;
      published = all_known v.published;
      takes = true;
      refusals = refusals_in v;
    }

abbrev pub in_copies : ℕ → List Cite → ℕ
in_copies row cites = sum_by (λ (cite : Cite). once row cite.row) cites

abbrev pub in_missing : ℕ → List ℕ → ℕ
in_missing row missing = sum_by (λ m. once row m) missing

-- The copies are the last rows that the seat saw. Each row below next was copied once, or is still
-- missing. With the published ones, one number has one content. What was copied is implied.
pub record AreSeatCopies (v : PoolView) (cites : List Cite) (next : ℕ)
    (missing : List ℕ) : Type 0 where
  pub few : length cites ≤ length v.seen
  pub last : known_cites cites ≡ all_known (drop (length v.seen - length cites) v.seen)
  pub one : HaveOneContent (known_cites cites ++ all_known v.published)
  pub served : All (λ (cite : Cite). IsServedContent v.instance (row_content cite.content)) cites
  pub once_each : (row : ℕ) → in_copies row cites + in_missing row missing ≡ below row next
  pub all : length cites + length missing ≡ next
  pub inside : next ≤ v.rows
  pub counted : next ≤ v.counter

-- what a look-up changes of a view beside the trail and the seen rows
pub record Looked (v w : PoolView) : Type 0 where
  pub instance_is : w.instance ≡ v.instance
  pub rows_are : w.rows ≡ v.rows
  pub share_is : w.share ≡ v.share
  pub published : w.published ≡ v.published
  pub refusals : refusals_in v ≤ refusals_in w

-- one row was asked for: it is copied with its content, or it has none yet
abbrev pub TakesRow : PoolView → ℕ → Bool → List Cite → PoolView → List Cite → Type 0
TakesRow v row true old w new =
    (r : Row) × IsPoolRow v.instance (content_of_row r) × IsOnlyContent v row (content_of_row r)
    × (w ≡ after_read v row r.tag.code (held_row row (content_of_row r) ∷ []))
    × (new ≡ old ++ cite_of row r ∷ [])
TakesRow v row false old w new =
    (w ≡ after_read v row 0 []) × ((h : HeldRow) → Contains v.published h → h.row ≢ row)
    × (new ≡ old)

-- no row in some list was published by this seat
abbrev pub NonePublished : PoolView → List ℕ → Type 0
NonePublished v missing = All (λ m. (h : HeldRow) → Contains v.published h → h.row ≢ m) missing

-- others were added at the end
pub record Grew {X : Type 0} (old new : List X) : Type 0 where
  pub more : List X
  pub are : new ≡ old ++ more

-- some rows were asked for
pub record AreRowsAskedFor (v w : PoolView) (old new : List Cite) (next : ℕ)
    (missing : List ℕ) : Type 0 where
  pub looked : Looked v w
  pub gains : Grew old new
  pub copied : AreSeatCopies w new next missing

-- a row with the tag word that was found
abbrev pub read_of : ℕ × ℕ → TrailEntry
read_of p = Read p.0 p.1

abbrev pub is_tagged : ℕ × ℕ → Bool
is_tagged p = nat_lt 0 p.1

abbrev pub word_of : Cite → ℕ × ℕ
word_of cite = (cite.row, cite.content.tag.code)

abbrev pub in_words : ℕ → List (ℕ × ℕ) → ℕ
in_words row words = sum_by (λ p. once row p.0) words

-- Tag words were loaded, in order. Exactly the rows whose word was not 0 were copied; the others
-- are spare.
pub record IsRead (v w : PoolView) (old new : List Cite) (before spare : List ℕ) : Type 0 where
  pub words : List (ℕ × ℕ)
  pub trail : w.trail ≡ v.trail ++ map read_of words
  pub more : List Cite
  pub are : new ≡ old ++ more
  pub found : map word_of more ≡ filter is_tagged words
  pub each : (row : ℕ) → in_words row words + in_missing row before ≡ in_copies row more
      + in_missing row spare

-- A look-up loads the counter, and then the tag word of each row below what it found that was not
-- copied, once. Exactly the rows whose word was not 0 were then copied.
pub record IsLookUp (v w : PoolView) (old new : List Cite) : Type 0 where
  pub count : ℕ
  pub loads : Loads v count
  pub words : List (ℕ × ℕ)
  pub trail : w.trail ≡ (v.trail ++ Counted count ∷ []) ++ map read_of words
  pub more : List Cite
  pub are : new ≡ old ++ more
  pub found : map word_of more ≡ filter is_tagged words
  pub each : (row : ℕ) → in_copies row old + in_words row words ≡ below row count
