-- The words and what the seats know of them.
use Rattle.std.specs.Prelude.{◌≡◌, ◌≢◌, ℕ, ◌+◌, ◌-◌, ◌*◌, ◌/◌, ◌<◌, ◌≤◌, ◌==◌, nat_lt, Bool, true, false, cond, List, [], ◌++◌, length, map, max, slice_index, sum_by, All, Contains, IsTrue, Option, Some, None, IfSome, take}
use Rattle.seat_laws.specs.declared.TheConstants.{WHOLE_SHARE}
use Rattle.seat_laws.specs.Shares as seats
use Rattle.seat_laws.specs.Shares.{IsShared}
use Rattle.atomic_table.specs.Table.{State}
use Rattle.nogood.specs.declared.row.Row.{Row}
use Rattle.nogood_pool.specs.declared.view.Content.{Content}
use Rattle.nogood_pool.specs.declared.view.HeldRow.{HeldRow}
use Rattle.nogood_pool.specs.declared.view.PoolView.{PoolView}
use Rattle.nogood_pool.specs.declared.view.RowInWriting.{RowInWriting}
use Rattle.fapp_model.specs.declared.instance.Instance.{Instance}
use Rattle.fapp_model.specs.declared.literal.Literal.{Literal}
use Rattle.fapp_model.specs.search.Implied.{Implied}
use Rattle.fapp_model.specs.search.Partials.{AreLiterals}
use Rattle.fapp_model.specs.Tags.{IsTagOf, is_code, triple_from}

abbrev pub Words : Type 0
Words = State Row PoolView

-- word 0 is how many rows were drawn
abbrev pub counter_of : List ℕ → ℕ
counter_of ws = slice_index ws 0

-- the tag word of a row, at 0, and its literal words, from 1 on
abbrev pub cell : List ℕ → ℕ → ℕ → ℕ
cell ws row k = slice_index ws (1 + 9 * row + k)

abbrev pub literal_word : Literal → ℕ
literal_word a = 1 + 65536 * a.path + a.choice

-- a literal word of a content, 0 past its literals
abbrev pub pool_word_at : List Literal → ℕ → ℕ
pool_word_at lits k = slice_index (map literal_word lits) k

abbrev pub content : List Literal → ℕ → Content
content lits tag = record { lits = lits; tag = tag }

abbrev pub held_row : ℕ → Content → HeldRow
held_row row c = record { row = row; content = c }

abbrev pub content_of_row : Row → Content
content_of_row r = record { lits = take r.len r.lits; tag = r.tag.code }

-- what may be published: literals of the instance, ascending, implied at a tag of the instance
-- above (0, 0, 0)
pub record IsPoolRow (instance : Instance) (c : Content) : Type 0 where
  pub literals : AreLiterals instance c.lits
  pub code : IsTrue (is_code c.tag)
  pub tag : IsTagOf instance (triple_from c.tag)
  pub above : 0 < c.tag
  pub implied : Implied instance (triple_from c.tag) c.lits

-- what eight words can hold
pub record AreShort (lits : List Literal) : Type 0 where
  pub most : length lits ≤ 8
  pub narrow : All (λ a. (a.path < 65536) × (a.choice < 65536)) lits

-- the row holds the content
pub record IsHeld (instance : Instance) (ws : List ℕ) (h : HeldRow) : Type 0 where
  pub drawn : h.row < counter_of ws
  pub short : AreShort h.content.lits
  pub tag : cell ws h.row 0 ≡ h.content.tag
  pub lits : (k : ℕ) → k < 8 → cell ws h.row (1 + k) ≡ pool_word_at h.content.lits k
  pub valid : IsPoolRow instance h.content

-- the row has no tag yet, and as many of its literals as were stored
pub record IsRowInWriting (instance : Instance) (ws : List ℕ) (w : RowInWriting) : Type 0 where
  pub drawn : w.row < counter_of ws
  pub short : AreShort w.content.lits
  pub within : w.stored ≤ length w.content.lits
  pub tag : cell ws w.row 0 ≡ 0
  pub done : (k : ℕ) → k < w.stored → cell ws w.row (1 + k) ≡ pool_word_at w.content.lits k
  pub left : (k : ℕ) → w.stored ≤ k → k < 8 → cell ws w.row (1 + k) ≡ 0
  pub valid : IsPoolRow instance w.content

abbrev pub is_spent : PoolView → Bool
is_spent v = v.spent

abbrev pub share_of : PoolView → ℕ
share_of v = v.share

-- a seat's number and view, where it was not joined into another
abbrev pub Live : List PoolView → ℕ → PoolView → Type 0
Live views seat v = seats.Live is_spent views seat v

abbrev pub once : ℕ → ℕ → ℕ
once row other = cond (row == other) 1 0

-- 1 where the row is below the counter
abbrev pub below : ℕ → ℕ → ℕ
below row n = cond (nat_lt row n) 1 0

abbrev pub written : ℕ → Option RowInWriting → ℕ
written row None = 0
written row (Some w) = once row w.row

-- how often a live view writes or published the row
abbrev pub times : ℕ → PoolView → ℕ
times row v = cond v.spent 0 (written row v.writing + sum_by (λ h. once row h.row) v.published)

-- what a live view says is so
pub record FitsPool (rows : ℕ) (instance : Instance) (ws : List ℕ) (v : PoolView) : Type 0 where
  pub instance_is : v.instance ≡ instance
  pub rows_are : v.rows ≡ rows
  pub counter : v.counter ≤ counter_of ws
  pub writing : IfSome v.writing (IsRowInWriting instance ws)
  pub published : All (IsHeld instance ws) v.published
  pub seen : All (IsHeld instance ws) v.seen

-- what holds between any two steps
pub record IsPool (rows : ℕ) (instance : Instance) (s : Words) : Type 0 where
  pub width : length s.words ≡ 1 + 9 * rows
  pub counter : counter_of s.words ≤ rows
  pub fits : (seat : ℕ) (v : PoolView) → Live s.views seat v → FitsPool rows instance s.words v
  pub reached : (seat : ℕ) × (v : PoolView) × Live s.views seat v × (v.counter ≡ counter_of s.words)
  pub owners : (row : ℕ) → sum_by (times row) s.views ≡ below row (counter_of s.words)
  pub fresh : (row k : ℕ) → counter_of s.words ≤ row → row < rows → k < 9 → cell s.words row k ≡ 0
  pub owned : (row : ℕ) → row < rows → cell s.words row 0 ≢ 0 → (seat : ℕ) × (v : PoolView)
      × Live s.views seat v × (c : Content) × Contains v.published (held_row row c)
  pub shares : IsShared is_spent share_of WHOLE_SHARE s.views

abbrev pub first_view : ℕ → Instance → PoolView
first_view rows instance =
    record {
      spent = false;
      share = WHOLE_SHARE;
      instance = instance;
      rows = rows;
      counter = 0;
      writing = None;
      published = [];
      seen = [];
      trail = [];
    }

abbrev pub spent_view : PoolView
spent_view =
    record {
      spent = true;
      share = 0;
      instance = record { paths = []; records = [] };
      rows = 0;
      counter = 0;
      writing = None;
      published = [];
      seen = [];
      trail = [];
    }

abbrev pub kept_half : PoolView → PoolView
kept_half v =
    record {
      spent = false;
      share = v.share - v.share / 2;
      instance = v.instance;
      rows = v.rows;
      counter = v.counter;
      writing = v.writing;
      published = v.published;
      seen = v.seen;
      trail =
          v.trail;
    }

abbrev pub given_half : PoolView → PoolView
given_half v =
    record {
      spent = false;
      share = v.share / 2;
      instance = v.instance;
      rows = v.rows;
      counter = v.counter;
      writing = None;
      published = [];
      seen = v.published ++ v.seen;
      trail = [];
    }

abbrev pub after_join : PoolView → PoolView → PoolView
after_join v w =
    record {
      spent = false;
      share = v.share + w.share;
      instance = v.instance;
      rows = v.rows;
      counter = max v.counter w.counter;
      writing = v.writing;
      published =
          v.published ++ w.published;
      seen = v.seen ++ w.seen;
      trail = v.trail ++ w.trail;
    }
