-- What the steps tell.
use Rattle.std.specs.Prelude.{◌≡◌, ◌≢◌, ◌⊎◌, ℕ, ◌+◌, ◌*◌, ◌<◌, ◌≤◌, false, List, [], ◌∷◌, ◌++◌, All, AllPairs, Contains, Some, None}
use Rattle.seat_laws.specs.declared.TheConstants.{WHOLE_SHARE}
use mathlib.Core.Option as core
use Rattle.atomic_table.specs.Table.{Me, Step}
use Rattle.nogood.specs.declared.row.Row.{Row}
use Rattle.nogood_pool.specs.declared.view.Content.{Content}
use Rattle.nogood_pool.specs.declared.view.HeldRow.{HeldRow}
use Rattle.nogood_pool.specs.declared.view.TrailEntry.TheVariants.{Counted, Exchanged, Read}
use Rattle.nogood_pool.specs.declared.view.PoolView.{PoolView}
use Rattle.nogood_pool.specs.declared.view.RowInWriting.{RowInWriting}
use Rattle.nogood_pool.specs.Pool.{IsPoolRow, AreShort, content, content_of_row, held_row, pool_word_at}

abbrev pub Mine : Type 0
Mine = Me Row PoolView

-- after the counter was found to be n
abbrev pub after_count : PoolView → ℕ → PoolView
after_count v n =
    record {
      spent = false;
      share = v.share;
      instance = v.instance;
      rows = v.rows;
      counter = n;
      writing = v.writing;
      published = v.published;
      seen = v.seen;
      trail = v.trail ++ Counted n ∷ [];
    }

-- after the row was drawn for the content
abbrev pub after_draw : PoolView → ℕ → Content → PoolView
after_draw v row c =
    record {
      spent = false;
      share = v.share;
      instance = v.instance;
      rows = v.rows;
      counter = row + 1;
      writing = Some (record { row = row; content = c; stored = 0 });
      published =
          v.published;
      seen = v.seen;
      trail = v.trail ++ Exchanged row row ∷ [];
    }

-- after the counter was expected to be one number and found to be another
abbrev pub after_miss : PoolView → ℕ → ℕ → PoolView
after_miss v expected found =
    record {
      spent = false;
      share = v.share;
      instance = v.instance;
      rows = v.rows;
      counter = found;
      writing = v.writing;
      published = v.published;
      seen = v.seen;
      trail =
          v.trail ++ Exchanged expected found ∷ [];
    }

-- the view with this row in writing
abbrev pub writing_at : PoolView → ℕ → Content → ℕ → PoolView
writing_at v row c stored =
    record {
      spent = false;
      share = v.share;
      instance = v.instance;
      rows = v.rows;
      counter = v.counter;
      writing =
          Some (record { row = row; content = c; stored = stored });
      published = v.published;
      seen =
          v.seen;
      trail = v.trail;
    }

-- after the row in writing got its tag
abbrev pub after_publish : PoolView → ℕ → Content → PoolView
after_publish v row c =
    record {
      spent = false;
      share = v.share;
      instance = v.instance;
      rows = v.rows;
      counter = v.counter;
      writing = None;
      published = v.published ++ held_row row c ∷ [];
      seen =
          v.seen;
      trail = v.trail;
    }

-- after the tag word of a row was found to be n; then its content is seen
abbrev pub after_read : PoolView → ℕ → ℕ → List HeldRow → PoolView
after_read v row n more =
    record {
      spent = false;
      share = v.share;
      instance = v.instance;
      rows = v.rows;
      counter = v.counter;
      writing = v.writing;
      published = v.published;
      seen =
          v.seen ++ more;
      trail = v.trail ++ Read row n ∷ [];
    }

-- the content that a step announces
abbrev pub said_content : core.Option Row → Content
said_content core.none = content [] 0
said_content (core.some r) = content_of_row r

-- no row was published twice
abbrev pub AreRowsApart : List HeldRow → Type 0
AreRowsApart held = AllPairs (λ g h. g.row ≢ h.row) held

-- all that a view published or saw is below n
pub record IsBehind (v : PoolView) (n : ℕ) : Type 0 where
  pub counter : v.counter ≤ n
  pub published : All (λ h. h.row < n) v.published
  pub seen : All (λ h. h.row < n) v.seen

abbrev pub Counts : Step Row → Mine → ℕ → Mine → Type 0
Counts st me n me' =
    (me'.0 ≡ after_count me.0 n) × (me'.1 ≡ me.1) × (n ≤ me.0.rows) × IsBehind me.0 n
    × (me.0.share ≡ WHOLE_SHARE → n ≡ me.0.counter)

abbrev pub Draws : Step Row → Mine → ℕ → Mine → Type 0
Draws st me n me' =
    (n ≡ st.first → me'.0 ≡ after_draw me.0 st.first (said_content st.said))
    × (n ≢ st.first → me'.0 ≡ after_miss me.0 st.first n) × (me'.1 ≡ me.1) × (me.0.counter ≤ n)
    × (n ≤ me.0.rows) × (me.0.share ≡ WHOLE_SHARE → n ≡ me.0.counter)

abbrev pub Stores : Step Row → Mine → ℕ → Mine → Type 0
Stores st me n me' = (me'.1 ≡ me.1) × ((w : RowInWriting) → me.0.writing ≡ Some w →
    (st.word ≡ 1 + 9 * w.row + (1 + w.stored))
    × (me'.0 ≡ writing_at me.0 w.row w.content (w.stored + 1)))

abbrev pub StoresTag : Step Row → Mine → ℕ → Mine → Type 0
StoresTag st me n me' = (me'.1 ≡ me.1) × ((w : RowInWriting) → me.0.writing ≡ Some w →
    (st.word ≡ 1 + 9 * w.row) × (me'.0 ≡ after_publish me.0 w.row w.content))

-- each content that a view published or saw in a row is this one
abbrev pub IsOnlyContent : PoolView → ℕ → Content → Type 0
IsOnlyContent v row c =
    (d : Content) → Contains v.published (held_row row d) ⊎ Contains v.seen (held_row row d) → d ≡ c

-- where the tag word was 0 no content was known; else the content of the row is seen
abbrev pub ReadsTag : PoolView → ℕ → ℕ → PoolView → Type 0
ReadsTag v row n w =
    ((n ≡ 0) × (w ≡ after_read v row n [])
    × ((c : Content) → Contains v.published (held_row row c) ⊎ Contains v.seen (held_row row c) →
    ⊥))
    ⊎ ((c : Content) × (n ≡ c.tag) × IsPoolRow v.instance c × AreShort c.lits
    × IsOnlyContent v row c × (w ≡ after_read v row n (held_row row c ∷ [])))

abbrev pub LoadsTag : Step Row → Mine → ℕ → Mine → Type 0
LoadsTag st me n me' =
    (me'.1 ≡ me.1) × ((row : ℕ) → st.word ≡ 1 + 9 * row → ReadsTag me.0 row n me'.0)

-- a literal word of a row that was seen
abbrev pub ReadsLiteral : Step Row → Mine → ℕ → Mine → Type 0
ReadsLiteral st me n me' =
    (me' ≡ me) × ((row k : ℕ) (c : Content) → st.word ≡ 1 + 9 * row + (1 + k) → k < 8 →
    Contains me.0.seen (held_row row c) → n ≡ pool_word_at c.lits k)

abbrev pub HasPart : Step Row → Mine → ℕ → Mine → Type 0
HasPart st me n me' = (me.0.share ≤ WHOLE_SHARE) × (me' ≡ me) × AreRowsApart me.0.published
