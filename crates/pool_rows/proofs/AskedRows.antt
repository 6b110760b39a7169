-- What asking for rows keeps.
use Rattle.std.proofs.Common.{◌≡◌, ◌≢◌, ◌⊎◌, ℕ, ◌+◌, ◌-◌, ◌<◌, ◌≤◌, true, false, List, [], ◌∷◌, ◌++◌, length, drop, Contains, refl, sym, ap, ◌∙◌, subst, inl, inr, arith}
use Rattle.nogood_pool.proofs.Cells.{once_same}
use Rattle.std.proofs.lemmas.Bool.{cases_lt}
use Rattle.std.proofs.lemmas.List.{append_assoc, append-nil, length-append, map-append, drop-append-le}
use Rattle.std.proofs.lemmas.List.Elements.{All-nil, All-push, Contains-append_cases}
use Rattle.std.proofs.lemmas.List.Sums.{sum_by_push, sum_by-append}
use Rattle.nogood.specs.declared.row.Row.{Row}
use Rattle.search_log.specs.Contents.{KnownRow}
use Rattle.search_log.specs.declared.shared.Cite.{Cite}
use Rattle.search_log.specs.Shares.{HaveOneContent, IsServedContent, row_content}
use Rattle.nogood_pool.specs.declared.view.HeldRow.{HeldRow}
use Rattle.nogood_pool.specs.declared.view.PoolView.{PoolView}
use Rattle.nogood_pool.specs.declared.view.TrailEntry.TheVariants.{Read}
use Rattle.nogood_pool.specs.Pool.{IsPoolRow, content_of_row, held_row, once}
use Rattle.nogood_pool.specs.PoolSteps.{IsOnlyContent, after_count, after_read}
use Rattle.row_copies.specs.Filed.{known_cite, known_cites}
use Rattle.nogood_pool.specs.PoolSteps.{AreRowsApart}
use Rattle.pool_rows.specs.Copying.{AreSeatCopies, AreRowsAskedFor, Looked, NonePublished, TakesRow, all_known, cite_of, held_known, in_missing, is_refusal}
use Rattle.pool_rows.proofs.Asking.{below-next, below-past, below-zero, apart-one, from-drop, from-map, one-more}

-- ---- before the first look-up

past-all : {X : Type 0} (xs : List X) → drop (length xs) xs ≡ []
past-all [] = refl
past-all (x ∷ xs) = past-all xs

copied-none : (v : PoolView) → AreRowsApart v.published → AreSeatCopies v [] 0 []
copied-none v apart = record {
  few = omega arith;
  last = sym (ap all_known (ap (λ k. drop k v.seen) (let z : length v.seen - 0 ≡ length v.seen = omega arith in z) ∙ past-all v.seen));
  one = apart-one v.published apart;
  served = All-nil _;
  once_each = λ row. sym (below-zero row);
  all = refl;
  inside = omega arith;
  counted = omega arith;
}

pub copied-first : (v : PoolView) (cites : List Cite) (missing : List ℕ) → AreRowsApart v.published → cites ≡ [] → missing ≡ [] → AreSeatCopies v cites 0 missing
copied-first v cites missing apart is_cites is_missing =
    subst (λ c. AreSeatCopies v c 0 missing) (sym is_cites) (subst (λ m. AreSeatCopies v [] 0 m) (sym is_missing) (copied-none v apart))

-- ---- one row

module _ (v : PoolView) (cites : List Cite) (next row : ℕ) (older newer : List ℕ) (h : AreSeatCopies v cites next older) (moved : (q : ℕ) → in_missing q older ≡ in_missing q newer + once q row) (shorter : length older ≡ length newer + 1) where
  module _ (r : Row) (valid : IsPoolRow v.instance (content_of_row r)) (only : IsOnlyContent v row (content_of_row r)) where
    held : HeldRow
    held = held_row row (content_of_row r)

    cite : Cite
    cite = cite_of row r

    -- a row of that number has that content
    alone : (b : KnownRow) → Contains (known_cites cites ++ all_known v.published) b → b.number ≡ row → b ≡ held_known (held_row row (content_of_row r))
    alone b m same = elim (Contains-append_cases (known_cites cites) (all_known v.published) b m) [
      | inl copied ↦ (
          let from = from-map held_known (drop (length v.seen - length cites) v.seen) b (subst (λ l. Contains l b) h.last copied) in
          is-it from.0 (inr (from-drop (length v.seen - length cites) v.seen from.0 from.1)) from.2)
      | inr published ↦ (let from = from-map held_known v.published b published in is-it from.0 (inl from.1) from.2)
    ]
      where
        is-it : (g : HeldRow) → Contains v.published g ⊎ Contains v.seen g → held_known g ≡ b → b ≡ held_known (held_row row (content_of_row r))
        is-it g has is =
            let number : g.row ≡ row = ap (λ (k : KnownRow). k.number) is ∙ same in
            let there : Contains v.published (held_row row g.content) ⊎ Contains v.seen (held_row row g.content) =
            subst (λ n. Contains v.published (held_row n g.content) ⊎ Contains v.seen (held_row n g.content)) number has in
            sym is ∙ (ap (λ n. held_known (held_row n g.content)) number ∙ ap (λ c. held_known (held_row row c)) (only g.content there))

    pub copied-found : AreSeatCopies (after_read v row r.tag.code (held_row row (content_of_row r) ∷ [])) (cites ++ cite_of row r ∷ []) next newer
    copied-found =
        let long_cites = length-append cites (cite_of row r ∷ []) in
        let long_seen = length-append v.seen (held_row row (content_of_row r) ∷ []) in
        let few = h.few in
        let place : length (v.seen ++ held_row row (content_of_row r) ∷ []) - length (cites ++ cite_of row r ∷ []) ≡ length v.seen - length cites = omega arith in
        record {
          few = omega arith;
          last = map-append known_cite cites (cite_of row r ∷ [])
              ∙ (ap (λ l. l ++ held_known (held_row row (content_of_row r)) ∷ []) h.last
              ∙ (sym (map-append held_known (drop (length v.seen - length cites) v.seen) (held_row row (content_of_row r) ∷ []))
              ∙ ap all_known (sym (ap (λ k. drop k (v.seen ++ held_row row (content_of_row r) ∷ [])) place ∙ drop-append-le (length v.seen - length cites) v.seen (held_row row (content_of_row r) ∷ []) (omega arith)))));
          one = subst (λ l. HaveOneContent (l ++ all_known v.published)) (sym (map-append known_cite cites (cite_of row r ∷ [])))
              (one-more (known_cites cites) (all_known v.published) (held_known (held_row row (content_of_row r))) h.one alone);
          served = All-push (λ (c : Cite). IsServedContent v.instance (row_content c.content)) cites (cite_of row r) h.served (record { lits = valid.literals; implied = valid.implied });
          once_each = λ q. let was = h.once_each q in let push = sum_by_push (λ (c : Cite). once q c.row) cites (cite_of row r) in let m = moved q in omega arith;
          all = let was = h.all in omega arith;
          inside = h.inside;
          counted = h.counted;
        }

pub copied-missing : (v : PoolView) (cites : List Cite) (next row : ℕ) (older newer : List ℕ) → AreSeatCopies v cites next older → ((q : ℕ) → in_missing q older ≡ in_missing q newer) → length older ≡ length newer →
    AreSeatCopies (after_read v row 0 []) cites next newer
copied-missing v cites next row older newer h moved same =
    let seen : v.seen ++ [] ≡ v.seen = append-nil v.seen in
    record {
      few = subst (λ (l : List HeldRow). length cites ≤ length l) (sym seen) h.few;
      last = subst (λ (l : List HeldRow). known_cites cites ≡ all_known (drop (length l - length cites) l)) (sym seen) h.last;
      one = h.one;
      served = h.served;
      once_each = λ q. let was = h.once_each q in let m = moved q in omega arith;
      all = let was = h.all in omega arith;
      inside = h.inside;
      counted = h.counted;
    }

-- one row more is asked for
pub copied-next : (v : PoolView) (cites : List Cite) (next : ℕ) (missing : List ℕ) → AreSeatCopies v cites next missing → next < v.rows → next < v.counter → AreSeatCopies v cites (next + 1) (missing ++ next ∷ [])
copied-next v cites next missing h inside counted = record {
  few = h.few;
  last = h.last;
  one = h.one;
  served = h.served;
  once_each = λ q. let was = h.once_each q in let push = sum_by_push (λ m. once q m) missing next in let more = below-next q next in omega arith;
  all = let was = h.all in let long = length-append missing (next ∷ []) in omega arith;
  inside = omega arith;
  counted = omega arith;
}

-- the counter was loaded
pub copied-counted : (v : PoolView) (n : ℕ) (cites : List Cite) (next : ℕ) (missing : List ℕ) → AreSeatCopies v cites next missing → v.counter ≤ n → AreSeatCopies (after_count v n) cites next missing
copied-counted v n cites next missing h up = record {
  few = h.few;
  last = h.last;
  one = h.one;
  served = h.served;
  once_each = h.once_each;
  all = h.all;
  inside = h.inside;
  counted = let was = h.counted in omega arith;
}

-- ---- a row that was taken

read-looked : (v w : PoolView) (row n : ℕ) (more : List HeldRow) → Looked v w → Looked v (after_read w row n more)
read-looked v w row n more l = record {
  instance_is = l.instance_is;
  rows_are = l.rows_are;
  share_is = l.share_is;
  published = l.published;
  refusals = let was = l.refusals in let push = sum_by_push (is_refusal w.rows) w.trail (Read row n) in omega arith;
}

pub same-looked : (v : PoolView) → Looked v v
same-looked v = record { instance_is = refl; rows_are = refl; share_is = refl; published = refl; refusals = omega arith }

pub asked-none : (v : PoolView) (cites : List Cite) (next : ℕ) (missing : List ℕ) → AreSeatCopies v cites next missing → AreRowsAskedFor v v cites cites next missing
asked-none v cites next missing h = record { looked = same-looked v; gains = record { more = []; are = sym (append-nil cites) }; copied = h }

pub asked-found : (v w x : PoolView) (old mid new : List Cite) (next row : ℕ) (older newer : List ℕ) → AreRowsAskedFor v w old mid next older → TakesRow w row true mid x new →
    ((q : ℕ) → in_missing q older ≡ in_missing q newer + once q row) → length older ≡ length newer + 1 → AreRowsAskedFor v x old new next newer × (x.counter ≡ w.counter)
asked-found v w x old mid new next row older newer h t moved shorter =
    let r = t.0 in
    let after : PoolView = after_read w row r.tag.code (held_row row (content_of_row r) ∷ []) in
    let asked : AreRowsAskedFor v after old (mid ++ cite_of row r ∷ []) next newer = record {
      looked = read-looked v w row r.tag.code (held_row row (content_of_row r) ∷ []) h.looked;
      gains = record { more = h.gains.more ++ cite_of row r ∷ []; are = ap (λ l. l ++ cite_of row r ∷ []) h.gains.are ∙ append_assoc old h.gains.more (cite_of row r ∷ []) };
      copied = copied-found w mid next row older newer h.copied moved shorter r t.1 t.2;
    } in
    (subst (λ (y : PoolView). AreRowsAskedFor v y old new next newer) (sym t.3) (subst (λ (c : List Cite). AreRowsAskedFor v after old c next newer) (sym t.4) asked), ap (λ (y : PoolView). y.counter) t.3)

pub asked-missing : (v w x : PoolView) (old mid new : List Cite) (next row : ℕ) (older newer spare : List ℕ) → AreRowsAskedFor v w old mid next older → TakesRow w row false mid x new →
    ((q : ℕ) → in_missing q older ≡ in_missing q newer) → length older ≡ length newer → NonePublished v spare → AreRowsAskedFor v x old new next newer × (x.counter ≡ w.counter) × NonePublished v (spare ++ row ∷ [])
asked-missing v w x old mid new next row older newer spare h t moved same none =
    let after : PoolView = after_read w row 0 [] in
    let asked : AreRowsAskedFor v after old mid next newer = record {
      looked = read-looked v w row 0 [] h.looked;
      gains = h.gains;
      copied = copied-missing w mid next row older newer h.copied moved same;
    } in (
      subst (λ (y : PoolView). AreRowsAskedFor v y old new next newer) (sym t.0) (subst (λ (c : List Cite). AreRowsAskedFor v after old c next newer) (sym t.2) asked),
      ap (λ (y : PoolView). y.counter) t.0,
      All-push (λ m. (h : HeldRow) → Contains v.published h → h.row ≢ m) spare row none (λ g has. t.1 g (subst (λ (l : List HeldRow). Contains l g) (sym h.looked.published) has)),
    )

-- ---- lists

pub moved-out : (m s : List ℕ) (row q : ℕ) → in_missing q ((m ++ row ∷ []) ++ s) ≡ in_missing q (m ++ s) + once q row
moved-out m s row q = omega (arith, sum_by-append (λ x. once q x) (m ++ row ∷ []) s, sum_by-append (λ x. once q x) m s, sum_by_push (λ x. once q x) m row)

pub moved-on : (m s : List ℕ) (row q : ℕ) → in_missing q ((m ++ row ∷ []) ++ s) ≡ in_missing q (m ++ (s ++ row ∷ []))
moved-on m s row q = omega (arith, sum_by-append (λ x. once q x) (m ++ row ∷ []) s, sum_by-append (λ x. once q x) m (s ++ row ∷ []), sum_by_push (λ x. once q x) m row, sum_by_push (λ x. once q x) s row)

pub lengths : (m s : List ℕ) (row : ℕ) → (length ((m ++ row ∷ []) ++ s) ≡ length (m ++ s) + 1) × (length ((m ++ row ∷ []) ++ s) ≡ length (m ++ (s ++ row ∷ [])))
lengths m s row = (
  omega (arith, length-append (m ++ row ∷ []) s, length-append m s, length-append m (row ∷ [])),
  omega (arith, length-append (m ++ row ∷ []) s, length-append m (s ++ row ∷ []), length-append m (row ∷ []), length-append s (row ∷ [])),
)

-- a row that is missing is below the next one
pub missing-below : (v : PoolView) (cites : List Cite) (next : ℕ) (m s : List ℕ) (row : ℕ) → AreSeatCopies v cites next ((m ++ row ∷ []) ++ s) → (row < next) × (length cites < next) × (length s < next)
missing-below v cites next m s row h =
    let count = h.once_each row in
    let here = moved-out m s row row in
    let one = once_same row row refl in
    let long = (lengths m s row).0 in
    let all = h.all in
    let both = length-append m s in (
      elim (cases_lt row next) [
        | inl less ↦ less
        | inr more ↦ (let none = below-past row next more in absurd (omega arith))
      ],
      omega arith,
      omega arith,
    )

-- ---- the rows from the next one on

pub asked-next : (v w : PoolView) (old mid : List Cite) (next : ℕ) (missing : List ℕ) → AreRowsAskedFor v w old mid next missing → next < w.rows → next < w.counter → AreRowsAskedFor v w old mid (next + 1) (missing ++ next ∷ [])
asked-next v w old mid next missing h inside counted = record { looked = h.looked; gains = h.gains; copied = copied-next w mid next missing h.copied inside counted }

pub pushed-out : (s : List ℕ) (row : ℕ) → ((q : ℕ) → in_missing q (s ++ row ∷ []) ≡ in_missing q s + once q row) × (length (s ++ row ∷ []) ≡ length s + 1)
pushed-out s row = (λ q. sum_by_push (λ x. once q x) s row, length-append s (row ∷ []))
