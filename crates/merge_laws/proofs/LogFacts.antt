-- What good logs say of each line by its log and place, and of their segments by row.
use Rattle.std.proofs.Common.{◌≡◌, ◌≢◌, ◌⊎◌, ℕ, zero, suc, ◌+◌, ◌<◌, ◌≤◌, List, [], ◌∷◌, length, map, take, get_or, refl, ap, sym, subst, inl, inr, arith, ⊎_elim, Some, All, AllPairs, Contains}
use Rattle.std.specs.List.{slice_get}
use Rattle.std.proofs.lemmas.Bool.{cases_order}
use Rattle.std.proofs.lemmas.List.Elements.{All-contains, Contains-append_cases}
use Rattle.std.proofs.lemmas.List.Sorted.{Contains-permutation, IsPermutation-sym}
use Rattle.std.proofs.lemmas.Option.{get_or_from_slice_get, slice_get_within}
use Rattle.fapp_model.specs.declared.instance.Instance.{Instance}
use Rattle.fapp_model.proofs.Members.{at_front, behind, from-map, in-map, no_member}
use Rattle.fapp_tables.proofs.RankLaws.{rising_ranks}
use Rattle.cert_lines.specs.declared.answer.Line.{Line}
use Rattle.search_log.specs.declared.line.ChoiceRef.{ChoiceRef}
use Rattle.search_log.specs.declared.line.LogLine.{LogLine}
use Rattle.search_log.specs.declared.line.Ref.TheVariants.{Row}
use Rattle.search_log.specs.declared.line.Segment.{Segment}
use Rattle.search_log.specs.Contents.{Cites, KnownRow, content_of, known_row}
use Rattle.search_log.specs.GoodLines.{IsGoodLine}
use Rattle.search_log.specs.Segments.{CitesLowerRows, EndsAsRow, IsGoodLog}
use Rattle.search_log.proofs.ByPlace.{zip-left}
use Rattle.search_log.specs.LogStates.{LogState}
use Rattle.search_log.specs.declared.piece.Piece.{Piece}
use Rattle.merge_laws.specs.GoodLogs.{AreByRow, AreGoodLogsAfter, IsPlacedIn}
use Rattle.search_log.specs.GoodLogs.{IsBare, IsHomeRow, all_lines, lines_of, piece_of, pieces_from, pieces_of}

-- the numbers of the rows that old lines say
abbrev pub placed_numbers : List (ℕ × ℕ) → List ℕ
placed_numbers placed = map (λ p. p.0) placed

abbrev pub Rises : Piece → Piece → Type 0
Rises p q = p.row < q.row

-- a row is home in one of some pieces
pub record IsHomeIn (logs : List (List LogLine)) (pieces : List Piece) (row : KnownRow) : Type 0 where
  pub piece : Piece
  pub member : Contains pieces piece
  pub line : LogLine
  pub last : slice_get (lines_of logs piece.log) piece.last ≡ Some line
  pub is : row ≡ known_row piece.row (content_of line)

pub record AreLogFacts (instance : Instance) (rows : List KnownRow) (logs : List (List LogLine)) (placed : List ℕ) (pieces : List Piece) : Type 0 where
  pub good : (log n : ℕ) (line : LogLine) → slice_get (lines_of logs log) n ≡ Some line → IsGoodLine instance rows (take n (lines_of logs log)) line
  pub bare : (log n : ℕ) (line : LogLine) → slice_get (lines_of logs log) n ≡ Some line → IsBare line
  pub cited : (log n : ℕ) (line : LogLine) (ref : ChoiceRef) (r : ℕ) → slice_get (lines_of logs log) n ≡ Some line → Contains line.refs ref →
      ref.line ≡ Row r → (row : KnownRow) × Contains rows row × (row.number ≡ r)
  pub home : (row : KnownRow) → Contains rows row → IsHomeIn logs pieces row ⊎ Contains placed row.number
  pub apart : (p : Piece) → Contains pieces p → Contains placed p.row → ⊥
  pub last : (p : Piece) → Contains pieces p → (line : LogLine) × (slice_get (lines_of logs p.log) p.last ≡ Some line)
  pub below : (p : Piece) (n : ℕ) (line : LogLine) (ref : ChoiceRef) (r : ℕ) → Contains pieces p → n ≤ p.last →
      slice_get (lines_of logs p.log) n ≡ Some line → Contains line.refs ref → ref.line ≡ Row r → r < p.row
  pub rising : AllPairs Rises pieces

-- ---- a log by its place

pub record IsLogAt (logs : List LogState) (log : ℕ) : Type 0 where
  pub state : LogState
  pub member : Contains logs state
  pub lines : lines_of (all_lines logs) log ≡ state.lines

pub log-at : (logs : List LogState) (log n : ℕ) (line : LogLine) → slice_get (lines_of (all_lines logs) log) n ≡ Some line → IsLogAt logs log
log-at [] log n line e = absurd (cc)
log-at (state ∷ logs) zero n line e = record { state = state; member = at_front state logs; lines = refl }
log-at (state ∷ logs) (suc log) n line e = let r = log-at logs log n line e in record { state = r.state; member = behind state logs r.state r.member; lines = r.lines }

-- ---- a piece by its log

pub record IsPieceOf (logs : List LogState) (from : ℕ) (p : Piece) : Type 0 where
  pub place : ℕ
  pub log_is : p.log ≡ from + place
  pub state : LogState
  pub member : Contains logs state
  pub lines : lines_of (all_lines logs) place ≡ state.lines
  pub segment : Segment
  pub listed : Contains state.segments segment
  pub is : piece_of p.log segment ≡ p

pub from-pieces : (logs : List LogState) (from : ℕ) (p : Piece) → Contains (pieces_from from logs) p → IsPieceOf logs from p
from-pieces [] from p m = absurd (no_member p m)
from-pieces (state ∷ logs) from p m = ⊎_elim
    (λ here.
    let r = from-map (piece_of from) state.segments p here in
    let same : from ≡ p.log = ap (λ (q : Piece). q.log) r.2 in
    record {
      place = 0;
      log_is = omega arith;
      state = state;
      member = at_front state logs;
      lines = refl;
      segment = r.0;
      listed = r.1;
      is = subst (λ l. piece_of l r.0 ≡ p) same r.2;
    })
    (λ later.
    let r = from-pieces logs (from + 1) p later in
    record {
      place = suc r.place;
      log_is = (let e = r.log_is in omega arith);
      state = r.state;
      member = behind state logs r.state r.member;
      lines = r.lines;
      segment = r.segment;
      listed = r.listed;
      is = r.is;
    })
    (Contains-append_cases (map (piece_of from) state.segments) (pieces_from (from + 1) logs) p m)

module _ (instance : Instance) (rows : List KnownRow) (logs : List LogState) (pieces : List Piece) (old : List Line) (placed : List (ℕ × ℕ)) (h : AreGoodLogsAfter instance old placed rows logs) (sorted : AreByRow logs pieces) where
  abbrev Good : LogState → Type 0
  Good log = IsGoodLog instance rows log.lines log.segments

  good-state : (state : LogState) → Contains logs state → Good state
  good-state state m = All-contains Good logs state h.good m

  good-at : (log n : ℕ) (line : LogLine) → slice_get (lines_of (all_lines logs) log) n ≡ Some line → IsGoodLine instance rows (take n (lines_of (all_lines logs) log)) line
  good-at log n line e =
      let r = log-at logs log n line e in
      subst (λ lines. IsGoodLine instance rows (take n lines) line) (sym r.lines)
      ((good-state r.state r.member).good_lines n line (subst (λ lines. slice_get lines n ≡ Some line) r.lines e))

  bare-at : (log n : ℕ) (line : LogLine) → slice_get (lines_of (all_lines logs) log) n ≡ Some line → IsBare line
  bare-at log n line e =
      let r = log-at logs log n line e in
      All-contains IsBare r.state.lines line (All-contains (λ (log : LogState). All IsBare log.lines) logs r.state h.bare r.member)
      (member r.state.lines n line (subst (λ lines. slice_get lines n ≡ Some line) r.lines e))
    where
      member : (lines : List LogLine) (n : ℕ) (line : LogLine) → slice_get lines n ≡ Some line → Contains lines line
      member lines n line e = (n, slice_get_within lines n line e, get_or_from_slice_get lines n line line e)

  cited-at : (log n : ℕ) (line : LogLine) (ref : ChoiceRef) (r : ℕ) → slice_get (lines_of (all_lines logs) log) n ≡ Some line → Contains line.refs ref → ref.line ≡ Row r → (row : KnownRow) × Contains rows row × (row.number ≡ r)
  cited-at log n line ref r at m e =
      let good = good-at log n line at in
      let earlier = take n (lines_of (all_lines logs) log) in
      let beside = zip-left (λ (u : ChoiceRef) content. Cites rows earlier u.line content) line.refs good.contents good.cites ref m in
      (known_row r beside.0, subst (λ u. Cites rows earlier u beside.0) e beside.2, refl)

  to-sorted : (p : Piece) → Contains (pieces_of logs) p → Contains pieces p
  to-sorted p m = Contains-permutation (pieces_of logs) pieces p sorted.same m

  from-sorted : (p : Piece) → Contains pieces p → IsPieceOf logs 0 p
  from-sorted p m = from-pieces logs 0 p (Contains-permutation pieces (pieces_of logs) p (IsPermutation-sym (pieces_of logs) pieces sorted.same) m)

  at-log : (p : Piece) (r : IsPieceOf logs 0 p) → lines_of (all_lines logs) p.log ≡ r.state.lines
  at-log p r = subst (λ l. lines_of (all_lines logs) l ≡ r.state.lines) (let e = r.log_is in let s : r.place ≡ p.log = omega arith in s) r.lines

  last-at : (p : Piece) → Contains pieces p → (line : LogLine) × (slice_get (lines_of (all_lines logs) p.log) p.last ≡ Some line)
  last-at p m =
      let r = from-sorted p m in
      let ends = All-contains (EndsAsRow rows r.state.lines) r.state.segments r.segment (good-state r.state r.member).in_order.ends r.listed in
      (ends.line, rw (at-log p r) (subst (λ n. slice_get r.state.lines n ≡ Some ends.line) (ap (λ (q : Piece). q.last) r.is) ends.last))

  below-at : (p : Piece) (n : ℕ) (line : LogLine) (ref : ChoiceRef) (r : ℕ) → Contains pieces p → n ≤ p.last → slice_get (lines_of (all_lines logs) p.log) n ≡ Some line → Contains line.refs ref → ref.line ≡ Row r → r < p.row
  below-at p n line ref r m small at listed e =
      let f = from-sorted p m in
      let low = All-contains (CitesLowerRows f.state.lines) f.state.segments f.segment (good-state f.state f.member).in_order.lower f.listed in
      let last = ap (λ (q : Piece). q.last) f.is in
      let row = ap (λ (q : Piece). q.row) f.is in
      let less = low n line ref r (omega arith) (subst (λ lines. slice_get lines n ≡ Some line) (at-log p f) at) listed e in
      omega arith

  home-at : (row : KnownRow) → Contains rows row → IsHomeIn (all_lines logs) pieces row ⊎ Contains (placed_numbers placed) row.number
  home-at row m = elim (All-contains (λ row. IsHomeRow logs row ⊎ IsPlacedIn old placed row) rows row h.home m) [
    | inl r ↦ inl (record { piece = r.piece; member = to-sorted r.piece r.member; line = r.line; last = r.last; is = r.is })
    | inr p ↦ inr (in-map (λ q. q.0) placed (row.number, p.number) p.listed)
  ]

  apart-at : (p : Piece) → Contains pieces p → Contains (placed_numbers placed) p.row → ⊥
  apart-at p m k =
      let found = from-map (λ q. q.0) placed p.row k in
      All-contains (λ (q : Piece). found.0.0 ≢ q.row) (pieces_of logs) p
      (All-contains (λ q. All (λ (r : Piece). q.0 ≢ r.row) (pieces_of logs)) placed found.0 h.apart found.1)
      (Contains-permutation pieces (pieces_of logs) p (IsPermutation-sym (pieces_of logs) pieces sorted.same) m) found.2

  never-falls : (i j : ℕ) (d : Piece) → i ≤ j → j < length pieces → (get_or pieces i d).row ≤ (get_or pieces j d).row
  never-falls i j d most inside = ⊎_elim
      (λ same. let e = ap (λ (k : ℕ). (get_or pieces k d).row) same in omega arith)
      (λ apart. ⊎_elim
      (λ less. sorted.ordered i j d less inside)
      (λ more. absurd (omega arith))
      apart)
      (cases_order i j)

  pub log-facts : AreLogFacts instance rows (all_lines logs) (placed_numbers placed) pieces
  log-facts = record {
    good = good-at;
    bare = bare-at;
    cited = cited-at;
    home = home-at;
    apart = apart-at;
    last = last-at;
    below = below-at;
    rising = rising_ranks (λ (p : Piece). p.row) (pieces_of logs) pieces h.once sorted.same never-falls;
  }
