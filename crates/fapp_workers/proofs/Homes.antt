-- Each row that a worker published is home in its log, and each is home once.
use Rattle.std.proofs.Common.{◌≡◌, ◌≢◌, ⊎_elim, ℕ, zero, suc, ◌+◌, ◌-◌, ◌<◌, List, [], ◌∷◌, ◌++◌, length, map, get_or, All, AllPairs, Contains, Some, refl, sym, ap, ◌∙◌, subst, inl, inr, arith}
use Rattle.std.specs.List.{slice_get}
use Rattle.std.proofs.lemmas.Bool.{cases_order}
use Rattle.std.proofs.lemmas.List.{get_or-append_right, get_or_append_left, get_or-map, get_or_default, length-append, length-map, map-append}
use Rattle.std.proofs.lemmas.List.Elements.{All-append, All-head, All-tail, All-contains, All-map, All-weaker, Contains-append_cases, Contains-append_left, Contains-append_right}
use Rattle.fapp_model.specs.declared.instance.Instance.{Instance}
use Rattle.fapp_model.proofs.Members.{All-from_members, at_front, behind, front_or_behind, no_member}
use Rattle.search_log.specs.declared.line.LogLine.{LogLine}
use Rattle.search_log.specs.declared.line.Segment.{Segment}
use Rattle.search_log.specs.Contents.{KnownRow, content_of, known_row}
use Rattle.search_log.specs.Segments.{EndsAsRow, IsGoodLog}
use Rattle.search_log.proofs.Segmenting.{log-more}
use Rattle.search_log.specs.LogStates.{LogState}
use Rattle.search_log.specs.declared.piece.Piece.{Piece}
use Rattle.search_log.specs.GoodLogs.{AreGoodLogs, IsBare, IsHomeRow, all_lines, lines_of, piece_of, pieces_from, pieces_of}
use Rattle.fapp_workers.specs.Ends.{AreClosed, IsWorkerEnd, WorkerEnd, all_published, log_of, logs_of}
use Rattle.fapp_workers.specs.SharingLaws.{AreGoodLogsOver, row_of_piece}

abbrev pub number_of : KnownRow → ℕ
number_of row = row.number

abbrev pub seg_row : Segment → ℕ
seg_row s = s.row

pub some-same : {X : Type 0} {x y : X} → Some x ≡ Some y → x ≡ y
some-same e = cc

-- ---- lists whose numbers are the same, in order

module _ {X Y : Type 0} (f : X → ℕ) (g : Y → ℕ) where
  -- numbers that are distinct there are distinct here
  pub pairs-alike : (xs : List X) (ys : List Y) → map f xs ≡ map g ys → AllPairs (λ a b. g a ≢ g b) ys → AllPairs (λ a b. f a ≢ f b) xs
  pairs-alike xs [] e h i j d less inside = absurd (omega (arith, ap length e, length-map xs f))
  pairs-alike xs (y ∷ ys) e h i j d less inside = λ same.
      let long : length xs ≡ length (y ∷ ys) = omega (arith, ap length e, length-map xs f, length-map (y ∷ ys) g) in
      let at : (k : ℕ) → k < length xs → f (get_or xs k d) ≡ g (get_or (y ∷ ys) k y) =
      λ k l. sym (get_or-map f xs k d 0 l) ∙ (ap (λ m. get_or m k 0) e ∙ get_or-map g (y ∷ ys) k y 0 (omega (arith, long, l))) in
      h i j y less (omega (arith, long, inside)) (sym (at i (omega (arith, less, inside))) ∙ (same ∙ at j inside))

  -- a member of one list has one of the same number in the other
  pub member-alike : (xs : List X) (ys : List Y) → map f xs ≡ map g ys → (x : X) → Contains xs x → (y : Y) × Contains ys y × (f x ≡ g y)
  member-alike [] ys e x m = absurd (no_member x m)
  member-alike (a ∷ xs) [] e x m = absurd (omega (arith, ap length e))
  member-alike (a ∷ xs) (y ∷ ys) e x m = ⊎_elim
      (λ here. (y, at_front y ys, ap f (sym here) ∙ ap (λ l. get_or l 0 0) e))
      (λ later. let r = member-alike xs ys (ap tail_of e) x later in (r.0, behind y ys r.0 r.1, r.2))
      (front_or_behind a xs x m)
    where
      tail_of : List ℕ → List ℕ
      tail_of [] = []
      tail_of (n ∷ ns) = ns

behind-get : {X : Type 0} (xs ys : List X) (k : ℕ) (d : X) → get_or (xs ++ ys) (length xs + k) d ≡ get_or ys k d
behind-get xs ys k d =
    let less : (length xs + k) - length xs ≡ k = omega arith in
    get_or-append_right xs ys (length xs) (length xs + k) d refl (omega arith) ∙ ap (λ n. get_or ys n d) less

map-member : {X Y : Type 0} (f : X → Y) (xs : List X) (x : X) → Contains xs x → Contains (map f xs) (f x)
map-member f xs x has = (has.0, omega (arith, has.1, length-map xs f), get_or-map f xs has.0 x (f x) has.1 ∙ ap f has.2)

-- ---- what stands among the rows of all

pub own-among : (ends : List WorkerEnd) (e : WorkerEnd) → Contains ends e → (row : KnownRow) → Contains e.published row → Contains (all_published ends) row
own-among [] e m row has = absurd (no_member e m)
own-among (d ∷ ends) e m row has = ⊎_elim
    (λ here. Contains-append_left d.published (all_published ends) row (subst (λ (x : WorkerEnd). Contains x.published row) (sym here) has))
    (λ later. Contains-append_right d.published (all_published ends) row (own-among ends e later row has))
    (front_or_behind d ends e m)

module _ (placed : List KnownRow) (ends : List WorkerEnd) (closed : AreClosed placed ends) where
  abbrev pub everything : List KnownRow
  everything = placed ++ all_published ends

  pub known-among : (e : WorkerEnd) → Contains ends e → All (Contains everything) (e.copied ++ e.published)
  known-among e m = All-append (Contains everything) e.copied e.published
      (All-contains (λ (d : WorkerEnd). All (Contains everything) d.copied) ends e closed.copied m)
      (All-from_members (Contains everything) e.published (λ row has. Contains-append_right placed (all_published ends) row (own-among ends e m row has)))

  -- one number has one content
  pub one-row : (a b : KnownRow) → Contains everything a → Contains everything b → a.number ≡ b.number → a ≡ b
  one-row a b ma mb e = elim (cases_order ma.0 mb.0) [
    | inl same ↦ sym ma.2 ∙ (ap (λ k. get_or everything k a) same ∙ at-b a)
    | inr apart ↦ absurd (elim apart [
      | inl below ↦ closed.distinct ma.0 mb.0 a below mb.1 (ap number_of ma.2 ∙ (e ∙ sym (ap number_of (at-b a))))
      | inr above ↦ closed.distinct mb.0 ma.0 a above ma.1 (ap number_of (at-b a) ∙ (sym e ∙ sym (ap number_of ma.2)))
    ])
  ]
    where
      at-b : (d : KnownRow) → get_or everything mb.0 d ≡ b
      at-b d = get_or_default everything mb.0 d b mb.1 ∙ mb.2

  -- a row that a worker published ends a segment of its log
  module _ (instance : Instance) (e : WorkerEnd) (m : Contains ends e) (is : IsWorkerEnd instance e) where
    pub ended-as : (row : KnownRow) → Contains e.published row → (s : Segment) × (line : LogLine) × Contains e.log.segments s × (slice_get e.log.lines s.last ≡ Some line)
        × (row ≡ known_row s.row (content_of line))
    ended-as row has =
        let alike = member-alike number_of seg_row e.published e.log.segments is.home row has in
        let ends_as = All-contains (EndsAsRow (e.copied ++ e.published) e.log.lines) e.log.segments alike.0 is.good.in_order.ends alike.1 in
        let there = All-contains (Contains everything) (e.copied ++ e.published) (known_row alike.0.row (content_of ends_as.line)) (known-among e m) ends_as.row in
        let here = Contains-append_right placed (all_published ends) row (own-among ends e m row has) in
        (alike.0, ends_as.line, alike.1, ends_as.last, one-row row (known_row alike.0.row (content_of ends_as.line)) here there alike.2)

-- ---- pieces

-- the segment of a log at some place is a piece
pub piece-among : (logs : List LogState) (from place : ℕ) (log : LogState) (s : Segment) → slice_get logs place ≡ Some log → Contains log.segments s → Contains (pieces_from from logs) (piece_of (from + place) s)
piece-among [] from place log s at m = absurd (none-at place log at)
  where
    none-at : (place : ℕ) (log : LogState) → slice_get [] place ≡ Some log → ⊥
    none-at zero log e = absurd cc
    none-at (suc n) log e = absurd cc
piece-among (state ∷ logs) from zero log s at m =
    let same : state ≡ log = some-same at in
    let here = map-member (piece_of from) state.segments s (subst (λ (x : LogState). Contains x.segments s) (sym same) m) in
    Contains-append_left (map (piece_of from) state.segments) (pieces_from (from + 1) logs) (piece_of (from + 0) s) (rw (let z : from + 0 ≡ from = omega arith in z) here)
piece-among (state ∷ logs) from (suc place) log s at m =
    let r = piece-among logs (from + 1) place log s at m in
    let same : (from + 1) + place ≡ from + suc place = omega arith in
    Contains-append_right (map (piece_of from) state.segments) (pieces_from (from + 1) logs) (piece_of (from + suc place) s) (subst (λ n. Contains (pieces_from (from + 1) logs) (piece_of n s)) same r)

-- the lines of a log at some place
pub lines-at : (logs : List LogState) (place : ℕ) (log : LogState) → slice_get logs place ≡ Some log → lines_of (all_lines logs) place ≡ log.lines
lines-at [] zero log e = absurd cc
lines-at [] (suc n) log e = absurd cc
lines-at (state ∷ logs) zero log e = ap (λ (x : LogState). x.lines) (some-same e)
lines-at (state ∷ logs) (suc place) log e = lines-at logs place log e

-- the log of a worker at some place
pub log-at : (ends : List WorkerEnd) (place : ℕ) (e : WorkerEnd) → slice_get ends place ≡ Some e → slice_get (logs_of ends) place ≡ Some e.log
log-at [] zero e at = absurd cc
log-at [] (suc n) e at = absurd cc
log-at (d ∷ ends) zero e at = ap (λ (x : WorkerEnd). Some x.log) (some-same at)
log-at (d ∷ ends) (suc place) e at = log-at ends place e at

-- who published a row
pub publisher : (ends : List WorkerEnd) (row : KnownRow) → Contains (all_published ends) row → (e : WorkerEnd) × (place : ℕ) × (slice_get ends place ≡ Some e) × Contains ends e × Contains e.published row
publisher [] row m = absurd (no_member row m)
publisher (e ∷ ends) row m = ⊎_elim
    (λ here. (e, 0, refl, at_front e ends, here))
    (λ later. let r = publisher ends row later in (r.0, suc r.1, r.2, behind e ends r.0 r.3, r.4))
    (Contains-append_cases e.published (all_published ends) row m)

-- the segments' rows are the published ones, in order
pub pieces-alike : (instance : Instance) (ends : List WorkerEnd) (from : ℕ) → All (IsWorkerEnd instance) ends → map row_of_piece (pieces_from from (logs_of ends)) ≡ map number_of (all_published ends)
pieces-alike instance [] from each = refl
pieces-alike instance (e ∷ ends) from each =
    map-append row_of_piece (map (piece_of from) e.log.segments) (pieces_from (from + 1) (logs_of ends))
    ∙ (ap (λ xs. xs ++ map row_of_piece (pieces_from (from + 1) (logs_of ends))) (rows-of e.log.segments ∙ sym (All-head (IsWorkerEnd instance) e ends each).home)
    ∙ (ap (λ xs. map number_of e.published ++ xs) (pieces-alike instance ends (from + 1) (All-tail (IsWorkerEnd instance) e ends each))
    ∙ sym (map-append number_of e.published (all_published ends))))
  where
    rows-of : (segments : List Segment) → map row_of_piece (map (piece_of from) segments) ≡ map seg_row segments
    rows-of [] = refl
    rows-of (s ∷ segments) = ap (λ xs. s.row ∷ xs) (rows-of segments)

-- ---- all together

module _ (instance : Instance) (placed : List KnownRow) (ends : List WorkerEnd) (each : All (IsWorkerEnd instance) ends) (closed : AreClosed placed ends) where
  published : List KnownRow
  published = all_published ends

  logs-good : All (λ (log : LogState). IsGoodLog instance (placed ++ all_published ends) log.lines log.segments) (logs_of ends)
  logs-good = All-map (λ (log : LogState). IsGoodLog instance (placed ++ all_published ends) log.lines log.segments) log_of ends
      (All-from_members (λ (e : WorkerEnd). IsGoodLog instance (placed ++ all_published ends) e.log.lines e.log.segments) ends
      (λ e m. log-more instance (e.copied ++ e.published) (placed ++ all_published ends) e.log.lines e.log.segments (known-among placed ends closed e m)
      (All-contains (IsWorkerEnd instance) ends e each m).good))

  at-home : (row : KnownRow) → Contains (all_published ends) row → IsHomeRow (logs_of ends) row
  at-home row has =
      let by = publisher ends row has in
      let e = by.0 in
      let there = log-at ends by.1 e by.2 in
      let r = ended-as placed ends closed instance e by.3 (All-contains (IsWorkerEnd instance) ends e each by.3) row by.4 in
      record {
        piece = piece_of (0 + by.1) r.0;
        member = piece-among (logs_of ends) 0 by.1 e.log r.0 there r.2;
        line = r.1;
        last = rw (lines-at (logs_of ends) (0 + by.1) e.log (rw (let z : 0 + by.1 ≡ by.1 = omega arith in z) there)) r.3;
        is = r.4;
      }

  alike : map row_of_piece (pieces_of (logs_of ends)) ≡ map number_of (all_published ends)
  alike = pieces-alike instance ends 0 each

  -- numbers that were placed are no segment's
  apart : (row : KnownRow) → Contains placed row → (p : Piece) → Contains (pieces_of (logs_of ends)) p → p.row ≢ row.number
  apart row has p m same =
      let other = member-alike row_of_piece number_of (pieces_of (logs_of ends)) (all_published ends) alike p m in
      let at_first : get_or (placed ++ all_published ends) has.0 row ≡ row = get_or_append_left placed (all_published ends) row has.0 has.1 ∙ has.2 in
      let at_second : get_or (placed ++ all_published ends) (length placed + other.1.0) row ≡ other.0 =
      behind-get placed (all_published ends) other.1.0 row ∙ (get_or_default (all_published ends) other.1.0 row other.0 other.1.1 ∙ other.1.2) in
      closed.distinct has.0 (length placed + other.1.0) row (omega (arith, has.1)) (omega (arith, other.1.1, length-append placed (all_published ends)))
      (ap number_of at_first ∙ (sym same ∙ (other.2 ∙ sym (ap number_of at_second))))

  behind-placed : AllPairs (λ (a : KnownRow) (b : KnownRow). a.number ≢ b.number) (all_published ends)
  behind-placed i j d less inside same =
      let at : (k : ℕ) → get_or (placed ++ all_published ends) (length placed + k) d ≡ get_or (all_published ends) k d = λ k. behind-get placed (all_published ends) k d in
      closed.distinct (length placed + i) (length placed + j) d (omega (arith, less)) (omega (arith, inside, length-append placed (all_published ends)))
      (ap number_of (at i) ∙ (same ∙ sym (ap number_of (at j))))

  pub good-after : AreGoodLogsOver instance placed (all_published ends) (logs_of ends)
  good-after = record {
    good = logs-good;
    home = All-from_members (IsHomeRow (logs_of ends)) (all_published ends) at-home;
    once = pairs-alike row_of_piece number_of (pieces_of (logs_of ends)) (all_published ends) alike behind-placed;
    apart = All-from_members (λ (row : KnownRow). All (λ (p : Piece). p.row ≢ row.number) (pieces_of (logs_of ends))) placed
        (λ row has. All-from_members (λ (p : Piece). p.row ≢ row.number) (pieces_of (logs_of ends)) (apart row has));
    bare = All-map (λ (log : LogState). All IsBare log.lines) log_of ends (All-weaker (IsWorkerEnd instance) (λ (e : WorkerEnd). All IsBare e.log.lines) (λ e is. is.plain) ends each);
  }

pub good-alone : (instance : Instance) (ends : List WorkerEnd) → All (IsWorkerEnd instance) ends → AreClosed [] ends → AreGoodLogs instance (all_published ends) (logs_of ends)
good-alone instance ends each closed =
    let h = good-after instance [] ends each closed in
    record { good = h.good; home = h.home; once = h.once; bare = h.bare }
