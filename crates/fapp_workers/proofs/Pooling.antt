-- What a worker's jobs publish, use and leave out, one after another.
use Rattle.std.proofs.Common.{◌≡◌, ◌⊎◌, inl, inr, ⊎_elim, ℕ, zero, suc, ◌+◌, ◌-◌, ◌<◌, ◌≤◌, Bool, true, false, ◌||◌, ◌&&◌, not, nat_lt, ◌==◌, cond, List, [], ◌∷◌, ◌++◌, length, map, get_or, All, AllPairs, Contains, Option, Some, None, Ok, refl, sym, ap, ◌∙◌, subst, arith}
use Rattle.std.specs.List.{slice_get, list_any}
use Rattle.std.specs.declared.alloc.AllocError.{AllocError}
use Rattle.std.proofs.lemmas.Bool.{both_ways, cases_lt, eq-eqb, ltb-false, ltb-true}
use Rattle.std.proofs.lemmas.List.{append-nil, append_assoc, append_cancel_left, get_or_append_left, get_or-append_right, length-append, map-append}
use Rattle.std.proofs.lemmas.List.Elements.{All-append, All-cons, All-nil, All-weaker}
use Rattle.std.proofs.lemmas.List.Sums.{sum_by-cons}
use Rattle.std.proofs.lemmas.Option.{get_or_from_slice_get, none-some, slice_get-get_or, slice_get_within}
use Rattle.fapp_model.specs.declared.literal.Literal.{Literal}
use Rattle.fapp_model.specs.search.Jobs.{job_level, job_prefix}
use Rattle.fapp_model.specs.search.Partials.{HasAll}
use Rattle.fapp_plan.specs.Plans.{Split}
use Rattle.search_log.specs.declared.line.LogLine.{LogLine}
use Rattle.search_log.specs.declared.line.Ref.TheVariants.{Own, Row}
use Rattle.search_log.specs.declared.line.Segment.{Segment}
use Rattle.search_log.specs.Contents.{KnownRow}
use Rattle.search_log.specs.Segments.{EndsAsRow, IsGoodLog}
use Rattle.search_log.specs.declared.job.Outcome.{Outcome}
use Rattle.search_log.specs.declared.job.Outcome.TheVariants.{Refuted, Moot, Spent}
use Rattle.search_log.specs.Bounds.{BoundState}
use Rattle.search_log.specs.Shares.{known}
use Rattle.settle_laws.specs.Levels.{level_code}
use Rattle.settle_laws.specs.Published.{IsShortLine}
use Rattle.settle_laws.specs.Settling.{AreHome, IsOutcome}
use Rattle.settle_laws.specs.Worlds.{World, world}
use Rattle.fapp_workers.proofs.Settled.{used}
use Rattle.fapp_workers.proofs.Homes.{number_of, seg_row, some-same}
use Rattle.fapp_workers.specs.declared.job.Done.{Done}
use Rattle.fapp_workers.specs.Jobs.{AreDecided, Decides, Held, IsSearched, held}
use Rattle.fapp_workers.specs.Rows.{ArePlaced, BeginsWith, IsOffersClause, IsRowsClause, IsUsed, can_be_row, ends_segment, is_left_out, own_line}

-- ---- lists

at-front : {X : Type 0} (P : X → Type 0) (xs ys : List X) (i : ℕ) (x : X) → All P xs → i < length xs → slice_get (xs ++ ys) i ≡ Some x → P x
at-front P xs ys i x all less at = subst P (sym (get_or_append_left xs ys x i less) ∙ get_or_from_slice_get (xs ++ ys) i x x at) (all i x less)

at-behind : {X : Type 0} (P : X → Type 0) (xs ys : List X) (i : ℕ) (x : X) → All P ys → length xs ≤ i → slice_get (xs ++ ys) i ≡ Some x → P x
at-behind P xs ys i x all past at =
    let inside : i < length (xs ++ ys) = slice_get_within (xs ++ ys) i x at in
    subst P (sym (get_or-append_right xs ys (length xs) i x refl past) ∙ get_or_from_slice_get (xs ++ ys) i x x at) (all (i - length xs) x (omega (arith, inside, past, length-append xs ys)))

still-at : {X : Type 0} (xs ys : List X) (i : ℕ) (x : X) → i < length xs → slice_get (xs ++ ys) i ≡ Some x → slice_get xs i ≡ Some x
still-at xs ys i x less at = slice_get-get_or xs i x less ∙ ap Some (sym (get_or_append_left xs ys x i less) ∙ get_or_from_slice_get (xs ++ ys) i x x at)

member-at : {X : Type 0} (xs : List X) (i : ℕ) (x : X) → slice_get xs i ≡ Some x → Contains xs x
member-at xs i x at = (i, slice_get_within xs i x at, get_or_from_slice_get xs i x _ at)

or-true : (b : Bool) → (b || true) ≡ true
or-true true = refl
or-true false = refl

-- one test is enough, whatever the first one comes to
or-front : (b : Bool) {xs ys : Bool} → (xs ≡ true → ys ≡ true) → (b || xs) ≡ true → (b || ys) ≡ true
or-front true h e = refl
or-front false h e = h e

any-front : {X : Type 0} (p : X → Bool) (xs ys : List X) → list_any p xs ≡ true → list_any p (xs ++ ys) ≡ true
any-front p [] ys e = absurd (let h : false ≡ true = e in cc)
any-front p (x ∷ xs) ys e = or-front (p x) (any-front p xs ys) e

any-last : {X : Type 0} (p : X → Bool) (xs : List X) (x : X) → p x ≡ true → list_any p (xs ++ x ∷ []) ≡ true
any-last p [] x e = ap (λ b. b || false) e
any-last p (y ∷ xs) x e = ap (λ b. p y || b) (any-last p xs x e) ∙ or-true (p y)

-- ---- one job

-- one job adds no segment, or one whose line it added last
abbrev AddsOne : Held → Held → Type 0
AddsOne old new = (new.log.segments ≡ old.log.segments)
    ⊎ ((n : ℕ) × (row : ℕ) × (new.log.segments ≡ old.log.segments ++ record { last = n; row = row } ∷ []) × (length old.log.lines ≤ n))

-- what a job leaves as it was, and what it adds
record IsOneMore (split : Split) (old new : Held) (done : Done) : Type 0 where
  good : IsGoodLog split.instance (known old.shared) old.log.lines old.log.segments → IsGoodLog split.instance (known new.shared) new.log.lines new.log.segments
  takes : new.shared.takes ≡ old.shared.takes
  refusals : old.shared.refusals ≤ new.shared.refusals
  lines : List LogLine
  longer : new.log.lines ≡ old.log.lines ++ lines
  rows : List KnownRow
  published : new.shared.published ≡ old.shared.published ++ rows
  gained : List Segment
  segments : new.log.segments ≡ old.log.segments ++ gained
  home : AreHome rows gained
  behind : All (λ (s : Segment). length old.log.lines ≤ s.last) gained
  own : (n : ℕ) → own_line done.outcome ≡ Some n → (length old.log.lines ≤ n) × (n < length new.log.lines)
  uses : IsGoodLog split.instance (known old.shared) old.log.lines old.log.segments → (s : Segment) (line : LogLine) → Contains old.log.segments s → slice_get old.log.lines s.last ≡ Some line →
      HasAll (job_prefix split.instance split.split done.id) line.lits → level_code (job_level split.instance done.id + 1) ≤ line.tag.code → done.ticks ≡ 0
  pools : old.shared.takes ≡ true → (n : ℕ) → own_line done.outcome ≡ Some n →
      ((line : LogLine) → slice_get new.log.lines n ≡ Some line → IsShortLine line → ends_segment new.log.segments n ≡ false → old.shared.refusals < new.shared.refusals)

none-own : (n : ℕ) → ◌≡◌ {A = Option ℕ} None (Some n) → ⊥
none-own n e = none-some n e

module _ (split : Split) (fuel : ℕ) (old new : Held) (done : Done) (read : BoundState) (s : IsSearched split fuel done.id read old new done.outcome done.ticks) where
  abbrev level : ℕ
  level = job_level split.instance done.id

  abbrev prefix : List Literal
  prefix = job_prefix split.instance split.split done.id

  abbrev before : World
  before = world fuel read old.shared old.log

  abbrev after : World
  after = world (fuel - done.ticks) new.bound new.shared new.log

  abbrev Is : Outcome → Type 0
  Is outcome = IsOutcome {E = AllocError} split.instance level prefix before after (Ok outcome)

  adds : (outcome : Outcome) → Is outcome → AddsOne old new
  adds (Refuted (Own n) tag) h = ⊎_elim (λ home. inr (n, home.row, home.segments, h.0.last.0)) (λ away. inl away.none.segments) h.1.2
  adds (Refuted (Row r) tag) h = inl h.1.segments
  adds (Moot seen) h = inl h.3.segments
  adds Spent h = inl h.none.segments

  gained-behind : (gained : List Segment) → new.log.segments ≡ old.log.segments ++ gained → AddsOne old new → All (λ (g : Segment). length old.log.lines ≤ g.last) gained
  gained-behind gained are (inl same) =
      let none : gained ≡ [] = append_cancel_left old.log.segments gained [] (sym are ∙ (same ∙ sym (append-nil old.log.segments))) in
      subst (All (λ (g : Segment). length old.log.lines ≤ g.last)) (sym none) (All-nil _)
  gained-behind gained are (inr one) =
      let is = append_cancel_left old.log.segments gained (record { last = one.0; row = one.1 } ∷ []) (sym are ∙ one.2) in
      subst (All (λ (g : Segment). length old.log.lines ≤ g.last)) (sym is) (All-cons (λ (g : Segment). length old.log.lines ≤ g.last) (record { last = one.0; row = one.1 }) [] one.3 (All-nil _))

  own-within : (outcome : Outcome) → Is outcome → (n : ℕ) → own_line outcome ≡ Some n → (length old.log.lines ≤ n) × (n < length new.log.lines)
  own-within (Refuted (Own m) tag) h n is = let same : m ≡ n = some-same is in (omega (arith, h.0.last.0, same), omega (arith, h.0.last.1, same))
  own-within (Refuted (Row r) tag) h n is = absurd (none-own n is)
  own-within (Moot seen) h n is = absurd (none-own n is)
  own-within Spent h n is = absurd (none-own n is)

  -- a line that ends no segment although it can be a row was refused
  own-pooled : (outcome : Outcome) → Is outcome → old.shared.takes ≡ true → (n : ℕ) → own_line outcome ≡ Some n → (line : LogLine) → slice_get new.log.lines n ≡ Some line → IsShortLine line →
      ends_segment new.log.segments n ≡ false → old.shared.refusals < new.shared.refusals
  own-pooled (Refuted (Own m) tag) h takes n is line at short none =
      let same : m ≡ n = some-same is in
      let offered = h.1 in
      let line_is : offered.0 ≡ line = some-same (sym offered.1 ∙ (ap (slice_get new.log.lines) same ∙ at)) in
      ⊎_elim
      (λ home. absurd (both_ways (ends_segment new.log.segments n) none
      (ap (λ gs. ends_segment gs n) home.segments ∙ any-last (λ (g : Segment). g.last == n) old.log.segments (record { last = m; row = home.row }) (eq-eqb m n same))))
      (λ away. away.refused takes (subst IsShortLine (sym line_is) short))
      offered.2
  own-pooled (Refuted (Row r) tag) h takes n is line at short none = absurd (none-own n is)
  own-pooled (Moot seen) h takes n is line at short none = absurd (none-own n is)
  own-pooled Spent h takes n is line at short none = absurd (none-own n is)

  searched-more : IsOneMore split old new done
  searched-more = record {
    good = s.settles.good;
    takes = s.settles.takes;
    refusals = s.settles.refusals;
    lines = s.settles.lines.more;
    longer = s.settles.lines.are;
    rows = s.settles.publishes.rows;
    published = s.settles.publishes.published;
    gained = s.settles.publishes.gained;
    segments = s.settles.publishes.segments;
    home = s.settles.publishes.home;
    behind = gained-behind s.settles.publishes.gained s.settles.publishes.segments (adds done.outcome s.settles.is);
    own = own-within done.outcome s.settles.is;
    uses = λ good g line m at within reaches.
        let same = used split.instance level prefix before after done.outcome g line good m at within reaches s.settles in
        omega (arith, same, s.within);
    pools = own-pooled done.outcome s.settles.is;
  }

skipped-more : (split : Split) (old : Held) (read : BoundState) (done : Done) → done.outcome ≡ Moot done.start → done.ticks ≡ 0 → IsOneMore split old (held read old.shared old.log) done
skipped-more split old read done moot none = record {
  good = λ h. h;
  takes = refl;
  refusals = omega arith;
  lines = [];
  longer = sym (append-nil old.log.lines);
  rows = [];
  published = sym (append-nil old.shared.published);
  gained = [];
  segments = sym (append-nil old.log.segments);
  home = refl;
  behind = All-nil _;
  own = λ n is. absurd (none-own n (sym (ap own_line moot) ∙ is));
  uses = λ good g line m at within reaches. none;
  pools = λ takes n is line at short free. absurd (none-own n (sym (ap own_line moot) ∙ is));
}

one-more : (split : Split) (fuel : ℕ) (old new : Held) (done : Done) → Decides split fuel old new done → IsOneMore split old new done
one-more split fuel old new done d = ⊎_elim
    (λ skip. subst (λ w. IsOneMore split old w done) (sym skip.1.same) (skipped-more split old d.read done skip.1.outcome skip.1.none))
    (λ search. searched-more split fuel old new done d.read search.1)
    d.by

-- ---- all jobs

-- what the jobs leave as it was, and what they add
record IsRun (split : Split) (old new : Held) (done : List Done) : Type 0 where
  takes : new.shared.takes ≡ old.shared.takes
  lines : List LogLine
  longer : new.log.lines ≡ old.log.lines ++ lines
  rows : List KnownRow
  published : new.shared.published ≡ old.shared.published ++ rows
  gained : List Segment
  segments : new.log.segments ≡ old.log.segments ++ gained
  home : AreHome rows gained
  behind : All (λ (s : Segment). length old.log.lines ≤ s.last) gained
  first : BeginsWith (length old.log.segments) done
  rises : AllPairs (λ (d e : Done). d.segments ≤ e.segments) done
  placed : ArePlaced new.log.segments done
  used : All (IsUsed split new.log) done
  offers : IsOffersClause old new done

home-both : (rows more : List KnownRow) (segments gained : List Segment) → AreHome rows segments → AreHome more gained → AreHome (rows ++ more) (segments ++ gained)
home-both rows more segments gained h g =
    map-append number_of rows more ∙ (ap (λ xs. xs ++ map number_of more) h ∙ (ap (λ xs. map seg_row segments ++ xs) g ∙ sym (map-append seg_row segments gained)))

both-grow : {X : Type 0} (old mid new xs ys : List X) → mid ≡ old ++ xs → new ≡ mid ++ ys → new ≡ old ++ (xs ++ ys)
both-grow old mid new xs ys a b = b ∙ (ap (λ zs. zs ++ ys) a ∙ append_assoc old xs ys)

-- from the first on they began with no fewer segments
all-from : (n : ℕ) (done : List Done) → BeginsWith n done → AllPairs (λ (d e : Done). d.segments ≤ e.segments) done → All (λ (d : Done). n ≤ d.segments) done
all-from n [] first rises = All-nil _
all-from n (d ∷ more) first rises = λ k e less. from-first k e less
  where
    from-first : (k : ℕ) (e : Done) → k < length (d ∷ more) → n ≤ (get_or (d ∷ more) k e).segments
    from-first zero e less = omega (arith, first)
    from-first (suc k) e less = let rise = rises 0 (suc k) e (omega arith) less in omega (arith, first, rise)

pairs-cons : (d : Done) (more : List Done) → All (λ (e : Done). d.segments ≤ e.segments) more → AllPairs (λ (d e : Done). d.segments ≤ e.segments) more → AllPairs (λ (d e : Done). d.segments ≤ e.segments) (d ∷ more)
pairs-cons d more low rises zero zero e less inside = absurd (omega (arith, less))
pairs-cons d more low rises zero (suc j) e less inside = low j e (omega (arith, inside))
pairs-cons d more low rises (suc i) zero e less inside = absurd (omega (arith, less))
pairs-cons d more low rises (suc i) (suc j) e less inside = rises i j e (omega (arith, less)) (omega (arith, inside))

short-by : (line : LogLine) → (nat_lt 0 line.tag.code && not (nat_lt 8 (length line.lits))) ≡ true → IsShortLine line
short-by line e = record { says = ltb-true 0 line.tag.code (left (nat_lt 0 line.tag.code) _ e); few = ltb-false 8 (length line.lits) (right (nat_lt 0 line.tag.code) (nat_lt 8 (length line.lits)) e) }
  where
    left : (a b : Bool) → (a && b) ≡ true → a ≡ true
    left true b e = refl
    left false b e = e

    right : (a b : Bool) → (a && not b) ≡ true → b ≡ false
    right true true e = sym e
    right true false e = refl
    right false true e = sym e
    right false false e = refl

module _ (split : Split) (old mid new : Held) (done : Done) (more : List Done) (good : IsGoodLog split.instance (known old.shared) old.log.lines old.log.segments)
    (one : IsOneMore split old mid done) (began : done.segments ≡ length old.log.segments) (rest : IsRun split mid new more) where
  segments-are : new.log.segments ≡ old.log.segments ++ (one.gained ++ rest.gained)
  segments-are = both-grow old.log.segments mid.log.segments new.log.segments one.gained rest.gained one.segments rest.segments

  lines-are : new.log.lines ≡ old.log.lines ++ (one.lines ++ rest.lines)
  lines-are = both-grow old.log.lines mid.log.lines new.log.lines one.lines rest.lines one.longer rest.longer

  later-from : All (λ (d : Done). length mid.log.segments ≤ d.segments) more
  later-from = all-from (length mid.log.segments) more rest.first rest.rises

  mid-longer : (length old.log.segments ≤ length mid.log.segments) × (length old.log.lines ≤ length mid.log.lines)
  mid-longer = (
    omega (arith, ap length one.segments, length-append old.log.segments one.gained),
    omega (arith, ap length one.longer, length-append old.log.lines one.lines),
  )

  -- the segments that stood end with lines that stood
  old-last : All (λ (s : Segment). s.last < length old.log.lines) old.log.segments
  old-last = All-weaker (EndsAsRow (known old.shared) old.log.lines) (λ (s : Segment). s.last < length old.log.lines)
      (λ s ends. slice_get_within old.log.lines s.last ends.line ends.last) old.log.segments good.in_order.ends

  all-behind : All (λ (s : Segment). length old.log.lines ≤ s.last) (one.gained ++ rest.gained)
  all-behind = All-append (λ (s : Segment). length old.log.lines ≤ s.last) one.gained rest.gained one.behind
      (All-weaker (λ (s : Segment). length mid.log.lines ≤ s.last) (λ (s : Segment). length old.log.lines ≤ s.last) (λ s low. omega (arith, low, mid-longer.1)) rest.gained rest.behind)

  this-placed : (n i : ℕ) (s : Segment) → own_line done.outcome ≡ Some n → slice_get new.log.segments i ≡ Some s → s.last ≡ n → (done.segments ≤ i) × All (λ (later : Done). i < later.segments) more
  this-placed n i s is at last =
      let within = one.own n is in
      let past : length old.log.segments ≤ i = elim (cases_lt i (length old.log.segments)) [
        | inl less ↦ absurd (let low = at-front (λ (s : Segment). s.last < length old.log.lines) old.log.segments (one.gained ++ rest.gained) i s old-last less (ap (λ xs. slice_get xs i) (sym segments-are) ∙ at) in omega (arith, low, last, within.0))
        | inr past ↦ past
      ] in
      let less : i < length mid.log.segments = elim (cases_lt i (length mid.log.segments)) [
        | inl less ↦ less
        | inr far ↦ absurd (let low = at-behind (λ (s : Segment). length mid.log.lines ≤ s.last) mid.log.segments rest.gained i s rest.behind far (ap (λ xs. slice_get xs i) (sym rest.segments) ∙ at) in omega (arith, low, last, within.1))
      ] in
      (omega (arith, began, past), All-weaker (λ (d : Done). length mid.log.segments ≤ d.segments) (λ (d : Done). i < d.segments) (λ d low. omega (arith, low, less)) more later-from)

  this-used : IsUsed split new.log done
  this-used i s line less at ends within reaches =
      let inside : i < length old.log.segments = omega (arith, less, began) in
      let here = still-at old.log.segments (one.gained ++ rest.gained) i s inside (ap (λ xs. slice_get xs i) (sym segments-are) ∙ at) in
      let low = at-front (λ (s : Segment). s.last < length old.log.lines) old.log.segments (one.gained ++ rest.gained) i s old-last inside (ap (λ xs. slice_get xs i) (sym segments-are) ∙ at) in
      let stood = still-at old.log.lines (one.lines ++ rest.lines) s.last line low (ap (λ xs. slice_get xs s.last) (sym lines-are) ∙ ends) in
      one.uses good s line (member-at old.log.segments i s here) stood within reaches

  -- what is left out at one job was refused there
  this-offer : old.shared.takes ≡ true → (place : Option ℕ) → own_line done.outcome ≡ place → old.shared.refusals + cond (is_left_out new.log place) 1 0 ≤ mid.shared.refusals
  this-offer takes None is = omega (arith, one.refusals)
  this-offer takes (Some n) is = by-line (slice_get new.log.lines n) refl
    where
      by-ends : (line : LogLine) → slice_get new.log.lines n ≡ Some line → IsShortLine line → (b : Bool) → ends_segment new.log.segments n ≡ b → old.shared.refusals + cond (not b) 1 0 ≤ mid.shared.refusals
      by-ends line at short true e = omega (arith, one.refusals)
      by-ends line at short false e =
          let within = one.own n is in
          let stood = still-at mid.log.lines rest.lines n line within.1 (ap (λ xs. slice_get xs n) (sym rest.longer) ∙ at) in
          let none : ends_segment mid.log.segments n ≡ false = not-before (ends_segment mid.log.segments n) refl in
          omega (arith, one.pools takes n is line stood short none)
        where
          not-before : (b : Bool) → ends_segment mid.log.segments n ≡ b → b ≡ false
          not-before false e2 = refl
          not-before true e2 = absurd (both_ways (ends_segment new.log.segments n) e (ap (λ gs. ends_segment gs n) rest.segments ∙ any-front (λ (g : Segment). g.last == n) mid.log.segments rest.gained e2))

      by-row : (line : LogLine) → slice_get new.log.lines n ≡ Some line → (b : Bool) → can_be_row (Some line) ≡ b → old.shared.refusals + cond (b && not (ends_segment new.log.segments n)) 1 0 ≤ mid.shared.refusals
      by-row line at false e = omega (arith, one.refusals)
      by-row line at true e = by-ends line at (short-by line e) (ends_segment new.log.segments n) refl

      by-line : (o : Option LogLine) → slice_get new.log.lines n ≡ o → old.shared.refusals + cond (can_be_row o && not (ends_segment new.log.segments n)) 1 0 ≤ mid.shared.refusals
      by-line None at = omega (arith, one.refusals)
      by-line (Some line) at = by-row line at (can_be_row (Some line)) refl

  run-on : IsRun split old new (done ∷ more)
  run-on = record {
    takes = rest.takes ∙ one.takes;
    lines = one.lines ++ rest.lines;
    longer = lines-are;
    rows = one.rows ++ rest.rows;
    published = both-grow old.shared.published mid.shared.published new.shared.published one.rows rest.rows one.published rest.published;
    gained = one.gained ++ rest.gained;
    segments = segments-are;
    home = home-both one.rows rest.rows one.gained rest.gained one.home rest.home;
    behind = all-behind;
    first = began;
    rises = pairs-cons done more (All-weaker (λ (d : Done). length mid.log.segments ≤ d.segments) (λ (d : Done). done.segments ≤ d.segments) (λ d low. omega (arith, low, began, mid-longer.0)) more later-from) rest.rises;
    placed = (this-placed, rest.placed);
    used = All-cons (IsUsed split new.log) done more this-used rest.used;
    offers = λ takes.
        let after = rest.offers (one.takes ∙ takes) in
        let now = this-offer takes (own_line done.outcome) refl in
        let both = sum_by-cons (λ (d : Done). cond (is_left_out new.log (own_line d.outcome)) 1 0) done more in
        omega (arith, after, now, both);
  }

none-run : (split : Split) (old : Held) → IsRun split old old []
none-run split old = record {
  takes = refl;
  lines = [];
  longer = sym (append-nil old.log.lines);
  rows = [];
  published = sym (append-nil old.shared.published);
  gained = [];
  segments = sym (append-nil old.log.segments);
  home = refl;
  behind = All-nil _;
  first = tt;
  rises = λ i j d less inside. absurd (omega (arith, inside));
  placed = tt;
  used = All-nil _;
  offers = λ takes. omega arith;
}

runs : (split : Split) (fuel : ℕ) (old new : Held) (done : List Done) → IsGoodLog split.instance (known old.shared) old.log.lines old.log.segments → AreDecided split fuel old done new → IsRun split old new done
runs split fuel old new [] good same = subst (λ w. IsRun split old w []) (sym same) (none-run split old)
runs split fuel old new (done ∷ more) good h =
    let one = one-more split fuel old h.0 done h.1 in
    run-on split old h.0 new done more good one h.1.segments (runs split fuel h.0 new more (one.good good) h.2)

pub rows-clause : (split : Split) (fuel : ℕ) (old new : Held) (done : List Done) → IsGoodLog split.instance (known old.shared) old.log.lines old.log.segments → AreDecided split fuel old done new → IsRowsClause split old new done
rows-clause split fuel old new done good h =
    let run = runs split fuel old new done good h in
    record {
      rows = run.rows;
      published = run.published;
      gained = run.gained;
      segments = run.segments;
      home = run.home;
      first = run.first;
      rises = run.rises;
      placed = run.placed;
      used = run.used;
    }

pub offers-clause : (split : Split) (fuel : ℕ) (old new : Held) (done : List Done) → IsGoodLog split.instance (known old.shared) old.log.lines old.log.segments → AreDecided split fuel old done new → IsOffersClause old new done
offers-clause split fuel old new done good h = (runs split fuel old new done good h).offers
