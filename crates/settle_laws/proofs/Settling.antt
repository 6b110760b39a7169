-- What a job comes to, once its line was offered or its lines were cut.
use Rattle.std.proofs.Common.{◌≡◌, ℕ, ◌+◌, ◌-◌, ◌<◌, ◌≤◌, max, List, [], ◌∷◌, ◌++◌, length, take, drop, All, Contains, Some, Result, Ok, Err, OnOk, refl, sym, ap, subst, ◌∙◌, inl, inr, ⊎_elim, arith, append-nil}
use Rattle.std.specs.List.{slice_get}
use Rattle.std.proofs.lemmas.List.{length-append, length-map, take-append-le, take_all}
use Rattle.std.proofs.lemmas.List.Elements.{All-contains, Contains-append_left, Contains-append_right, Contains-append_cases, Contains-push}
use Rattle.fapp_model.specs.declared.instance.Instance.{Instance}
use Rattle.fapp_model.specs.declared.literal.Literal.{Literal}
use Rattle.fapp_model.specs.declared.tag.Tag.{Tag}
use Rattle.fapp_model.specs.declared.triple.Triple.{Triple}
use Rattle.fapp_model.specs.Instances.{IsInstance}
use Rattle.fapp_model.specs.Levels.{levels_of}
use Rattle.fapp_model.specs.Tags.{IsTagOf, triple_from}
use Rattle.fapp_model.specs.search.Dead.{Dead}
use Rattle.fapp_model.specs.search.Jobs.{target}
use Rattle.fapp_model.specs.search.Partials.{HasAll}
use Rattle.fapp_model.specs.search.Prefixes.{GoesOn, IsAlong, IsPrefix, extensions, lists_along}
use Rattle.fapp_model.specs.search.Tries.{IsTries}
use Rattle.fapp_model.specs.search.WorkOrder.{work_order}
use Rattle.fapp_model.proofs.Members.{All-from_members, at_front, behind as member-behind, front_or_behind, no_member}
use Rattle.search_log.specs.declared.line.LogLine.{LogLine}
use Rattle.search_log.specs.declared.line.Ref.TheVariants.{Own, Row}
use Rattle.search_log.specs.declared.line.Segment.{Segment}
use Rattle.search_log.specs.Contents.{Content, KnownRow, content_of, known_row}
use Rattle.search_log.specs.Segments.{IsGoodLog, ended}
use Rattle.search_log.proofs.Segmenting.{log-cut, log-home, log-more}
use Rattle.search_log.specs.declared.job.Outcome.{Outcome}
use Rattle.search_log.specs.declared.job.Outcome.TheVariants.{Refuted, Moot as OutcomeMoot, Spent as OutcomeSpent}
use Rattle.search_log.specs.Bounds.{floor}
use Rattle.search_log.specs.LogStates.{LogState}
use Rattle.search_log.specs.Logs.{cut_behind, with_segment}
use Rattle.search_log.specs.Shares.{IsServedContent, SharedState, known}
use Rattle.settle_laws.specs.declared.found.Found.{Found}
use Rattle.settle_laws.specs.declared.found.Found.TheVariants.{Settled, Moot, Spent}
use Rattle.settle_laws.specs.Founds.{IsRefuted, refused}
use Rattle.settle_laws.specs.Levels.{level_code, target_code}
use Rattle.settle_laws.specs.Lined.{IsAtMostCount, IsOneCount, Lined}
use Rattle.settle_laws.specs.Published.{GotNone, GotRow, IsOfferable}
use Rattle.settle_laws.specs.Settling.{AreHomeBy, IsOfferedAsRow, IsOutcome, OnRefuted, Publishes, PublishesNone, PublishesOne, Settles, not_taken}
use Rattle.settle_laws.specs.Stops.{ComesAfter, IsUndecided, NoneFits, Stop, prefixes_of}
use Rattle.settle_laws.specs.Ticks.{HaveCountLines, AreOffered, NoneWithin, Ticks}
use Rattle.settle_laws.specs.Worlds.{Gains, IsGoodWorld, IsKeptRight, IsLeastOffered, KeepsAtMost, World, world}
use Rattle.settle_laws.proofs.Adding.{gains-none, has-same, has-trans}
use Rattle.settle_laws.proofs.TickJoin.{no-ticks, ticks-later}
use Rattle.tries_laws.proofs.JobParts.{target-is_tag}
use Rattle.tries_laws.proofs.LineParts.{some-tries}
use Rattle.tries_laws.proofs.TriesCounts.{Follows, along-drop, tries-count}
use Rattle.tries_laws.proofs.TriesParts.{tries-le}

-- ---- ticks and tries

pub ticks-most : (instance : Instance) (level : ℕ) (prefix : List Literal) (old new : World) (refused : List (List Literal)) (n : ℕ) → IsPrefix instance prefix → Ticks instance level prefix old new refused →
    IsTries instance (target level) prefix n → (old.fuel - new.fuel) + length refused ≤ n
ticks-most instance level prefix old new refused n is t tries =
    let rest = drop (length prefix) (work_order instance) in
    let most = tries-count instance (Dead instance (target level)) rest prefix n t.asked tries (record {
      apart = t.are.apart;
      follow = All-from_members (Follows instance rest prefix) t.asked (λ q m.
          let more = All-contains (GoesOn prefix) t.asked q t.are.go_on m in
          let along = All-contains (IsPrefix instance) t.asked q t.are.prefixes m in
          record {
            more = more.0;
            is = more.1;
            along = along-drop instance (work_order instance) prefix more.0 (subst (IsAlong instance (work_order instance)) more.1 along);
          });
      alive = t.are.alive;
      closed = t.are.closed;
    }) in
    omega (arith, most, t.taken, ap length t.asked_is, length-append t.tried refused)

-- where fuel was asked for, no row known before lies within the prefix of all
some-first : (xs : List (List Literal)) → 0 < length xs → (x : List Literal) × Contains xs x
some-first [] l = absurd (omega arith)
some-first (x ∷ xs) l = (x, at_front x xs)

prefix-of : (stops : List Stop) (literals : List Literal) → Contains (prefixes_of stops) literals → (stop : Stop) × Contains stops stop × (stop.prefix ≡ literals)
prefix-of [] literals m = absurd (no_member literals m)
prefix-of (stop ∷ stops) literals m = ⊎_elim
    (λ here. (stop, at_front stop stops, here))
    (λ later. let r = prefix-of stops literals later in (r.0, member-behind stop stops r.0 r.1, r.2))
    (front_or_behind stop.prefix (prefixes_of stops) literals m)

rowless-root : (instance : Instance) (level : ℕ) (prefix : List Literal) (old new : World) (refused : List (List Literal)) (t : Ticks instance level prefix old new refused) → 0 < length t.asked → NoneWithin level (known old.shared) prefix
rowless-root instance level prefix old new refused t some =
    let first = some-first t.asked some in
    let longer = All-contains (GoesOn prefix) t.asked first.0 t.are.go_on first.1 in
    let found = prefix-of t.stops.stops first.0 (subst (λ ps. Contains ps first.0) (sym t.stops.are) first.1) in
    let stop = found.0 in
    let known_there = All-contains (ComesAfter old) t.stops.stops stop t.stops.after found.1 in
    let none = All-contains (IsUndecided instance level) t.stops.stops stop t.stops.undecided found.1 in
    let lits : stop.prefix ≡ prefix ++ longer.0 = found.2 ∙ longer.1 in
    All-from_members (λ (row : KnownRow). HasAll prefix row.content.lits → level_code (level + 1) ≤ row.content.tag → ⊥) (known old.shared) (λ row m has reaches.
    All-contains (λ (row : KnownRow). HasAll stop.prefix row.content.lits → target_code level stop.told ≤ row.content.tag → ⊥) stop.copied row none.rowless
    (All-contains (Contains stop.copied) (known old.shared) row known_there.copied m)
    (has-trans row.content.lits prefix stop.prefix has (All-from_members (Contains stop.prefix) prefix (λ a n. subst (λ lits. Contains lits a) (sym lits) (Contains-append_left prefix longer.0 a n))))
    (omega (arith, reaches)))

tries-at_most : (instance : Instance) (t : Triple) (prefix : List Literal) (n : ℕ) → IsTries instance t prefix n → n ≤ length (extensions instance prefix)
tries-at_most instance t prefix n tries =
    let rest = drop (length prefix) (work_order instance) in
    omega (arith, tries-le instance (Dead instance t) rest prefix n tries, length-map (lists_along instance rest) (λ more. prefix ++ more))

ok-anyhow : {T E : Type 0} (P : Type 0) → P → (result : Result T E) → OnOk result P
ok-anyhow P p (Ok x) = p
ok-anyhow P p (Err e) = tt

-- ---- all that stays so, whatever becomes of the line

module _ (instance : Instance) (level : ℕ) (literals : List Literal) (old mid : World) {E : Type 0} (found : Result Found E) (l : Lined instance level literals old mid found) (shared : SharedState) (log : LogState) where
  abbrev pub later : World
  later = world mid.fuel mid.bound shared log

  -- what was known is known
  pub known-still : (rows : List KnownRow) → shared.copied ≡ mid.shared.copied → shared.published ≡ mid.shared.published ++ rows → All (Contains (known shared)) (known mid.shared)
  known-still rows copied published = All-from_members (Contains (known shared)) (known mid.shared) (λ row m. ⊎_elim
      (λ a. Contains-append_left shared.copied shared.published row (subst (λ rs. Contains rs row) (sym copied) a))
      (λ b. Contains-append_right shared.copied shared.published row (subst (λ rs. Contains rs row) (sym published) (Contains-append_left mid.shared.published rows row b)))
      (Contains-append_cases mid.shared.copied mid.shared.published row m))

  -- where a job comes to an outcome, something was found, and where it is refuted its lines are there
  pub record Went {F : Type 0} (result : Result Outcome F) : Type 0 where
    pub offered : OnOk found (AreOffered instance l.ticks.tried mid.bound.least) → OnOk result (AreOffered instance l.ticks.tried mid.bound.least)
    pub counted : OnOk found (HaveCountLines instance l.ticks.tried old.log.lines mid.log.lines) → OnRefuted result (HaveCountLines instance l.ticks.tried old.log.lines log.lines)

  pub settles-with : {F : Type 0} (result : Result Outcome F) → Went result → shared.copied ≡ mid.shared.copied → shared.takes ≡ mid.shared.takes → mid.shared.refusals ≤ shared.refusals → log.best ≡ mid.log.best →
      Publishes old (world mid.fuel mid.bound shared log) result → Gains old.log.lines log.lines → length log.lines ≤ length mid.log.lines →
      (IsGoodWorld instance mid → IsGoodWorld instance (world mid.fuel mid.bound shared log)) →
      IsOutcome instance level literals old (world mid.fuel mid.bound shared log) result → not_taken result ≡ refused found → Settles instance level literals old (world mid.fuel mid.bound shared log) result
  settles-with result goes copied takes refusals best publishes lines few good is none = record {
    fuel = l.keeps.fuel;
    copied = subst (λ rs. All (Contains rs) old.shared.copied) (sym copied) l.keeps.copied;
    publishes = publishes;
    takes = takes ∙ l.keeps.takes;
    refusals = omega (arith, l.keeps.refusals, refusals);
    lines = lines;
    few = omega (arith, l.few, few);
    good = λ g. good (l.keeps.good g);
    began = l.keeps.began;
    tells = l.keeps.tells;
    lowers = l.keeps.lowers;
    falls = l.keeps.falls;
    least = λ h. subst (λ b. IsLeastOffered b mid.bound.least) (sym best) (l.keeps.least h);
    right = λ h. subst (IsKeptRight instance) (sym best) (l.keeps.right h);
    better = λ tag h. subst (λ b. KeepsAtMost b tag) (sym best) (l.keeps.better tag h);
    read = ok-anyhow (mid.bound.told ≤ floor old.bound) l.read result;
    is = is;
    refused_at = l.refused_at;
    refused_count = l.refused_count ∙ sym none;
    ticks = ticks-later instance level literals old mid (world mid.fuel mid.bound shared log) l.refused_at refl refl copied (λ tag h. subst (λ b. KeepsAtMost b tag) (sym best) h) l.ticks;
    offered = goes.offered l.offered;
    counted = goes.counted l.counted;
    fresh = λ some. rowless-root instance level literals old mid l.refused_at l.ticks some;
  }

  -- ---- the lines are cut

  module _ (from : ℕ) (from_is : from ≡ length old.log.lines) (behind : ended old.log.segments ≤ length old.log.lines) (cut : log ≡ cut_behind mid.log from) where
    no-further : max from (ended mid.log.segments) ≡ length old.log.lines
    no-further = omega (arith, from_is, behind, ap ended l.keeps.segments)

    pub cut-lines : log.lines ≡ old.log.lines
    cut-lines = ap (λ (g : LogState). g.lines) cut ∙ (ap (λ n. take n mid.log.lines) no-further ∙ (ap (λ lines. take (length old.log.lines) lines) l.keeps.lines.are
        ∙ (take-append-le (length old.log.lines) old.log.lines l.keeps.lines.more (omega arith) ∙ take_all (length old.log.lines) old.log.lines (omega arith))))

    pub cut-segments : log.segments ≡ old.log.segments
    cut-segments = ap (λ (g : LogState). g.segments) cut ∙ l.keeps.segments

    cut-good : (rows : List KnownRow) → shared.copied ≡ mid.shared.copied → shared.published ≡ mid.shared.published ++ rows → IsGoodWorld instance mid → IsGoodWorld instance (world mid.fuel mid.bound shared log)
    cut-good rows copied published good = subst (λ (g : LogState). IsGoodLog instance (known shared) g.lines g.segments) (sym cut)
        (log-cut instance (known shared) mid.log.lines mid.log.segments (max from (ended mid.log.segments)) (omega arith)
        (log-more instance (known mid.shared) (known shared) mid.log.lines mid.log.segments (known-still rows copied published) good))

    pub cut-settles : {F : Type 0} (result : Result Outcome F) → Went result → (rows : List KnownRow) → shared.copied ≡ mid.shared.copied → shared.published ≡ mid.shared.published ++ rows → shared.takes ≡ mid.shared.takes → mid.shared.refusals ≤ shared.refusals →
        AreHomeBy rows [] result → IsOutcome instance level literals old (world mid.fuel mid.bound shared log) result → not_taken result ≡ refused found → Settles instance level literals old (world mid.fuel mid.bound shared log) result
    cut-settles result goes rows copied published takes refusals home is none = settles-with result goes copied takes refusals (ap (λ (g : LogState). g.best) cut)
        (record { rows = rows; published = published ∙ ap (λ rs. rs ++ rows) l.keeps.published; gained = []; segments = cut-segments ∙ sym (append-nil old.log.segments); home = home })
        (subst (λ lines. Gains old.log.lines lines) (sym cut-lines) (gains-none old.log.lines))
        (omega (arith, ap length cut-lines, ap length l.keeps.lines.are, length-append old.log.lines l.keeps.lines.more))
        (cut-good rows copied published) is none

-- ---- Moot, Spent and want of memory before a line was offered

module _ (instance : Instance) (level : ℕ) (literals : List Literal) (old mid : World) (log : LogState) (from : ℕ) (from_is : from ≡ length old.log.lines) (behind : ended old.log.segments ≤ length old.log.lines) (cut : log ≡ cut_behind mid.log from) where
  still : mid.shared.published ≡ mid.shared.published ++ []
  still = sym (append-nil mid.shared.published)

  -- nothing was published
  cut-none : {E : Type 0} (found : Result Found E) (l : Lined instance level literals old mid found) → PublishesNone old (world mid.fuel mid.bound mid.shared log)
  cut-none found l = record { published = l.keeps.published; segments = cut-segments instance level literals old mid found l mid.shared log from from_is behind cut }

  cut-by : {E F : Type 0} (found : Result Found E) (l : Lined instance level literals old mid found) (result : Result Outcome F) → Went instance level literals old mid found l mid.shared log result → IsOutcome instance level literals old (world mid.fuel mid.bound mid.shared log) result → not_taken result ≡ refused found →
      AreHomeBy [] [] result → Settles instance level literals old (world mid.fuel mid.bound mid.shared log) result
  cut-by found l result goes is none home = cut-settles instance level literals old mid found l mid.shared log from from_is behind cut result goes [] refl still refl (omega arith) home is none

  cut-same : {E : Type 0} (found : Result Found E) (l : Lined instance level literals old mid found) → log.lines ≡ old.log.lines
  cut-same found l = cut-lines instance level literals old mid found l mid.shared log from from_is behind cut

  pub moot-settles : {E F : Type 0} (seen : Tag) → Lined {E = E} instance level literals old mid (Ok (Moot seen)) → Settles {E = F} instance level literals old (world mid.fuel mid.bound mid.shared log) (Ok (OutcomeMoot seen))
  moot-settles seen l = cut-by (Ok (Moot seen)) l (Ok (OutcomeMoot seen)) (record { offered = λ o. o; counted = λ n. tt }) (l.is.0, l.is.1, cut-same (Ok (Moot seen)) l, cut-none (Ok (Moot seen)) l) refl refl

  pub spent-settles : {E F : Type 0} → IsInstance instance → level ≤ levels_of instance → IsPrefix instance literals → Lined {E = E} instance level literals old mid (Ok Spent) → Settles {E = F} instance level literals old (world mid.fuel mid.bound mid.shared log) (Ok OutcomeSpent)
  spent-settles valid within prefix l =
      let some = some-tries instance (target level) literals valid (target-is_tag instance level within) prefix in
      cut-by (Ok Spent) l (Ok OutcomeSpent) (record { offered = λ o. o; counted = λ n. tt }) (record {
        is_open = l.is.0;
        empty = l.is.1;
        cut = cut-same (Ok Spent) l;
        none = cut-none (Ok Spent) l;
        tries = λ n is. omega (arith, l.keeps.fuel, l.is.1, l.refused_count, ticks-most instance level literals old mid l.refused_at n prefix l.ticks is);
        prefixes = omega (arith, l.keeps.fuel, l.is.1, l.refused_count, ticks-most instance level literals old mid l.refused_at some.0 prefix l.ticks some.1, tries-at_most instance (target level) literals some.0 some.1);
      }) refl refl

  pub err-settles : {E F : Type 0} (e : E) (f : F) → Lined instance level literals old mid (Err e) → Settles instance level literals old (world mid.fuel mid.bound mid.shared log) (Err f)
  err-settles e f l = cut-by (Err e) l (Err f) (record { offered = λ o. tt; counted = λ n. tt }) (cut-same (Err e) l, inl (cut-none (Err e) l)) refl (inl refl)

-- ---- a row settles the job

pub row-settles : {E F : Type 0} (instance : Instance) (level : ℕ) (literals : List Literal) (old mid : World) (r : ℕ) (tag : Tag) → Lined {E = E} instance level literals old mid (Ok (Settled (Row r) tag)) → Settles {E = F} instance level literals old mid (Ok (Refuted (Row r) tag))
row-settles instance level literals old mid r tag l = settles-with instance level literals old mid (Ok (Settled (Row r) tag)) l mid.shared mid.log (Ok (Refuted (Row r) tag)) (record { offered = λ o. o; counted = λ n. n }) refl refl (omega arith) refl
    (record { rows = []; published = l.keeps.published ∙ sym (append-nil old.shared.published); gained = []; segments = l.keeps.segments ∙ sym (append-nil old.log.segments); home = refl })
    l.keeps.lines (omega arith) (λ good. good)
    (l.is.0, record { published = l.keeps.published; segments = l.keeps.segments }, l.is.1) refl

-- ---- a line settles the job, and is offered

module _ {E : Type 0} (instance : Instance) (level : ℕ) (literals : List Literal) (old mid : World) (place : ℕ) (tag : Tag) (l : Lined {E = E} instance level literals old mid (Ok (Settled (Own place) tag))) (behind : ended old.log.segments ≤ length old.log.lines) (shared : SharedState) (copied : shared.copied ≡ mid.shared.copied) where
  -- the line is still there
  refuted-still : (log : LogState) → log.lines ≡ mid.log.lines → IsRefuted instance shared.copied log.lines literals (Own place) tag.code
  refuted-still log same = subst (λ rs. IsRefuted instance rs log.lines literals (Own place) tag.code) (sym copied) (subst (λ lines. IsRefuted instance mid.shared.copied lines literals (Own place) tag.code) (sym same) l.is.0.refuted)

  count-still : (log : LogState) → log.lines ≡ mid.log.lines → IsAtMostCount instance literals old mid → IsAtMostCount instance literals old (world mid.fuel mid.bound shared log)
  count-still log same h = ⊎_elim
      (λ none. inl (same ∙ none))
      (λ (one : IsOneCount instance literals mid.shared.copied old.log.lines mid.log.lines). inr (record {
        line = one.line;
        added = same ∙ one.added;
        count = one.count;
        sorted = one.sorted;
        rowless = subst (λ rows. NoneFits one.line.tag.code rows literals) (sym copied) one.rowless;
      }))
      h

  outcome-still : (F : Type 0) (log : LogState) → log.lines ≡ mid.log.lines → IsOfferedAsRow old (world mid.fuel mid.bound shared log) (Own place) → IsOutcome {E = F} instance level literals old (world mid.fuel mid.bound shared log) (Ok (Refuted (Own place) tag))
  outcome-still F log same offered = (
    record {
      is_open = l.is.0.is_open;
      target = l.is.0.target;
      exact = l.is.0.exact;
      refuted = refuted-still log same;
      last = (l.is.0.last.0, l.is.0.last.1 ∙ ap length (sym same));
    },
    offered,
    (λ none. count-still log same (l.is.1 none)),
  )

  gains-still : (log : LogState) → log.lines ≡ mid.log.lines → Gains old.log.lines log.lines
  gains-still log same = subst (λ lines. Gains old.log.lines lines) (sym same) l.keeps.lines

  cited-line : (line : LogLine) × (slice_get mid.log.lines place ≡ Some line)
  cited-line = (l.is.0.refuted.cited.0, l.is.0.refuted.cited.1)

  -- it got no row
  module _ {T F : Type 0} (takes : shared.takes ≡ mid.shared.takes) (refusals : mid.shared.refusals ≤ shared.refusals) (log : LogState) (result : Result T F) (none : GotNone mid.shared shared mid.log log place result) where
    same : log.lines ≡ mid.log.lines
    same = ap (λ (g : LogState). g.lines) none.log_same

    pub none-settles : (G : Type 0) → Settles {E = G} instance level literals old (world mid.fuel mid.bound shared log) (Ok (Refuted (Own place) tag))
    none-settles G = settles-with instance level literals old mid (Ok (Settled (Own place) tag)) l shared log (Ok (Refuted (Own place) tag)) (record { offered = λ o. o; counted = λ n. subst (λ lines. HaveCountLines instance l.ticks.tried old.log.lines lines) (sym same) n }) copied takes refusals (ap (λ (g : LogState). g.best) none.log_same)
        (record { rows = []; published = none.published ∙ (l.keeps.published ∙ sym (append-nil old.shared.published)); gained = []; segments = ap (λ (g : LogState). g.segments) none.log_same ∙ (l.keeps.segments ∙ sym (append-nil old.log.segments)); home = refl })
        (gains-still log same) (omega (arith, ap length same))
        (λ good. subst (λ (g : LogState). IsGoodLog instance (known shared) g.lines g.segments) (sym none.log_same)
        (log-more instance (known mid.shared) (known shared) mid.log.lines mid.log.segments
        (known-still instance level literals old mid (Ok (Settled (Own place) tag)) l shared log [] copied (none.published ∙ sym (append-nil mid.shared.published))) good))
        (outcome-still G log same (
          cited-line.0,
          subst (λ lines. slice_get lines place ≡ Some cited-line.0) (sym same) cited-line.1,
          inr (record {
            none = record { published = none.published ∙ l.keeps.published; segments = ap (λ (g : LogState). g.segments) none.log_same ∙ l.keeps.segments };
            refused = λ took short.
                let more : mid.shared.refusals < shared.refusals = none.refused (l.keeps.takes ∙ took) cited-line.0 cited-line.1 short in
                omega (arith, l.keeps.refusals, more);
          }),
        ))
        refl

  -- it got a row
  module _ {T F : Type 0} (takes : shared.takes ≡ mid.shared.takes) (refusals : mid.shared.refusals ≤ shared.refusals) (log : LogState) (result : Result T F) (got : GotRow mid.shared shared mid.log log place result) where
    abbrev pub own_segment : Segment
    own_segment = record { last = length mid.log.lines - 1; row = got.row }

    abbrev segment_at : ℕ → Segment
    segment_at n = record { last = n; row = got.row }

    last-is : own_segment.last ≡ place
    last-is = omega (arith, l.is.0.last.1)

    pub row-good : (good : IsGoodWorld instance mid) → IsGoodLog instance (known shared) mid.log.lines (mid.log.segments ++ own_segment ∷ [])
    row-good good = log-home instance (known mid.shared) (known shared) mid.log.lines mid.log.segments own_segment good (record {
      line = got.line;
      whole = omega (arith, l.is.0.last.1);
      last = subst (λ n. slice_get mid.log.lines n ≡ Some got.line) (sym last-is) got.last;
      behind = omega (arith, behind, l.is.0.last.0, l.is.0.last.1, ap ended l.keeps.segments);
      above = got.above;
      kept = known-still instance level literals old mid (Ok (Settled (Own place) tag)) l shared log (known_row got.row (content_of got.line) ∷ []) copied got.published;
      row = Contains-append_right shared.copied shared.published (known_row got.row (content_of got.line))
          (subst (λ rs. Contains rs (known_row got.row (content_of got.line))) (sym got.published) (Contains-push mid.shared.published (known_row got.row (content_of got.line))));
    })

    same-content : l.is.0.refuted.content ≡ content_of got.line
    same-content =
        let same : l.is.0.refuted.cited.0 ≡ got.line = (let there = l.is.0.refuted.cited.1 in let also = got.last in cc) in
        l.is.0.refuted.cited.2 ∙ ap content_of same

    publishes-one : (log : LogState) → PublishesOne old (world mid.fuel mid.bound shared log) (content_of got.line) got.row
    publishes-one log = record {
      published = got.published ∙ ap (λ rs. rs ++ known_row got.row (content_of got.line) ∷ []) l.keeps.published;
      above = subst (λ rs. All (λ (other : KnownRow). other.number < got.row) (rs ++ old.shared.published)) (sym copied)
          (subst (λ rs. All (λ (other : KnownRow). other.number < got.row) (mid.shared.copied ++ rs)) l.keeps.published got.above);
    }

    -- and ends a segment
    pub got-settles : (G : Type 0) → log ≡ with_segment mid.log got.row → Settles {E = G} instance level literals old (world mid.fuel mid.bound shared log) (Ok (Refuted (Own place) tag))
    got-settles G home =
        let same : log.lines ≡ mid.log.lines = ap (λ (g : LogState). g.lines) home in
        let segments : log.segments ≡ old.log.segments ++ own_segment ∷ [] = ap (λ (g : LogState). g.segments) home ∙ ap (λ ss. ss ++ own_segment ∷ []) l.keeps.segments in
        settles-with instance level literals old mid (Ok (Settled (Own place) tag)) l shared log (Ok (Refuted (Own place) tag)) (record { offered = λ o. o; counted = λ n. subst (λ lines. HaveCountLines instance l.ticks.tried old.log.lines lines) (sym same) n }) copied takes refusals (ap (λ (g : LogState). g.best) home)
        (record { rows = known_row got.row (content_of got.line) ∷ []; published = got.published ∙ ap (λ rs. rs ++ known_row got.row (content_of got.line) ∷ []) l.keeps.published; gained = own_segment ∷ []; segments = segments; home = refl })
        (gains-still log same) (omega (arith, ap length same))
        (λ good. subst (λ (g : LogState). IsGoodLog instance (known shared) g.lines g.segments) (sym home) (row-good good))
        (outcome-still G log same (
          got.line,
          subst (λ lines. slice_get lines place ≡ Some got.line) (sym same) got.last,
          inl (record {
            short = got.short;
            row = got.row;
            publishes = publishes-one log;
            segments = segments ∙ ap (λ n. old.log.segments ++ segment_at n ∷ []) last-is;
          }),
        ))
        refl

    -- but for want of memory no segment, and its lines are cut
    pub unkept-settles : {G : Type 0} (g : G) (from : ℕ) → from ≡ length old.log.lines → (after : LogState) → log ≡ mid.log → after ≡ cut_behind log from → Settles instance level literals old (world mid.fuel mid.bound shared after) (Err g)
    unkept-settles g from from_is after same cut =
        let cut_mid : after ≡ cut_behind mid.log from = cut ∙ ap (λ l. cut_behind l from) same in
        cut-settles instance level literals old mid (Ok (Settled (Own place) tag)) l shared after from from_is behind cut_mid (Err g) (record { offered = λ o. tt; counted = λ n. tt }) (known_row got.row (content_of got.line) ∷ []) copied got.published takes refusals
        (inr (record { front = []; last = known_row got.row (content_of got.line); rows_are = refl; home = refl })) (
          cut-lines instance level literals old mid (Ok (Settled (Own place) tag)) l shared after from from_is behind cut_mid,
          inr (record {
            content = content_of got.line;
            row = got.row;
            contained = subst (λ (c : Content). HasAll literals c.lits) same-content l.is.0.refuted.contained;
            served = subst (IsServedContent instance) same-content l.is.0.refuted.served;
            publishes = publishes-one after;
            segments = cut-segments instance level literals old mid (Ok (Settled (Own place) tag)) l shared after from from_is behind cut_mid;
          }),
        ) refl

-- ---- nothing was done

pub nothing-settles : {F : Type 0} (instance : Instance) (level : ℕ) (literals : List Literal) (w : World) (f : F) → Settles instance level literals w w (Err f)
nothing-settles instance level literals w f = record {
  fuel = omega arith;
  copied = has-same w.shared.copied;
  publishes = record { rows = []; published = sym (append-nil w.shared.published); gained = []; segments = sym (append-nil w.log.segments); home = inl refl };
  takes = refl;
  refusals = omega arith;
  lines = gains-none w.log.lines;
  few = omega arith;
  good = λ good. good;
  began = refl;
  tells = omega arith;
  lowers = λ tag. omega arith;
  falls = omega arith;
  least = λ h. h;
  right = λ h. h;
  better = λ tag h. h;
  read = tt;
  is = (refl, inl (record { published = refl; segments = refl }));
  refused_at = [];
  refused_count = refl;
  ticks = no-ticks instance level literals w w refl refl;
  offered = tt;
  counted = tt;
  fresh = λ some. absurd (omega arith);
}

-- ---- what is offered

pub offerable : {E : Type 0} → (instance : Instance) (level : ℕ) (literals : List Literal) (old mid : World) (place : ℕ) (tag : Tag) → Lined {E = E} instance level literals old mid (Ok (Settled (Own place) tag)) → IsOfferable instance mid.log.lines place
offerable instance level literals old mid place tag l line at =
    let r = l.is.0.refuted in
    let same : r.cited.0 ≡ line = (let there = r.cited.1 in cc) in
    let content : r.content ≡ content_of line = r.cited.2 ∙ ap content_of same in (
      subst (λ (c : Content). IsTagOf instance (triple_from c.tag)) content r.own,
      subst (IsServedContent instance) content r.served,
    )
