-- A worker between two jobs.
use Rattle.std.proofs.Common.{◌≡◌, inl, inr, ⊎_elim, ℕ, ◌+◌, ◌-◌, ◌<◌, ◌≤◌, List, [], ◌∷◌, ◌++◌, length, count_by, cond, is_some, All, Contains, Option, Ok, refl, sym, ap, ◌∙◌, subst, arith}
use Rattle.std.specs.declared.alloc.AllocError.{AllocError}
use Rattle.std.proofs.lemmas.Bool.{cases_lt}
use Rattle.std.proofs.lemmas.List.{append_assoc, length-append}
use Rattle.std.proofs.lemmas.List.Elements.{All-append, All-nil, All-push, All-weaker}
use Rattle.std.proofs.lemmas.List.Sums.{count_by-le-length, sum_by-append, sum_by_push}
use Rattle.fapp_model.specs.declared.instance.Instance.{Instance}
use Rattle.fapp_model.specs.declared.literal.Literal.{Literal}
use Rattle.fapp_model.specs.Levels.{levels_of}
use Rattle.fapp_model.specs.search.Jobs.{job_count, job_level, job_prefix}
use Rattle.fapp_plan.specs.Plans.{Split}
use Rattle.search_log.specs.declared.line.LogLine.{LogLine}
use Rattle.search_log.specs.declared.line.Ref.{Ref}
use Rattle.search_log.specs.Contents.{KnownRow}
use Rattle.search_log.specs.declared.job.Outcome.{Outcome}
use Rattle.search_log.specs.declared.job.Outcome.TheVariants.{Refuted, Moot, Spent}
use Rattle.search_log.specs.Bounds.{BoundState, Tells, floor}
use Rattle.settle_laws.specs.Founds.{IsRefuted}
use Rattle.settle_laws.specs.Levels.{level_code}
use Rattle.settle_laws.specs.Lined.{IsAtMostCount}
use Rattle.settle_laws.specs.Settling.{IsOutcome}
use Rattle.settle_laws.specs.Worlds.{Gains, IsLeastOffered, World, world}
use Rattle.search_log.specs.GoodLogs.{IsBare}
use Rattle.settle_laws.proofs.Entering.{floor-le}
use Rattle.settle_laws.proofs.Settling.{ticks-most}
use Rattle.settle_laws.proofs.TagCodes.{tag-small}
use Rattle.settle_laws.proofs.Tried.{cites-grow}
use Rattle.fapp_model.specs.search.Prefixes.{IsPrefix}
use Rattle.tries_laws.proofs.JobParts.{job-is, prefixes-all}
use Rattle.fapp_workers.specs.Outcomes.{AreTicksOf, IsPrefixSettledBy}
use Rattle.fapp_workers.specs.declared.job.Done.{Done}
use Rattle.fapp_workers.specs.Jobs.{AreDecided, Decides, Held, IsSearched, held}
use Rattle.fapp_workers.specs.Works.{IsAllTaken, IsJobDone, IsLogClause, branches_in}
use Rattle.settle_laws.proofs.Adding.{gains-none}

-- ---- a settled job stays settled

refuted-grows : (instance : Instance) (rows more : List KnownRow) (old new : List LogLine) (prefix : List Literal) (line : Ref) (tag : ℕ) → All (Contains more) rows → Gains old new →
    IsRefuted instance rows old prefix line tag → IsRefuted instance more new prefix line tag
refuted-grows instance rows more old new prefix line tag has gains h = record {
  content = h.content;
  cited = cites-grow rows more old new line h.content has gains h.cited;
  reaches = h.reaches;
  contained = h.contained;
  served = h.served;
  own = h.own;
}

settled-grows : (instance : Instance) (level : ℕ) (prefix : List Literal) (fuel : ℕ) (rows more : List KnownRow) (old new : List LogLine) (word lower : ℕ) (outcome : Outcome) → All (Contains more) rows → Gains old new → lower ≤ word →
    IsPrefixSettledBy instance level prefix fuel rows old word outcome → IsPrefixSettledBy instance level prefix fuel more new lower outcome
settled-grows instance level prefix fuel rows more old new word lower (Refuted line tag) has gains low h =
    (h.0, omega (arith, low, h.1), refuted-grows instance rows more old new prefix line tag.code has gains h.2)
settled-grows instance level prefix fuel rows more old new word lower (Moot seen) has gains low h = (omega (arith, low, h.0), h.1)
settled-grows instance level prefix fuel rows more old new word lower Spent has gains low h = h

pub done-grows : (split : Split) (fuel : ℕ) (rows more : List KnownRow) (old new : List LogLine) (word lower : ℕ) (done : Done) → All (Contains more) rows → Gains old new → lower ≤ word →
    IsJobDone split fuel rows old word done → IsJobDone split fuel more new lower done
done-grows split fuel rows more old new word lower done has gains low h = record {
  inside = h.inside;
  settled = settled-grows split.instance (job_level split.instance done.id) (job_prefix split.instance split.split done.id) fuel rows more old new word lower done.outcome has gains low h.settled;
  ticks = h.ticks;
  taken = h.taken;
}

gains-on : (old mid new : List LogLine) → Gains old mid → Gains mid new → Gains old new
gains-on old mid new a b = record {
  more = a.more ++ b.more;
  are = b.are ∙ (ap (λ (xs : List LogLine). xs ++ b.more) a.are ∙ append_assoc old a.more b.more);
  plain = All-append IsBare a.more b.more a.plain b.plain;
}

branches-append : (old more : List LogLine) → branches_in (old ++ more) ≡ branches_in old + branches_in more
branches-append old more = sum_by-append (λ (line : LogLine). cond (is_some line.path) 1 0) old more

-- the prefix of a job
pub job-prefix-is : (split : Split) (id : ℕ) → id < job_count split.instance split.split → IsPrefix split.instance (job_prefix split.instance split.split id)
job-prefix-is split id inside = ((prefixes-all split.instance split.split (job_prefix split.instance split.split id)).0 (job-is split.instance split.split id inside).planned).0

-- ---- a job that was searched

module _ (split : Split) (fuel id : ℕ) (read : BoundState) (now next : Held) (outcome : Outcome) (ticks : ℕ) (inside : id < job_count split.instance split.split) (s : IsSearched split fuel id read now next outcome ticks) where
  abbrev before : World
  before = world fuel read now.shared now.log

  abbrev after : World
  after = world (fuel - ticks) next.bound next.shared next.log

  valid : job_level split.instance id ≤ levels_of split.instance
  valid = (job-is split.instance split.split id inside).in_range

  abbrev Is : Outcome → Type 0
  Is one = IsOutcome {E = AllocError} split.instance (job_level split.instance id) (job_prefix split.instance split.split id) before after (Ok one)

  found-settled : (one : Outcome) → Is one → IsPrefixSettledBy split.instance (job_level split.instance id) (job_prefix split.instance split.split id) fuel next.shared.copied next.log.lines (floor next.bound) one
  found-settled (Refuted line tag) h = (
    tag-small split.instance (job_level split.instance id) tag valid (omega (arith, h.0.target)),
    omega (arith, h.0.target),
    h.0.refuted,
  )
  found-settled (Moot seen) h = (omega (arith, h.0, floor-le next.bound), omega (arith, h.0, h.1))
  found-settled Spent h = h.tries

  all-taken : (one : Outcome) → Is one → IsAllTaken fuel one ticks
  all-taken (Refuted line tag) h = tt
  all-taken (Moot seen) h = tt
  all-taken Spent h = omega (arith, h.empty, s.within)

  ticks-few : AreTicksOf split fuel id ticks
  ticks-few = record {
    within = s.within;
    tried = λ tries is.
        let most = ticks-most split.instance (job_level split.instance id) (job_prefix split.instance split.split id) before after s.settles.refused_at tries (job-prefix-is split id inside) s.settles.ticks is in
        omega (arith, most, s.within);
  }

  -- ---- no more Branch lines than ticks

  one-count : (old new : World) → IsAtMostCount split.instance (job_prefix split.instance split.split id) old new → branches_in new.log.lines ≡ branches_in old.log.lines
  one-count old new (inl same) = ap branches_in same
  one-count old new (inr one) =
      let none : branches_in (one.line ∷ []) ≡ 0 = ap (λ (p : Option ℕ). count_by (λ (q : Option ℕ). is_some q) (p ∷ [])) one.count in
      ap branches_in one.added ∙ omega (arith, branches-append old.log.lines (one.line ∷ []), none)

  none-added : ticks ≡ 0 → (one : Outcome) → Is one → branches_in next.log.lines ≡ branches_in now.log.lines
  none-added none (Refuted line tag) h = one-count before after (h.2 (omega (arith, none)))
  none-added none (Moot seen) h = ap branches_in h.2
  none-added none Spent h = ap branches_in h.cut

  branches-few : branches_in next.log.lines ≤ branches_in now.log.lines + ticks
  branches-few = elim (cases_lt 0 ticks) [
    | inl some ↦
        let more = s.settles.lines.more in
        let are = ap branches_in s.settles.lines.are ∙ branches-append now.log.lines more in
        let short = count_by-le-length (λ (line : LogLine). is_some line.path) more in
        omega (arith, are, short, s.settles.few, ap length s.settles.lines.are, length-append now.log.lines more, some, s.within)
    | inr none ↦
        let same = none-added (omega (arith, none)) outcome s.settles.is in
        omega (arith, same)
  ]

-- ---- one job more

tells-floor : (b c : BoundState) (tag : ℕ) → Tells b c tag → floor c ≤ floor b
tells-floor b c tag h = omega (arith, floor-le c, h.told, h.falls)

skipped-on : (split : Split) (fuel : ℕ) (old now : Held) (read : BoundState) (done : List Done) (last : Done) → IsLogClause split fuel old now done →
    last.id < job_count split.instance split.split → Tells now.bound read last.start.code → last.start.code ≤ level_code (job_level split.instance last.id) → last.outcome ≡ Moot last.start → last.ticks ≡ 0 →
    IsLogClause split fuel old (held read now.shared now.log) (done ++ last ∷ [])
skipped-on split fuel old now read done last h inside tells low moot none = record {
  good = h.good;
  least = subst (IsLeastOffered now.log.best) (sym tells.least) h.least;
  right = h.right;
  lines = h.lines;
  branches = omega (arith, h.branches, none, sum_by_push (λ (d : Done). d.ticks) done last);
  each = All-push (IsJobDone split fuel now.shared.copied now.log.lines (floor read)) done last
      (All-weaker (IsJobDone split fuel now.shared.copied now.log.lines (floor now.bound)) (IsJobDone split fuel now.shared.copied now.log.lines (floor read))
      (λ d one. done-grows split fuel now.shared.copied now.shared.copied now.log.lines now.log.lines (floor now.bound) (floor read) d (has-all now.shared.copied) (gains-none now.log.lines) (tells-floor now.bound read last.start.code tells) one) done h.each)
      (record {
        inside = inside;
        settled = subst (λ o. IsPrefixSettledBy split.instance (job_level split.instance last.id) (job_prefix split.instance split.split last.id) fuel now.shared.copied now.log.lines (floor read) o) (sym moot) (omega (arith, tells.told, floor-le read), low);
        ticks = record { within = omega (arith, none); tried = λ tries is. omega (arith, none) };
        taken = subst (λ o. IsAllTaken fuel o last.ticks) (sym moot) tt;
      });
}
  where
    has-all : (rows : List KnownRow) → All (Contains rows) rows
    has-all rows = λ k d less. (k, less, Rattle.std.proofs.lemmas.List.get_or_default rows k _ _ less)

searched-on : (split : Split) (fuel : ℕ) (old now next : Held) (read : BoundState) (done : List Done) (last : Done) → IsLogClause split fuel old now done →
    last.id < job_count split.instance split.split → Tells now.bound read last.start.code → IsSearched split fuel last.id read now next last.outcome last.ticks →
    IsLogClause split fuel old next (done ++ last ∷ [])
searched-on split fuel old now next read done last h inside tells s = record {
  good = s.settles.good h.good;
  least = s.settles.least (subst (IsLeastOffered now.log.best) (sym tells.least) h.least);
  right = λ r. s.settles.right (h.right r);
  lines = gains-on old.log.lines now.log.lines next.log.lines h.lines s.settles.lines;
  branches = omega (arith, h.branches, branches-few split fuel last.id read now next last.outcome last.ticks inside s, sum_by_push (λ (d : Done). d.ticks) done last);
  each = All-push (IsJobDone split fuel next.shared.copied next.log.lines (floor next.bound)) done last
      (All-weaker (IsJobDone split fuel now.shared.copied now.log.lines (floor now.bound)) (IsJobDone split fuel next.shared.copied next.log.lines (floor next.bound))
      (λ d one. done-grows split fuel now.shared.copied next.shared.copied now.log.lines next.log.lines (floor now.bound) (floor next.bound) d s.settles.copied s.settles.lines
      (omega (arith, tells-floor now.bound read last.start.code tells, s.settles.falls)) one) done h.each)
      (record {
        inside = inside;
        settled = found-settled split fuel last.id read now next last.outcome last.ticks inside s last.outcome s.settles.is;
        ticks = ticks-few split fuel last.id read now next last.outcome last.ticks inside s;
        taken = all-taken split fuel last.id read now next last.outcome last.ticks inside s last.outcome s.settles.is;
      });
}

pub works-on : (split : Split) (fuel : ℕ) (old now next : Held) (done : List Done) (last : Done) → IsLogClause split fuel old now done → Decides split fuel now next last → IsLogClause split fuel old next (done ++ last ∷ [])
works-on split fuel old now next done last h d = ⊎_elim
    (λ skip. subst (λ w. IsLogClause split fuel old w (done ++ last ∷ [])) (sym skip.1.same) (skipped-on split fuel old now d.read done last h d.inside d.tells skip.0 skip.1.outcome skip.1.none))
    (λ search. searched-on split fuel old now next d.read done last h d.inside d.tells search.1)
    d.by

pub at-start : (split : Split) (fuel : ℕ) (old : Held) → Rattle.search_log.specs.Segments.IsGoodLog split.instance (Rattle.search_log.specs.Shares.known old.shared) old.log.lines old.log.segments → IsLeastOffered old.log.best old.bound.least →
    IsLogClause split fuel old old []
at-start split fuel old good least = record {
  good = good;
  least = least;
  right = λ r. r;
  lines = gains-none old.log.lines;
  branches = omega arith;
  each = All-nil _;
}

-- what was told last is no more than what the last job began with
pub told-after : (split : Split) (fuel : ℕ) (now next : Held) (last : Done) → Decides split fuel now next last → next.bound.told ≤ last.start.code
told-after split fuel now next last d = ⊎_elim
    (λ skip. omega (arith, ap (λ (w : Held). w.bound.told) skip.1.same, d.tells.told))
    (λ search. omega (arith, search.1.settles.tells, d.tells.told))
    d.by

pub decided-on : (split : Split) (fuel : ℕ) (old now next : Held) (done : List Done) (last : Done) → AreDecided split fuel old done now → Decides split fuel now next last →
    AreDecided split fuel old (done ++ last ∷ []) next
decided-on split fuel old now next [] last same d = (next, subst (λ w. Decides split fuel w next last) same d, refl)
decided-on split fuel old now next (done ∷ more) last h d = (h.0, h.1, decided-on split fuel h.0 now next more last h.2 d)
