-- What a search of one job says of it.
use Rattle.std.proofs.Common.{◌≡◌, ℕ, ◌≤◌, List, [], ◌∷◌, ◌++◌, length, All, Contains, Ok, Some, sym, ap, ◌∙◌, subst, arith}
use Rattle.std.specs.declared.alloc.AllocError.{AllocError}
use Rattle.fapp_model.specs.declared.instance.Instance.{Instance}
use Rattle.fapp_model.specs.declared.literal.Literal.{Literal}
use Rattle.fapp_model.specs.search.Jobs.{job_level, job_prefix}
use Rattle.search_log.specs.declared.line.LogLine.{LogLine}
use Rattle.search_log.specs.declared.line.Segment.{Segment}
use Rattle.search_log.specs.Contents.{KnownRow}
use Rattle.search_log.specs.declared.job.Outcome.{Outcome}
use Rattle.search_log.specs.declared.job.Outcome.TheVariants.{Refuted, Moot, Spent}
use Rattle.fapp_plan.specs.Plans.{Split}
use Rattle.settle_laws.specs.Settling.{Settles}
use Rattle.settle_laws.specs.Worlds.{World}
use Rattle.fapp_workers.specs.Outcomes.{IsJobSettledBy, IsPrefixSettledBy}
use Rattle.std.proofs.Common.{◌+◌, ◌<◌, Option, None, inl, inr}
use Rattle.std.specs.List.{slice_get}
use Rattle.std.proofs.Common.{◌≢◌, ◌⊎◌, true}
use Rattle.std.proofs.lemmas.Option.{slice_get_within}
use Rattle.fapp_model.specs.declared.tag.Tag.{Tag}
use Rattle.fapp_model.proofs.Members.{All-from_members}
use Rattle.search_log.specs.declared.line.Ref.TheVariants.{Own}
use Rattle.settle_laws.specs.Published.{IsShortLine}
use Rattle.std.proofs.lemmas.Bool.{cases_lt}
use Rattle.std.proofs.lemmas.List.{length-append}
use Rattle.std.proofs.lemmas.List.Elements.{All-contains}
use Rattle.fapp_model.specs.Levels.{levels_of}
use Rattle.fapp_model.specs.search.Jobs.{job_count}
use Rattle.fapp_model.specs.search.Partials.{HasAll}
use Rattle.search_log.specs.Contents.{content_of, known_row}
use Rattle.search_log.specs.Segments.{EndsAsRow}
use Rattle.search_log.specs.Bounds.{floor, lowest}
use Rattle.search_log.specs.Shares.{known}
use Rattle.settle_laws.specs.Levels.{level_code}
use Rattle.settle_laws.specs.Settling.{IsOutcome}
use Rattle.settle_laws.specs.Worlds.{IsGoodWorld}
use Rattle.settle_laws.proofs.TagCodes.{tag-small}
use Rattle.tries_laws.proofs.JobParts.{job-is}
use Rattle.fapp_workers.proofs.Homes.{some-same}

floor-low : (told : ℕ) (least : Option ℕ) → lowest told least ≤ told
floor-low told None = omega arith
floor-low told (Some least) = omega arith

found-settled : (instance : Instance) (level : ℕ) (prefix : List Literal) (fuel word : ℕ) (old new : World) → level ≤ levels_of instance → old.fuel ≡ fuel → word ≤ floor new.bound → (outcome : Outcome) →
    IsOutcome {E = AllocError} instance level prefix old new (Ok outcome) → IsPrefixSettledBy instance level prefix fuel new.shared.copied new.log.lines word outcome
found-settled instance level prefix fuel word old new valid start low (Refuted line tag) h = (
  tag-small instance level tag valid (omega (arith, h.0.target)),
  omega (arith, h.0.target, low),
  h.0.refuted,
)
found-settled instance level prefix fuel word old new valid start low (Moot seen) h = let told = floor-low new.bound.told new.bound.least in (omega (arith, h.0, low, told), omega (arith, h.0, h.1))
found-settled instance level prefix fuel word old new valid start low Spent h = λ n is. omega (arith, start, h.tries n is)

pub job-settled : (split : Split) (fuel id word : ℕ) (old new : World) (outcome : Outcome) → id < job_count split.instance split.split → old.fuel ≡ fuel → word ≤ floor new.bound →
    Settles {E = AllocError} split.instance (job_level split.instance id) (job_prefix split.instance split.split id) old new (Ok outcome) → IsJobSettledBy split fuel id new.shared.copied new.log.lines word outcome
job-settled split fuel id word old new outcome inside start low s =
    found-settled split.instance (job_level split.instance id) (job_prefix split.instance split.split id) fuel word old new (job-is split.instance split.split id inside).in_range start low outcome s.is

pub used : (instance : Instance) (level : ℕ) (literals : List Literal) (old new : World) (outcome : Outcome) (s : Segment) (line : LogLine) → IsGoodWorld instance old →
    Contains old.log.segments s → slice_get old.log.lines s.last ≡ Some line → HasAll literals line.lits → level_code (level + 1) ≤ line.tag.code →
    Settles {E = AllocError} instance level literals old new (Ok outcome) → new.fuel ≡ old.fuel
used instance level literals old new outcome s line good m at within reaches h = elim (cases_lt 0 (length h.ticks.tried)) [
  | inl some ↦ (
      let ends = All-contains (EndsAsRow (known old.shared) old.log.lines) old.log.segments s good.in_order.ends m in
      let same : ends.line ≡ line = some-same (sym ends.last ∙ at) in
      let asked : 0 < length h.ticks.asked = omega (arith, some, ap length h.ticks.asked_is, length-append h.ticks.tried h.refused_at) in
      let none = All-contains (λ (row : KnownRow). HasAll literals row.content.lits → level_code (level + 1) ≤ row.content.tag → ⊥) (known old.shared) (known_row s.row (content_of ends.line)) (h.fresh asked) ends.row in
      absurd (none (subst (λ (l : LogLine). HasAll literals l.lits) (sym same) within) (subst (λ (l : LogLine). level_code (level + 1) ≤ l.tag.code) (sym same) reaches)))
  | inr few ↦ omega (arith, few, h.ticks.taken)
]

-- ---- offers

below-own : (instance : Instance) (old : World) (n : ℕ) → IsGoodWorld instance old → length old.log.lines ≤ n → All (λ (s : Segment). s.last ≢ n) old.log.segments
below-own instance old n good past = All-from_members (λ (s : Segment). s.last ≢ n) old.log.segments (λ s m same.
    let ends = All-contains (EndsAsRow (known old.shared) old.log.lines) old.log.segments s good.in_order.ends m in
    absurd (omega (arith, slice_get_within old.log.lines s.last ends.line ends.last, past, same)))

pub offers-counted : (instance : Instance) (level : ℕ) (literals : List Literal) (old new : World) (n : ℕ) (tag : Tag) (line : LogLine) → old.shared.takes ≡ true → IsGoodWorld instance old →
    Settles {E = AllocError} instance level literals old new (Ok (Refuted (Own n) tag)) → slice_get new.log.lines n ≡ Some line → IsShortLine line →
    ((row : ℕ) × (new.log.segments ≡ old.log.segments ++ record { last = n; row = row } ∷ []))
    ⊎ (All (λ (s : Segment). s.last ≢ n) new.log.segments × (old.shared.refusals < new.shared.refusals))
offers-counted instance level literals old new n tag line takes good s at short =
    let offered = s.is.1 in
    let same : offered.0 ≡ line = some-same (sym offered.1 ∙ at) in
    elim offered.2 [
      | inl home ↦ inl (home.row, home.segments)
      | inr away ↦ inr (
        subst (All (λ (g : Segment). g.last ≢ n)) (sym away.none.segments) (below-own instance old n good s.is.0.last.0),
        away.refused takes (subst IsShortLine (sym same) short),
      )
    ]
