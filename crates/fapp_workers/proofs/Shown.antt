-- What an outcome names is shown over all rows.
use Rattle.std.proofs.Common.{◌≡◌, ℕ, zero, suc, List, [], ◌∷◌, ◌++◌, All, Contains, Some, None, sym, ap, subst, arith}
use Rattle.std.specs.List.{slice_get}
use Rattle.std.proofs.lemmas.List.{length-map}
use Rattle.std.proofs.lemmas.Option.{slice_get_within}
use Rattle.std.proofs.lemmas.List.Elements.{All-contains}
use Rattle.fapp_model.specs.declared.instance.Instance.{Instance}
use Rattle.fapp_model.specs.declared.literal.Literal.{Literal}
use Rattle.search_log.specs.declared.line.LogLine.{LogLine}
use Rattle.search_log.specs.declared.line.Ref.{Ref}
use Rattle.search_log.specs.declared.line.Ref.TheVariants.{Own, Row}
use Rattle.search_log.specs.Contents.{Cites, Content, KnownRow, known_row}
use Rattle.search_log.specs.declared.job.Outcome.{Outcome}
use Rattle.search_log.specs.declared.job.Outcome.TheVariants.{Refuted, Moot, Spent}
use Rattle.search_log.specs.LogStates.{LogState}
use Rattle.fapp_plan.specs.Outcomes.{Placed}
use Rattle.fapp_plan.specs.Plans.{Split}
use Rattle.fapp_model.specs.search.Jobs.{job_level, job_prefix}
use Rattle.settle_laws.specs.Founds.{IsRefuted}
use Rattle.fapp_workers.specs.Gathered.{IsPlacedBy, log_at}
use Rattle.fapp_workers.specs.Outcomes.{IsPrefixSettledBy}
use Rattle.fapp_workers.specs.Ends.{AreClosed, WorkerEnd, all_published, log_of, logs_of}
use Rattle.fapp_workers.specs.SharingLaws.{IsOutcomeShown}
use Rattle.fapp_workers.proofs.Homes.{some-same}

cites-more : (rows more : List KnownRow) (lines : List LogLine) → All (Contains more) rows → (ref : Ref) (content : Content) → Cites rows lines ref content → Cites more lines ref content
cites-more rows more lines has (Own n) content h = h
cites-more rows more lines has (Row r) content h = All-contains (Contains more) rows (known_row r content) has h

refuted-more : (instance : Instance) (rows more : List KnownRow) (lines : List LogLine) (prefix : List Literal) (line : Ref) (tag : ℕ) → All (Contains more) rows → IsRefuted instance rows lines prefix line tag → IsRefuted instance more lines prefix line tag
refuted-more instance rows more lines prefix line tag has h = record {
  content = h.content;
  cited = cites-more rows more lines has line h.content h.cited;
  reaches = h.reaches;
  contained = h.contained;
  served = h.served;
  own = h.own;
}

settled-more : (instance : Instance) (level : ℕ) (prefix : List Literal) (fuel : ℕ) (rows more : List KnownRow) (lines : List LogLine) (word : ℕ) → All (Contains more) rows → (outcome : Outcome) →
    IsPrefixSettledBy instance level prefix fuel rows lines word outcome → IsPrefixSettledBy instance level prefix fuel more lines word outcome
settled-more instance level prefix fuel rows more lines word has (Refuted line tag) h = (h.0, h.1, refuted-more instance rows more lines prefix line tag.code has h.2)
settled-more instance level prefix fuel rows more lines word has (Moot seen) h = h
settled-more instance level prefix fuel rows more lines word has Spent h = h

at-place : (ends : List WorkerEnd) (place : ℕ) (e : WorkerEnd) → slice_get ends place ≡ Some e → Contains ends e × (log_at (logs_of ends) place ≡ e.log)
at-place [] zero e at = absurd cc
at-place [] (suc n) e at = absurd cc
at-place (d ∷ ends) zero e at = ((0, omega arith, some-same at), ap log_of (some-same at))
at-place (d ∷ ends) (suc place) e at = let r = at-place ends place e at in ((suc r.0.0, omega (arith, r.0.1), r.0.2), r.1)

pub shown : (split : Split) (fuel : ℕ) (placed : List KnownRow) (ends : List WorkerEnd) (word id : ℕ) (outcome : Placed) → AreClosed placed ends → IsOutcomeShown split fuel ends word id outcome →
    IsPlacedBy split fuel (placed ++ all_published ends) (logs_of ends) word id outcome
shown split fuel placed ends word id None closed h = h
shown split fuel placed ends word id (Some p) closed h =
    let r = at-place ends p.0 h.0 h.1 in
    let has = All-contains (λ (e : WorkerEnd). All (Contains (placed ++ all_published ends)) e.copied) ends h.0 closed.copied r.0 in
    let level = job_level split.instance id in
    let prefix = job_prefix split.instance split.split id in (
      omega (arith, slice_get_within ends p.0 h.0 h.1, length-map ends log_of),
      subst (λ (log : LogState). IsPrefixSettledBy split.instance level prefix fuel (placed ++ all_published ends) log.lines word p.1) (sym r.1)
          (settled-more split.instance level prefix fuel h.0.copied (placed ++ all_published ends) h.0.log.lines word has p.1 h.2),
    )
