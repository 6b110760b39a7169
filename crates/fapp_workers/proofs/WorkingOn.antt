-- A worker's jobs, one after another.
use Rattle.std.proofs.Common.{ℕ, ◌≤◌, List, ◌++◌, map, All, Contains, Ok, sym, ap, ◌∙◌, subst, arith}
use Rattle.std.specs.declared.alloc.AllocError.{AllocError}
use Rattle.std.proofs.lemmas.List.{map-append}
use Rattle.std.proofs.lemmas.List.Elements.{All-append}
use Rattle.fapp_model.specs.declared.instance.Instance.{Instance}
use Rattle.fapp_model.specs.declared.literal.Literal.{Literal}
use Rattle.fapp_model.specs.search.Jobs.{job_level, job_prefix}
use Rattle.search_log.specs.declared.line.LogLine.{LogLine}
use Rattle.search_log.specs.declared.line.Ref.{Ref}
use Rattle.search_log.specs.declared.line.Segment.{Segment}
use Rattle.search_log.specs.Contents.{KnownRow}
use Rattle.search_log.specs.declared.job.Outcome.{Outcome}
use Rattle.search_log.specs.declared.job.Outcome.TheVariants.{Refuted, Moot, Spent}
use Rattle.fapp_plan.specs.Plans.{Split}
use Rattle.settle_laws.specs.Founds.{IsRefuted}
use Rattle.settle_laws.specs.Settling.{AreHome, Settles}
use Rattle.settle_laws.specs.Worlds.{Gains, World}
use Rattle.search_log.specs.GoodLogs.{IsBare}
use Rattle.settle_laws.proofs.Tried.{cites-grow}
use Rattle.fapp_workers.specs.Outcomes.{IsJobSettledBy, IsPrefixSettledBy}
use Rattle.fapp_workers.specs.Ends.{IsWorkerEnd, end_of_world}
use Rattle.fapp_workers.proofs.Homes.{number_of, seg_row}

home-more : (rows more : List KnownRow) (segments gained : List Segment) → AreHome rows segments → AreHome more gained → AreHome (rows ++ more) (segments ++ gained)
home-more rows more segments gained h g =
    map-append number_of rows more ∙ (ap (λ xs. xs ++ map number_of more) h ∙ (ap (λ xs. map seg_row segments ++ xs) g ∙ sym (map-append seg_row segments gained)))

pub goes-on : (instance : Instance) (level : ℕ) (literals : List Literal) (old new : World) (outcome : Outcome) → IsWorkerEnd instance (end_of_world old) →
    Settles {E = AllocError} instance level literals old new (Ok outcome) → IsWorkerEnd instance (end_of_world new)
goes-on instance level literals old new outcome h s = record {
  good = s.good h.good;
  home = subst (λ rows. AreHome rows new.log.segments) (sym s.publishes.published)
      (subst (AreHome (old.shared.published ++ s.publishes.rows)) (sym s.publishes.segments) (home-more old.shared.published s.publishes.rows old.log.segments s.publishes.gained h.home s.publishes.home));
  plain = subst (All IsBare) (sym s.lines.are) (All-append IsBare old.log.lines s.lines.more h.plain s.lines.plain);
}

refuted-grows : (instance : Instance) (rows more : List KnownRow) (lines longer : List LogLine) (prefix : List Literal) (line : Ref) (tag : ℕ) → All (Contains more) rows → Gains lines longer →
    IsRefuted instance rows lines prefix line tag → IsRefuted instance more longer prefix line tag
refuted-grows instance rows more lines longer prefix line tag has gains h = record {
  content = h.content;
  cited = cites-grow rows more lines longer line h.content has gains h.cited;
  reaches = h.reaches;
  contained = h.contained;
  served = h.served;
  own = h.own;
}

settled-grows : (instance : Instance) (level : ℕ) (prefix : List Literal) (fuel : ℕ) (rows more : List KnownRow) (lines longer : List LogLine) (word lower : ℕ) (outcome : Outcome) →
    All (Contains more) rows → Gains lines longer → lower ≤ word → IsPrefixSettledBy instance level prefix fuel rows lines word outcome → IsPrefixSettledBy instance level prefix fuel more longer lower outcome
settled-grows instance level prefix fuel rows more lines longer word lower (Refuted line tag) has gains low h = (h.0, omega (arith, low, h.1), refuted-grows instance rows more lines longer prefix line tag.code has gains h.2)
settled-grows instance level prefix fuel rows more lines longer word lower (Moot seen) has gains low h = (omega (arith, low, h.0), h.1)
settled-grows instance level prefix fuel rows more lines longer word lower Spent has gains low h = h

pub stays : (split : Split) (fuel id : ℕ) (rows more : List KnownRow) (lines longer : List LogLine) (word lower : ℕ) (outcome : Outcome) →
    All (Contains more) rows → Gains lines longer → lower ≤ word → IsJobSettledBy split fuel id rows lines word outcome → IsJobSettledBy split fuel id more longer lower outcome
stays split fuel id = settled-grows split.instance (job_level split.instance id) (job_prefix split.instance split.split id) fuel
