-- What holds of merged lines.
use Rattle.std.specs.Prelude.{◌≡◌, ℕ, ◌+◌, ◌<◌, ◌≤◌, List, [], ◌∷◌, length, slice_index_or, All, IsTrue, Some, None}
use Rattle.fapp_model.specs.declared.instance.Instance.{Instance}
use Rattle.fapp_model.specs.declared.tag.Tag.{Tag}
use Rattle.fapp_model.specs.Instances.{IsInstance, IsNumber}
use Rattle.fapp_model.specs.Levels.{levels_of}
use Rattle.fapp_model.specs.Tags.{triple_from}
use Rattle.fapp_model.specs.search.Jobs.{job_count, job_prefix, prefixes}
use Rattle.fapp_model.specs.search.Prefixes.{lists_along}
use Rattle.cert_lines.specs.declared.answer.Answer.{Answer}
use Rattle.cert_lines.specs.declared.answer.Line.{Line}
use Rattle.cert_lines.specs.declared.answer.Verdict.{Verdict}
use Rattle.cert_lines.specs.WellFormed.{IsLine, is_shown}
use Rattle.cert_lines.specs.acceptance.Accepts.{Accepts}
use Rattle.cert_lines.specs.acceptance.PlanFaults.{plan_fault}
use Rattle.cert_lines.specs.acceptance.RootFaults.{verdict_tag}
use Rattle.accept_laws.specs.Lines.{AreGood}
use Rattle.arc_levels.specs.ArcLines.{AreArcLines}
use Rattle.arc_levels.specs.Outside.{IsRootTag}
use Rattle.search_log.specs.declared.line.Ref.{Ref}
use Rattle.search_log.specs.Contents.{Cites, Content, KnownRow}
use Rattle.search_log.specs.LogStates.{LogState}
use Rattle.search_log.specs.declared.job.Outcome.TheVariants.{Refuted}
use Rattle.fapp_plan.specs.Outcomes.{IsPlacedFor, Placed, settled_by}
use Rattle.fapp_plan.specs.VerdictRule.{IsVerdictOf}
use Rattle.search_log.specs.declared.piece.Piece.{Piece}
use Rattle.merge_laws.specs.Certificates.{gathered}
use Rattle.merge_laws.specs.Conditions.{IsMergeable, IsMergeableAfter}
use Rattle.merge_laws.specs.Fates.{AreMarked, IsFate}
use Rattle.merge_laws.specs.GoodLogs.{AreByRow}
use Rattle.search_log.specs.GoodLogs.{AreGoodLogs, all_lines, lines_of}
use Rattle.merge_laws.specs.Levels.{emit_tree}
use Rattle.merge_laws.specs.MergedLines.{IsCertificate, IsCertificateAfter, IsMerged, IsMergedAfter}
use Rattle.merge_laws.specs.Stages.{Merged, merged_number}

-- Merged lines are well formed and accepted for the verdict, cite nothing at (0, 0, 0), and are no
-- more than the bound.
abbrev pub MergedLinesAreAccepted : Type 0
MergedLinesAreAccepted =
    (instance : Instance) (split : ℕ) (logs : List LogState) (outcomes : List Placed) (word : ℕ)
    (verdict : Verdict) (lines : List Line) →
    IsInstance instance → IsMergeable instance split logs outcomes word verdict →
    IsCertificate instance split logs outcomes verdict lines →
    IsNumber (length lines) → IsMerged instance split logs verdict lines

-- So are those behind old lines, with which they begin.
abbrev pub MergedLinesAfterAreAccepted : Type 0
MergedLinesAfterAreAccepted =
    (instance : Instance) (split : ℕ) (old : List Line) (placed : List (ℕ × ℕ))
    (logs : List LogState) (outcomes : List Placed) (word : ℕ) (verdict : Verdict)
    (lines : List Line) →
    IsInstance instance → IsMergeableAfter instance split old placed logs outcomes word verdict →
    IsCertificateAfter instance split old placed logs outcomes verdict lines →
    IsNumber (length lines) → IsMergedAfter instance split old logs verdict lines

-- what the lines before the tree are: good, each choice outside the arcs marked, and whatever a log
-- or an outcome cites has its number
pub record AreGathered (instance : Instance) (rows : List KnownRow) (logs : List LogState)
    (s : Merged) : Type 0 where
  pub good : AreGood instance s.out
  pub formed : IsNumber (length s.out) → All (IsLine instance) s.out
  pub marked : AreMarked instance s.out
  pub cited : (log : ℕ) (ref : Ref) (content : Content) →
      Cites rows (lines_of (all_lines logs) log) ref content →
      IsFate instance s.out content (merged_number s log ref)

-- The arc lines, the segments by row and the rests of good logs are that.
abbrev pub GatheredLinesAreGood : Type 0
GatheredLinesAreGood =
    (instance : Instance) (rows : List KnownRow) (logs : List LogState) (pieces : List Piece)
    (arcs : List Line) (room : ℕ) →
    IsInstance instance → AreArcLines instance arcs → AreGoodLogs instance rows logs →
    AreByRow logs pieces → All (λ p. p.row < room) pieces →
    AreGathered instance rows logs (gathered arcs [] (all_lines logs) pieces room)

-- Merged lines make an accepted answer, with any plan that has no fault for the verdict.
abbrev pub MergedAnswerIsAccepted : Type 0
MergedAnswerIsAccepted =
    (instance : Instance) (split : ℕ) (logs : List LogState) (answer : Answer) →
    plan_fault instance answer.plan answer.verdict ≡ None →
    IsMerged instance split logs answer.verdict answer.lines →
    Accepts instance answer

-- a job on a prefix is Refuted with at least a tag, and what it names is what settles the prefix at
-- that tag
pub record IsSettledAt (instance : Instance) (split : ℕ) (outcomes : List Placed)
    (code place : ℕ) : Type 0 where
  pub id : ℕ
  pub below : id < job_count instance split
  pub prefix : job_prefix instance split id ≡ slice_index_or (prefixes instance split) place []
  pub log : ℕ
  pub line : Ref
  pub tag : Tag
  pub refuted : slice_index_or outcomes id None ≡ Some (log, Refuted line tag)
  pub reaches : code ≤ tag.code
  pub first : settled_by instance outcomes code place ≡ Some (log, line)

-- Where the verdict's tag is above the arcs' root tag, each prefix is settled at it.
abbrev pub RuleSettlesPrefixes : Type 0
RuleSettlesPrefixes =
    (instance : Instance) (split : ℕ) (outcomes : List Placed) (word root place : ℕ)
    (verdict : Verdict) →
    IsInstance instance → length outcomes ≡ job_count instance split →
    All (IsPlacedFor instance) outcomes →
    IsTrue (is_shown (levels_of instance) (triple_from word)) →
    IsRootTag instance (triple_from root) →
    IsVerdictOf instance split outcomes word root verdict →
    root < (verdict_tag instance verdict).code →
    place < length (prefixes instance split) →
    IsSettledAt instance split outcomes (verdict_tag instance verdict).code place

-- The arcs' root tag is one.
abbrev pub OneRootTag : Type 0
OneRootTag =
    (instance : Instance) (a b : ℕ) → IsRootTag instance (triple_from a) →
    IsRootTag instance (triple_from b) → a ≡ b

-- A tree has a line for each list of choices of its first paths.
abbrev pub TreeLines : Type 0
TreeLines = (instance : Instance) (t : Tag) (number : ℕ → ℕ) (paths : List ℕ) (out : List Line) →
    length (emit_tree instance t number paths ([] ∷ []) out) ≡ length out
    + length (lists_along instance paths)
