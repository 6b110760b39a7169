-- What the merged lines are.
use Rattle.std.specs.Prelude.{◌≡◌, ◌⊎◌, ℕ, ◌+◌, ◌<◌, ◌≤◌, Bool, false, true, List, [], ◌∷◌, ◌++◌, length, take, count_by, sum_by, All, IsTrue, Option, Some, None}
use Rattle.fapp_model.specs.declared.instance.Instance.{Instance}
use Rattle.fapp_model.specs.search.LineBound.{choice_total, tree_size}
use Rattle.fapp_model.specs.declared.tag.Tag.{Tag}
use Rattle.cert_lines.specs.declared.answer.Line.{Line}
use Rattle.cert_lines.specs.declared.answer.Rule.{Rule}
use Rattle.cert_lines.specs.declared.answer.Rule.TheVariants.{Branch, Count, Delete}
use Rattle.cert_lines.specs.declared.answer.Verdict.{Verdict}
use Rattle.cert_lines.specs.WellFormed.{IsLine}
use Rattle.cert_lines.specs.acceptance.LineFaults.{lines_fault}
use Rattle.cert_lines.specs.acceptance.RootFaults.{root_fault, verdict_tag}
use Rattle.search_log.specs.LogStates.{LogState}
use Rattle.arc_levels.specs.ArcLines.{AreArcLines}
use Rattle.arc_levels.specs.Outside.{IsRootTag}
use Rattle.fapp_model.specs.Tags.{triple_from}
use Rattle.fapp_plan.specs.Outcomes.{Placed}
use Rattle.search_log.specs.declared.piece.Piece.{Piece}
use Rattle.merge_laws.specs.Certificates.{certificate}
use Rattle.merge_laws.specs.GoodLogs.{AreByRow}
use Rattle.search_log.specs.GoodLogs.{all_lines}
use Rattle.merge_laws.specs.Levels.{root_line}
use Rattle.merge_laws.specs.OldRoots.{is_rooted}

-- The lines in their order: the arc lines, the segments of the logs by row, the rests of the logs,
-- and at the tag the plan's tree or the arcs' root line.
pub record IsOrdered (instance : Instance) (split : ℕ) (logs : List LogState)
    (outcomes : List Placed) (t : Tag) (lines : List Line) : Type 0 where
  pub arcs : List Line
  pub arcs_are : AreArcLines instance arcs
  pub root : ℕ
  pub root_is : IsRootTag instance (triple_from root)
  pub pieces : List Piece
  pub by_row : AreByRow logs pieces
  pub room : ℕ
  pub fits : All (λ p. p.row < room) pieces
  pub is : lines ≡ certificate instance split arcs [] root (all_lines logs) pieces room outcomes t

-- The lines in their order behind old ones, by whose numbers the placed rows are cited.
pub record IsOrderedAfter (instance : Instance) (split : ℕ) (old : List Line)
    (placed : List (ℕ × ℕ)) (logs : List LogState) (outcomes : List Placed) (t : Tag)
    (lines : List Line) : Type 0 where
  pub arcs : List Line
  pub arcs_are : AreArcLines instance arcs
  pub root : ℕ
  pub root_is : IsRootTag instance (triple_from root)
  pub pieces : List Piece
  pub by_row : AreByRow logs pieces
  pub room : ℕ
  pub fits : All (λ p. p.row < room) pieces
  pub placed_fit : All (λ p. p.0 < room) placed
  pub is : lines ≡ certificate instance split (old ++ arcs) placed root (all_lines logs) pieces room
      outcomes t

-- The lines for a tag: at (0, 0, 0) the root line alone, and above it the lines in their order.
abbrev pub IsCertificateAt : Instance → ℕ → List LogState → List Placed → Tag → List Line → Type 0
IsCertificateAt instance split logs outcomes t lines =
    ((t.code ≡ 0) × (lines ≡ root_line t ∷ []))
    ⊎ ((0 < t.code) × IsOrdered instance split logs outcomes t lines)

-- The lines for a tag behind old ones: these alone where a root line of theirs has at least the
-- tag; else with a root line where the tag is (0, 0, 0), and above it the lines in their order.
abbrev pub IsCertificateAfterAt : Instance → ℕ → List Line → List (ℕ × ℕ) → List LogState →
    List Placed → Tag → List Line → Type 0
IsCertificateAfterAt instance split old placed logs outcomes t lines =
    (IsTrue (is_rooted t old) × (lines ≡ old))
    ⊎ ((is_rooted t old ≡ false) × (((t.code ≡ 0) × (lines ≡ old ++ root_line t ∷ []))
    ⊎ ((0 < t.code) × IsOrderedAfter instance split old placed logs outcomes t lines)))

-- The lines for a verdict behind old ones are those for its tag.
abbrev pub IsCertificateAfter : Instance → ℕ → List Line → List (ℕ × ℕ) → List LogState →
    List Placed → Verdict → List Line → Type 0
IsCertificateAfter instance split old placed logs outcomes verdict lines =
    IsCertificateAfterAt instance split old placed logs outcomes (verdict_tag instance verdict)
    lines

-- The lines for a verdict are those for its tag.
abbrev pub IsCertificate : Instance → ℕ → List LogState → List Placed → Verdict → List Line → Type 0
IsCertificate instance split logs outcomes verdict lines =
    IsCertificateAt instance split logs outcomes (verdict_tag instance verdict) lines

abbrev pub is_branch_path : Option ℕ → Bool
is_branch_path None = false
is_branch_path (Some path) = true

-- the Branch lines of the logs
abbrev pub branch_total : List LogState → ℕ
branch_total logs = sum_by (λ log. count_by (λ line. is_branch_path line.path) log.lines) logs

abbrev pub HasNoCite : Rule → Type 0
HasNoCite (Count cites) = cites ≡ []
HasNoCite (Branch path children) = children ≡ []
HasNoCite (Delete cites) = ⊥

-- a line of the tag (0, 0, 0) cites nothing
abbrev pub IsBareLine : Line → Type 0
IsBareLine line = line.tag.code ≡ 0 → HasNoCite line.rule

-- The lines are well formed, no line has a fault, the root has none for the verdict, a line of the
-- tag (0, 0, 0) cites nothing, and there are no more lines than the bound says.
pub record IsMerged (instance : Instance) (split : ℕ) (logs : List LogState) (verdict : Verdict)
    (lines : List Line) : Type 0 where
  pub formed : All (IsLine instance) lines
  pub good : lines_fault instance lines ≡ None
  pub root : root_fault instance verdict lines ≡ None
  pub bare : All (λ line. line.tag.code ≡ 0 → HasNoCite line.rule) lines
  pub few : length lines ≤ choice_total instance + tree_size instance split + branch_total logs + 1

-- The lines begin with the old ones, are well formed and have no fault, and the root has none for
-- the verdict. Where no old line of the tag (0, 0, 0) cites anything no line of that tag does, and
-- there are no more further lines than the bound says.
pub record IsMergedAfter (instance : Instance) (split : ℕ) (old : List Line) (logs : List LogState)
    (verdict : Verdict) (lines : List Line) : Type 0 where
  pub begins : take (length old) lines ≡ old
  pub formed : All (IsLine instance) lines
  pub good : lines_fault instance lines ≡ None
  pub root : root_fault instance verdict lines ≡ None
  pub bare : All IsBareLine old → All IsBareLine lines
  pub few : length lines ≤ length old + (choice_total instance + tree_size instance split
      + branch_total logs + 1)
