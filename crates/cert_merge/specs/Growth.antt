-- How a certificate grows in one call.
use Rattle.std.specs.Prelude.{◌≡◌, ◌≢◌, ◌⊎◌, ℕ, ◌+◌, ◌<◌, ◌≤◌, List, [], ◌∷◌, ◌++◌, length, map, drop, All, AllPairs}
use Rattle.std.specs.List.{range_with_len}
use Rattle.fapp_model.specs.declared.instance.Instance.{Instance}
use Rattle.fapp_model.specs.declared.literal.Literal.{Literal}
use Rattle.fapp_model.specs.Assignments.{count_at}
use Rattle.cert_lines.specs.declared.answer.Child.{Child}
use Rattle.cert_lines.specs.declared.answer.Line.{Line}
use Rattle.search_log.specs.declared.line.LogLine.{LogLine}
use Rattle.search_log.specs.LogStates.{LogState}
use Rattle.fapp_plan.specs.declared.steps.Step.{Step}
use Rattle.search_log.specs.declared.piece.Piece.{Piece}
use Rattle.merge_laws.specs.Certificates.{gathered}
use Rattle.merge_laws.specs.GoodLogs.{AreByRow}
use Rattle.search_log.specs.GoodLogs.{all_lines, lines_of}
use Rattle.merge_laws.specs.Levels.{all_longer}
use Rattle.merge_laws.specs.Stages.{Merged, done_of}
use Rattle.fapp_model.specs.declared.limits.TheConstants.{MAX_PATH_CHOICES}

-- other lines, and the same numbers
abbrev pub with_out : Merged → List Line → Merged
with_out s out = record { out = out; own = s.own; row = s.row }

-- one more line
abbrev pub merged_with_line : Merged → Line → Merged
merged_with_line s line = with_out s (s.out ++ line ∷ [])

-- a piece's row is lower, or both are of one row and its log and place are not behind
abbrev pub IsPieceNotAfter : Piece → Piece → Type 0
IsPieceNotAfter p q =
    (p.row < q.row) ⊎ ((p.row ≡ q.row) × ((p.log < q.log) ⊎ ((p.log ≡ q.log) × (p.last ≤ q.last))))

-- there is room for the numbers of a piece's log and row
pub record HasRoomFor (s : Merged) (p : Piece) : Type 0 where
  pub log : p.log < length s.own
  pub row : p.row < length s.row

-- there is room for as many logs and rows as before
pub record IsSameRoom (old new : Merged) : Type 0 where
  pub own : length new.own ≡ length old.own
  pub row : length new.row ≡ length old.row

-- what is left of each log: its lines that are not done
pub record AreLeft (logs : List (List LogLine)) (s : Merged)
    (rests : List (List LogLine)) : Type 0 where
  pub count : length rests ≡ length logs
  pub each : (log : ℕ) → lines_of rests log ≡ drop (done_of s log) (lines_of logs log)

-- the old lines, the arc lines, the segments of the logs by row and the rests of the logs
pub record AreGatheredLines (old : List Line) (placed : List (ℕ × ℕ)) (arcs : List Line)
    (logs : List LogState) (s : Merged) : Type 0 where
  pub pieces : List Piece
  pub by_row : AreByRow logs pieces
  pub room : ℕ
  pub fits : All (λ p. p.row < room) pieces
  pub placed_fit : All (λ p. p.0 < room) placed
  pub is : s ≡ gathered (old ++ arcs) placed (all_lines logs) pieces room

-- a step has as many choices as its path
abbrev pub IsStepOf : Instance → Step → Type 0
IsStepOf instance step = step.choices ≡ count_at instance step.path

abbrev pub AreStepsOf : Instance → List Step → Type 0
AreStepsOf instance steps =
    All (λ step. IsStepOf instance step × (step.choices ≤ MAX_PATH_CHOICES)) steps

abbrev pub step_paths : List Step → List ℕ
step_paths steps = map (λ step. step.path) steps

-- children for so many choices, which cite lines one after another
abbrev pub children_by : ℕ → ℕ → List Child
children_by choices next =
    map (λ index. record { choice = index; cite = next + index }) (range_with_len 0 choices)

-- literals of different paths
abbrev pub AreOnPathsApart : List Literal → Type 0
AreOnPathsApart literals = AllPairs (λ a b. a.path ≢ b.path) literals

-- the paths of each list and some further ones all differ
abbrev pub AreWithSteps : List ℕ → List (List Literal) → Type 0
AreWithSteps paths lists =
    All (λ list. AllPairs (λ p q. p ≢ q) (map (λ a. a.path) list ++ paths)) lists

-- the lists that are longer by a choice of each of some paths
abbrev pub deepest : Instance → List ℕ → List (List Literal) → List (List Literal)
deepest instance [] lists = lists
deepest instance (path ∷ paths) lists = deepest instance paths (all_longer instance path lists)
