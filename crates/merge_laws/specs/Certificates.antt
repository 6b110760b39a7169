-- The one certificate of logs and jobs.
use Rattle.std.specs.Prelude.{ℕ, nat_le, if◌then◌else◌, List, [], ◌∷◌, ◌++◌, length}
use Rattle.std.specs.List.{range_with_len}
use Rattle.fapp_model.specs.declared.instance.Instance.{Instance}
use Rattle.fapp_model.specs.declared.tag.Tag.{Tag}
use Rattle.cert_lines.specs.declared.answer.Line.{Line}
use Rattle.search_log.specs.declared.line.LogLine.{LogLine}
use Rattle.fapp_plan.specs.Outcomes.{Placed}
use Rattle.fapp_plan.specs.NamedPaths.{prefix_paths}
use Rattle.search_log.specs.declared.piece.Piece.{Piece}
use Rattle.merge_laws.specs.Levels.{emit_tree, root_line}
use Rattle.merge_laws.specs.Pieces.{emit_pieces, emit_rests}
use Rattle.merge_laws.specs.Refuted.{prefix_number}
use Rattle.merge_laws.specs.Stages.{Merged, start}

-- some lines, the segments by row and the rests of the logs, with room for so many rows, some of
-- which are placed
abbrev pub gathered : List Line → List (ℕ × ℕ) → List (List LogLine) → List Piece → ℕ → Merged
gathered out placed logs pieces rows =
    emit_rests logs (range_with_len 0 (length logs))
    (emit_pieces logs pieces (start out placed (length logs) rows))

-- the lines that end a certificate at a tag: one root line where the arcs say as much, else the
-- plan's tree
abbrev pub finished : Instance → ℕ → List Placed → Tag → ℕ → Merged → List Line
finished instance split outcomes t arcs_code s =
    if nat_le t.code arcs_code then (s.out ++ root_line t ∷ [])
    else emit_tree instance t (prefix_number instance outcomes t.code s)
    (prefix_paths instance split) ([] ∷ []) s.out

-- the lines in their order behind some lines, at a tag above (0, 0, 0)
abbrev pub certificate : Instance → ℕ → List Line → List (ℕ × ℕ) → ℕ → List (List LogLine) →
    List Piece → ℕ → List Placed → Tag → List Line
certificate instance split out placed arcs_code logs pieces rows outcomes t =
    finished instance split outcomes t arcs_code (gathered out placed logs pieces rows)
