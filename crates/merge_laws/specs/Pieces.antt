-- The order of the logs' lines in a certificate: segments by their rows, then the rests.
use Rattle.std.specs.Prelude.{ℕ, ◌+◌, ◌-◌, List, [], ◌∷◌, take, drop}
use Rattle.search_log.specs.declared.line.LogLine.{LogLine}
use Rattle.search_log.specs.declared.piece.Piece.{Piece}
use Rattle.merge_laws.specs.Stages.{Merged, done_of, emit_all, land}
use Rattle.search_log.specs.GoodLogs.{lines_of}

-- the lines of a log that are not done, up to a place
abbrev pub left_to : List (List LogLine) → Merged → ℕ → ℕ → List LogLine
left_to logs s log to = take (to - done_of s log) (drop (done_of s log) (lines_of logs log))

-- the lines up to a segment's end, and its row
abbrev pub emit_piece : List (List LogLine) → Piece → Merged → Merged
emit_piece logs p s = land p.row p.log p.last (emit_all p.log (left_to logs s p.log (p.last + 1)) s)

-- segment after segment
abbrev pub emit_pieces : List (List LogLine) → List Piece → Merged → Merged
emit_pieces logs [] s = s
emit_pieces logs (p ∷ ps) s = emit_pieces logs ps (emit_piece logs p s)

-- what is left of a log
abbrev pub emit_rest : List (List LogLine) → ℕ → Merged → Merged
emit_rest logs log s = emit_all log (drop (done_of s log) (lines_of logs log)) s

-- what is left of some logs, one after another
abbrev pub emit_rests : List (List LogLine) → List ℕ → Merged → Merged
emit_rests logs [] s = s
emit_rests logs (log ∷ more) s = emit_rests logs more (emit_rest logs log s)
