-- The start of a certificate, and the segments that it has room for.
use Rattle.std.proofs.Common.{◌≡◌, ℕ, ◌+◌, ◌<◌, ◌≤◌, List, [], ◌∷◌, ◌++◌, length, map, append_assoc, replicate, drop, get_or, All, refl, sym, ap, ◌∙◌, subst, ⊎_elim, arith}
use Rattle.std.specs.List.{range_with_len}
use Rattle.std.specs.List.Sorted.{IsPermutation}
use Rattle.std.proofs.lemmas.Bool.{cases_lt}
use Rattle.std.proofs.lemmas.List.{append-nil, get_or-replicate, get_or_past, map-append, length-map, length-replicate}
use Rattle.std.proofs.lemmas.List.Elements.{All-append, All-contains, All-map, All-nil, All-weaker}
use Rattle.std.proofs.lemmas.List.Sorted.{Contains-permutation, IsPermutation-sym}
use Rattle.fapp_model.proofs.Members.{All-from_members}
use Rattle.cert_lines.specs.declared.answer.Line.{Line}
use Rattle.search_log.specs.declared.line.LogLine.{LogLine}
use Rattle.search_log.specs.declared.line.Segment.{Segment}
use Rattle.search_log.specs.LogStates.{LogState}
use Rattle.search_log.specs.declared.piece.Piece.{Piece}
use Rattle.merge_laws.specs.GoodLogs.{AreByRow}
use Rattle.search_log.specs.GoodLogs.{all_lines, lines_of, piece_of, pieces_from, pieces_of}
use Rattle.merge_laws.specs.Pieces.{emit_pieces, emit_rests}
use Rattle.merge_laws.specs.Stages.{Merged, done_of, start}
use Rattle.merge_laws.proofs.Starting.{length-placed}
use Rattle.cert_merge.specs.Growth.{AreLeft, AreGatheredLines, HasRoomFor}

start-done : (out : List Line) (placed : List (ℕ × ℕ)) (logs rows log : ℕ) → 0 ≡ done_of (start out placed logs rows) log
start-done out placed logs rows log = ⊎_elim
    (λ (l : log < logs). sym (ap length (get_or-replicate logs log [] [] l)))
    (λ (l : logs ≤ log). sym (ap length (get_or_past (replicate logs []) log [] (omega (arith, length-replicate {A = List ℕ} logs [])))))
    (cases_lt log logs)

-- all lines are left at the start
pub left-at-start : (logs : List (List LogLine)) (out : List Line) (placed : List (ℕ × ℕ)) (count rows : ℕ) (s : Merged) → s ≡ start out placed count rows → AreLeft logs s logs
left-at-start logs out placed count rows s is = subst (λ (v : Merged). AreLeft logs v logs) (sym is) (record {
  count = refl;
  each = λ log. ap (λ n. drop n (lines_of logs log)) (start-done out placed count rows log);
})

pieces-inside : (logs : List LogState) (from : ℕ) → All (λ p. p.log < from + length logs) (pieces_from from logs)
pieces-inside [] from = All-nil (λ (p : Piece). p.log < from + 0)
pieces-inside (state ∷ logs) from =
    All-append (λ (p : Piece). p.log < from + length (state ∷ logs)) (map (piece_of from) state.segments) (pieces_from (from + 1) logs)
    (All-map (λ (p : Piece). p.log < from + length (state ∷ logs)) (piece_of from) state.segments (λ k d l. omega arith))
    (All-weaker (λ (p : Piece). p.log < from + 1 + length logs) (λ (p : Piece). p.log < from + length (state ∷ logs)) (λ p l. omega arith) (pieces_from (from + 1) logs) (pieces-inside logs (from + 1)))

moved : (P : Piece → Type 0) (xs ys : List Piece) → IsPermutation xs ys → All P xs → All P ys
moved P xs ys same h = All-from_members P ys (λ y m. All-contains P xs y h (Contains-permutation ys xs y (IsPermutation-sym xs ys same) m))

-- there is room for each segment
pub pieces-within : (logs : List LogState) (pieces : List Piece) (out : List Line) (placed : List (ℕ × ℕ)) (count room : ℕ) (s : Merged) → IsPermutation (pieces_of logs) pieces → All (λ p. p.row < room) pieces →
    count ≡ length logs → s ≡ start out placed count room → All (HasRoomFor s) pieces
pieces-within logs pieces out placed count room s same fits many is k d l =
    let low = moved (λ (p : Piece). p.log < 0 + length logs) (pieces_of logs) pieces same (pieces-inside logs 0) k d l in
    let logs_room = length-replicate {A = List ℕ} count [] in
    let rows_room = length-placed placed (replicate room 0) ∙ length-replicate {A = ℕ} room 0 in
    let row = fits k d l in
    subst (λ (v : Merged). HasRoomFor v (get_or pieces k d)) (sym is) (record { log = omega arith; row = omega arith })

-- one call after another
pub gathered-is : (old : List Line) (placed : List (ℕ × ℕ)) (arcs : List Line) (logs : List LogState) (pieces : List Piece) (count room : ℕ) (s t u : Merged) → AreByRow logs pieces → All (λ p. p.row < room) pieces → All (λ p. p.0 < room) placed → count ≡ length logs →
    s ≡ start (old ++ arcs) placed count room → t ≡ emit_pieces (all_lines logs) pieces s → u ≡ emit_rests (all_lines logs) (range_with_len 0 (length (all_lines logs))) t → AreGatheredLines old placed arcs logs u
gathered-is old placed arcs logs pieces count room s t u by_row fits placed_fit many is pieces_is rests_is = record {
  pieces = pieces;
  by_row = by_row;
  room = room;
  fits = fits;
  placed_fit = placed_fit;
  is = rests_is ∙ ap (λ v. emit_rests (all_lines logs) (range_with_len 0 (length (all_lines logs))) v)
      (pieces_is ∙ ap (λ v. emit_pieces (all_lines logs) pieces v)
      (is ∙ ap (λ n. start (old ++ arcs) placed n room) (many ∙ sym (length-map logs (λ (log : LogState). log.lines)))));
}

-- ---- logs taken apart

pieces-more : (logs : List LogState) (from : ℕ) (log : LogState) → pieces_from from (logs ++ log ∷ []) ≡ pieces_from from logs ++ map (piece_of (from + length logs)) log.segments
pieces-more [] from log =
    let same : from ≡ from + 0 = omega arith in
    append-nil (map (piece_of from) log.segments) ∙ ap (λ n. map (piece_of n) log.segments) same
pieces-more (state ∷ logs) from log =
    let same : from + 1 + length logs ≡ from + length (state ∷ logs) = omega arith in
    ap (λ ps. map (piece_of from) state.segments ++ ps) (pieces-more logs (from + 1) log ∙ ap (λ n. pieces_from (from + 1) logs ++ map (piece_of n) log.segments) same)
    ∙ sym (append_assoc (map (piece_of from) state.segments) (pieces_from (from + 1) logs) (map (piece_of (from + length (state ∷ logs))) log.segments))

pub parted-lines : (logs : List LogState) (log : LogState) (before after : List (List LogLine)) (added : List LogLine) → before ≡ all_lines logs → after ≡ before ++ added ∷ [] → added ≡ log.lines →
    after ≡ all_lines (logs ++ log ∷ [])
parted-lines logs log before after added was is same =
    is ∙ (ap (λ xs. xs ++ added ∷ []) was ∙ (ap (λ x. all_lines logs ++ x ∷ []) same ∙ sym (map-append (λ (l : LogState). l.lines) logs (log ∷ []))))

pub parted-pieces : (logs : List LogState) (log : LogState) (before after : List Piece) (place : ℕ) (segments : List Segment) → before ≡ pieces_of logs → after ≡ before ++ map (piece_of place) segments →
    place ≡ length logs → segments ≡ log.segments → after ≡ pieces_of (logs ++ log ∷ [])
parted-pieces logs log before after place segments was is at same =
    let here : place ≡ 0 + length logs = omega arith in
    is ∙ (ap (λ ps. ps ++ map (piece_of place) segments) was
    ∙ (ap (λ n. pieces_of logs ++ map (piece_of n) segments) here
    ∙ (ap (λ xs. pieces_of logs ++ map (piece_of (0 + length logs)) xs) same ∙ sym (pieces-more logs 0 log))))
