-- A certificate grows by one line for each Branch line of the logs at most, each of a tag above (0, 0, 0).
use Rattle.std.proofs.Common.{◌≡◌, ℕ, zero, suc, ◌+◌, ◌-◌, ◌<◌, ◌≤◌, Bool, true, false, List, [], ◌∷◌, ◌++◌, length, count_by, take, drop, get_or, replicate, refl, ap, subst, ◌∙◌, arith, Option, None, Some, Contains, eqb, cond}
use Rattle.std.specs.List.{range_with_len, slice_get}
use Rattle.std.proofs.lemmas.Bool.{eqb-false}
use Rattle.std.proofs.lemmas.List.{length_push, length-replicate, length-set}
use Rattle.std.proofs.lemmas.List.Sums.{count_by_more_no, count_by_more_yes, sum_by-cons, sum_by-take-le}
use Rattle.std.proofs.lemmas.Option.{get_or_from_slice_get, slice_get_within}
use Rattle.fapp_model.proofs.Members.{at_front, behind, from-range}
use Rattle.cert_lines.specs.declared.answer.Line.{Line}
use Rattle.search_log.specs.declared.line.LogLine.{LogLine}
use Rattle.search_log.proofs.ByPlace.{get-take}
use Rattle.search_log.specs.LogStates.{LogState}
use Rattle.search_log.specs.declared.piece.Piece.{Piece}
use Rattle.merge_laws.specs.Certificates.{gathered}
use Rattle.search_log.specs.GoodLogs.{all_lines, lines_of}
use Rattle.merge_laws.specs.MergedLines.{branch_total, is_branch_path}
use Rattle.merge_laws.specs.Pieces.{emit_piece, emit_pieces, emit_rest, emit_rests, left_to}
use Rattle.merge_laws.specs.Stages.{Merged, done_of, emit, emit_all, emit_branch, emit_by, left_out, noted, merged_number, start}
use Rattle.merge_laws.specs.Written.{written}
use Rattle.merge_laws.proofs.StageSteps.{emit-after}
use Rattle.merge_laws.proofs.Stretches.{from-dropped}

abbrev pub branches : List LogLine → ℕ
branches lines = count_by (λ line. is_branch_path line.path) lines

-- the Branch lines among those that are done
abbrev pub branches_done : List (List ℕ) → List (List LogLine) → ℕ
branches_done [] logs = 0
branches_done (numbers ∷ own) [] = 0
branches_done (numbers ∷ own) (lines ∷ logs) = branches (take (length numbers) lines) + branches_done own logs

next-counted : (lines : List LogLine) (k : ℕ) (line : LogLine) → slice_get lines k ≡ Some line → (b : Bool) → is_branch_path line.path ≡ b → branches (take (k + 1) lines) ≡ branches (take k lines) + cond b 1 0
next-counted lines k line e b is = by_path b (ap (λ (l : LogLine). is_branch_path l.path) (get_or_from_slice_get lines k line line e) ∙ is)
  where
    inside : k < length lines
    inside = slice_get_within lines k line e

    by_path : (b : Bool) → is_branch_path (get_or lines k line).path ≡ b → branches (take (k + 1) lines) ≡ branches (take k lines) + cond b 1 0
    by_path true is = count_by_more_yes (λ (l : LogLine). is_branch_path l.path) lines k line inside is
    by_path false is = let same = count_by_more_no (λ (l : LogLine). is_branch_path l.path) lines k line inside is in omega arith

noted-branches : (own : List (List ℕ)) (logs : List (List LogLine)) (log n : ℕ) (line : LogLine) (b : Bool) → log < length own → slice_get (lines_of logs log) (length (get_or own log [])) ≡ Some line → is_branch_path line.path ≡ b →
    branches_done (noted own log n) logs ≡ branches_done own logs + cond b 1 0
noted-branches [] logs log n line b inside e is = absurd (omega arith)
noted-branches (numbers ∷ own) [] log n line b inside e is = absurd (cc)
noted-branches (numbers ∷ own) (lines ∷ logs) zero n line b inside e is =
    let next = next-counted lines (length numbers) line e b is in
    let more = ap (λ (m : ℕ). branches (take m lines)) (length_push numbers n) in omega arith
noted-branches (numbers ∷ own) (lines ∷ logs) (suc log) n line b inside e is =
    let rest = noted-branches own logs log n line b (omega arith) e is in omega arith

-- at most the Branch lines that are done were written, and what stays with each further line above (0, 0, 0) holds
pub record IsBounded (Q : List Line → Type 0) (logs : List (List LogLine)) (begun : ℕ) (s : Merged) : Type 0 where
  pub logs_are : length s.own ≡ length logs
  pub few : length s.out ≤ begun + branches_done s.own logs
  pub kept : Q s.out

module _ (Q : List Line → Type 0) (grows : (out : List Line) (line : Line) → 0 < line.tag.code → Q out → Q (out ++ line ∷ [])) (logs : List (List LogLine)) (begun : ℕ) where
  module _ (s : Merged) (h : IsBounded Q logs begun s) (log : ℕ) (line : LogLine) (inside : log < length s.own) (at : slice_get (lines_of logs log) (done_of s log) ≡ Some line) where
    leaves : IsBounded Q logs begun (left_out log s)
    leaves = record {
      logs_are = length-set s.own log (get_or s.own log [] ++ 0 ∷ []) ∙ h.logs_are;
      few = (let e = noted-branches s.own logs log 0 line (is_branch_path line.path) inside at refl in let f = h.few in omega arith);
      kept = h.kept;
    }

    writes : (path : ℕ) → line.path ≡ Some path → 0 < line.tag.code → IsBounded Q logs begun (emit_branch log line path s)
    writes path is some = record {
      logs_are = length-set s.own log (get_or s.own log [] ++ (length s.out + 1) ∷ []) ∙ h.logs_are;
      few =
          (let e = noted-branches s.own logs log (length s.out + 1) line true inside at (ap is_branch_path is) in
          let f = h.few in
          let one = length_push s.out (written (merged_number s log) path line) in omega arith);
      kept = grows s.out (written (merged_number s log) path line) some h.kept;
    }

    by_tag : (path : ℕ) → line.path ≡ Some path → (b : Bool) → eqb line.tag.code 0 ≡ b → IsBounded Q logs begun (let m : Merged = cond b (left_out log s) (emit_branch log line path s) in m)
    by_tag path is true e = leaves
    by_tag path is false e = writes path is (let apart = eqb-false line.tag.code 0 e in omega arith)

    by_path : (o : Option ℕ) → line.path ≡ o → IsBounded Q logs begun (emit_by log line s o)
    by_path None is = leaves
    by_path (Some path) is = by_tag path is (eqb line.tag.code 0) refl

    line-bounded : IsBounded Q logs begun (emit log line s)
    line-bounded = by_path line.path refl

  run-bounded : (these : List LogLine) (s : Merged) (log : ℕ) → log < length logs → IsBounded Q logs begun s →
      ((k : ℕ) (line : LogLine) → slice_get these k ≡ Some line → slice_get (lines_of logs log) (done_of s log + k) ≡ Some line) → IsBounded Q logs begun (emit_all log these s)
  run-bounded [] s log inside h from = h
  run-bounded (line ∷ more) s log inside h from = run-bounded more (emit log line s) log inside
      (line-bounded s h log line here (subst (λ m. slice_get (lines_of logs log) m ≡ Some line) first (from 0 line refl)))
      (λ k other g. subst (λ m. slice_get (lines_of logs log) m ≡ Some other) (shift k) (from (suc k) other g))
    where
      here : log < length s.own
      here = let e = h.logs_are in omega arith

      shift : (k : ℕ) → done_of s log + suc k ≡ done_of (emit log line s) log + k
      shift k = let e = (emit-after s log line here).here in omega arith

      first : done_of s log + 0 ≡ done_of s log
      first = omega arith

  piece-bounded : (s : Merged) (p : Piece) → p.log < length logs → IsBounded Q logs begun s → IsBounded Q logs begun (emit_piece logs p s)
  piece-bounded s p inside h =
      let r = run-bounded (left_to logs s p.log (p.last + 1)) s p.log inside h
      (λ k line g. from-dropped (lines_of logs p.log) (done_of s p.log) k line (get-take (drop (done_of s p.log) (lines_of logs p.log)) (p.last + 1 - done_of s p.log) k line g).1) in
      record { logs_are = r.logs_are; few = r.few; kept = r.kept }

  pieces-bounded : (pieces : List Piece) (s : Merged) → ((p : Piece) → Contains pieces p → p.log < length logs) → IsBounded Q logs begun s → IsBounded Q logs begun (emit_pieces logs pieces s)
  pieces-bounded [] s inside h = h
  pieces-bounded (p ∷ ps) s inside h = pieces-bounded ps (emit_piece logs p s) (λ q m. inside q (behind p ps q m)) (piece-bounded s p (inside p (at_front p ps)) h)

  rests-bounded : (these : List ℕ) (s : Merged) → ((log : ℕ) → Contains these log → log < length logs) → IsBounded Q logs begun s → IsBounded Q logs begun (emit_rests logs these s)
  rests-bounded [] s inside h = h
  rests-bounded (log ∷ more) s inside h = rests-bounded more (emit_rest logs log s) (λ l m. inside l (behind log more l m))
      (run-bounded (drop (done_of s log) (lines_of logs log)) s log (inside log (at_front log more)) h (λ k line g. from-dropped (lines_of logs log) (done_of s log) k line g))

none-begun : (n : ℕ) (logs : List (List LogLine)) → branches_done (replicate n []) logs ≡ 0
none-begun zero logs = refl
none-begun (suc n) [] = refl
none-begun (suc n) (lines ∷ logs) = let rest = none-begun n logs in omega arith

start-bounded : (Q : List Line → Type 0) (out : List Line) (placed : List (ℕ × ℕ)) (logs : List (List LogLine)) (room : ℕ) → Q out → IsBounded Q logs (length out) (start out placed (length logs) room)
start-bounded Q out placed logs room kept = record {
  logs_are = length-replicate (length logs) [];
  few = (let e = none-begun (length logs) logs in omega arith);
  kept = kept;
}

pub gathered-bounded : (Q : List Line → Type 0) → ((out : List Line) (line : Line) → 0 < line.tag.code → Q out → Q (out ++ line ∷ [])) → (out : List Line) (placed : List (ℕ × ℕ)) (logs : List (List LogLine)) (pieces : List Piece) (room : ℕ) → Q out → ((p : Piece) → Contains pieces p → p.log < length logs) → IsBounded Q logs (length out) (gathered out placed logs pieces room)
gathered-bounded Q grows out placed logs pieces room kept inside =
    rests-bounded Q grows logs (length out) (range_with_len 0 (length logs)) (emit_pieces logs pieces (start out placed (length logs) room)) (λ log m. from-range (length logs) log m)
    (pieces-bounded Q grows logs (length out) pieces (start out placed (length logs) room) inside (start-bounded Q out placed logs room kept))

-- ---- the Branch lines of all logs

fewer-taken : (lines : List LogLine) (n : ℕ) → branches (take n lines) ≤ branches lines
fewer-taken lines n = sum_by-take-le (λ (l : LogLine). cond (is_branch_path l.path) 1 0) lines n

pub all-branches : (own : List (List ℕ)) (logs : List LogState) → branches_done own (all_lines logs) ≤ branch_total logs
all-branches [] logs = omega arith
all-branches (numbers ∷ own) [] = omega arith
all-branches (numbers ∷ own) (state ∷ logs) =
    let rest = all-branches own logs in
    let here = fewer-taken state.lines (length numbers) in
    omega (arith, sum_by-cons (λ (log : LogState). branches log.lines) state logs)
