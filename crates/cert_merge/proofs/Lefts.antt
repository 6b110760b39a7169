-- What is left of logs, once lines of one of them were written.
use Rattle.std.proofs.Common.{◌≡◌, ℕ, suc, ◌+◌, ◌-◌, ◌<◌, ◌≤◌, List, [], length, set, get_or, take, drop, refl, sym, ap, ◌∙◌, subst, ⊎_elim, arith}
use Rattle.std.proofs.lemmas.Bool.{cases_eq, cases_lt}
use Rattle.std.specs.List.{range_with_len}
use Rattle.std.proofs.lemmas.List.{at_drop_all, at_drop_more, take_all, length-set, length-take, length-drop, get_or-set_same, get_or-set_other, drop-drop, drop_all}
use Rattle.search_log.specs.declared.line.LogLine.{LogLine}
use Rattle.search_log.specs.declared.piece.Piece.{Piece}
use Rattle.merge_laws.specs.Pieces.{emit_piece, emit_pieces, emit_rests}
use Rattle.merge_laws.specs.Stages.{Merged, done_of, emit_all, land}
use Rattle.search_log.specs.GoodLogs.{lines_of}
use Rattle.cert_merge.specs.Growth.{AreLeft}
use Rattle.cert_merge.proofs.Numbers.{done-more, done-other}

-- what is left behind some of the lines that are left
left-behind : (xs : List LogLine) (done count : ℕ) → drop count (drop done xs) ≡ drop (done + length (take count (drop done xs))) xs
left-behind xs done count = ⊎_elim
    (λ (few : length (drop done xs) < count).
    let all = length-take count (drop done xs) in
    let rest = length-drop done xs in
    drop_all count (drop done xs) (omega arith) ∙ sym (drop_all (done + length (take count (drop done xs))) xs (omega arith)))
    (λ (some : count ≤ length (drop done xs)).
    let whole = length-take count (drop done xs) in
    let same : count ≡ length (take count (drop done xs)) = omega arith in
    drop-drop count done xs ∙ ap (λ n. drop (done + n) xs) same)
    (cases_lt (length (drop done xs)) count)

module _ (logs : List (List LogLine)) (s : Merged) (rests : List (List LogLine)) (log count : ℕ) (l : log < length s.own) (wide : length rests ≡ length s.own) (left : AreLeft logs s rests) where
  abbrev rest : List LogLine
  rest = lines_of rests log

  abbrev next : Merged
  next = emit_all log (take count rest) s

  here : lines_of (set rests log (drop count rest)) log ≡ drop (done_of next log) (lines_of logs log)
  here =
      get_or-set_same rests log (drop count rest) [] (omega arith)
      ∙ (ap (drop count) (left.each log)
      ∙ (left-behind (lines_of logs log) (done_of s log) count
      ∙ (ap (λ xs. drop (done_of s log + length (take count xs)) (lines_of logs log)) (sym (left.each log))
      ∙ ap (λ n. drop n (lines_of logs log)) (sym (done-more log (take count rest) s l)))))

  pub left-more : AreLeft logs next (set rests log (drop count rest))
  left-more = record {
    count = length-set rests log (drop count rest) ∙ left.count;
    each = λ other. ⊎_elim
        (λ (same : other ≡ log). subst (λ k. lines_of (set rests log (drop count rest)) k ≡ drop (done_of next k) (lines_of logs k)) (sym same) here)
        (λ (apart : other ≡ log → ⊥).
        get_or-set_other rests log other (drop count rest) [] apart
        ∙ (left.each other ∙ ap (λ n. drop n (lines_of logs other)) (sym (done-other log other (take count rest) s apart))))
        (cases_eq other log);
  }

-- the same where the numbers alone are known
pub piece-left : (logs : List (List LogLine)) (s t u : Merged) (rests : List (List LogLine)) (more : List LogLine) (log count : ℕ) → log < length s.own → length rests ≡ length s.own → AreLeft logs s rests →
    t ≡ emit_all log (take count (lines_of rests log)) s → u.own ≡ t.own → more ≡ drop count (lines_of rests log) → AreLeft logs u (set rests log more)
piece-left logs s t u rests more log count l wide left is same rest_is =
    let after = left-more logs s rests log count l wide left in
    let own : u.own ≡ (emit_all log (take count (lines_of rests log)) s).own = same ∙ ap (λ (v : Merged). v.own) is in
    record {
      count = ap (λ xs. length (set rests log xs)) rest_is ∙ after.count;
      each = λ other. ap (λ xs. lines_of (set rests log xs) other) rest_is ∙ (after.each other ∙ ap (λ numbers. drop (length (get_or numbers other [])) (lines_of logs other)) (sym own));
    }

-- a segment, from what is left of its log
pub piece-writes : (logs : List (List LogLine)) (s t u : Merged) (rests : List (List LogLine)) (p : Piece) (count : ℕ) → AreLeft logs s rests → count ≡ (p.last + 1) - done_of s p.log →
    t ≡ emit_all p.log (take count (lines_of rests p.log)) s → u ≡ land p.row p.log p.last t → u ≡ emit_piece logs p s
piece-writes logs s t u rests p count left many is landed =
    landed ∙ ap (λ v. land p.row p.log p.last v) (is ∙ (ap (λ n. emit_all p.log (take n (lines_of rests p.log)) s) many
    ∙ ap (λ xs. emit_all p.log (take ((p.last + 1) - done_of s p.log) xs) s) (left.each p.log)))

-- some segments are written, and what is left of the logs is known
pub record AreWritten (logs : List (List LogLine)) (pieces : List Piece) (n : ℕ) (start : Merged) (s : Merged) (rests : List (List LogLine)) : Type 0 where
  pub ends : emit_pieces logs pieces start ≡ emit_pieces logs (drop n pieces) s
  pub left : AreLeft logs s rests

pub written-more : (logs : List (List LogLine)) (pieces : List Piece) (n : ℕ) (start s t : Merged) (rests more : List (List LogLine)) (d : Piece) → n < length pieces → AreWritten logs pieces n start s rests →
    t ≡ emit_piece logs (get_or pieces n d) s → AreLeft logs t more → AreWritten logs pieces (n + 1) start t more
written-more logs pieces n start s t rests more d l before is left = record {
  ends = before.ends ∙ (at_drop_more (λ ps. emit_pieces logs ps s) pieces n d l ∙ ap (λ u. emit_pieces logs (drop (n + 1) pieces) u) (sym is));
  left = left;
}

pub written-all : (logs : List (List LogLine)) (pieces : List Piece) (n : ℕ) (start s : Merged) (rests : List (List LogLine)) → length pieces ≤ n → AreWritten logs pieces n start s rests → s ≡ emit_pieces logs pieces start
written-all logs pieces n start s rests l before = sym (before.ends ∙ at_drop_all (λ ps. emit_pieces logs ps s) pieces n l)

-- so are the rests of the first logs
pub record AreRestsWritten (logs : List (List LogLine)) (n : ℕ) (start : Merged) (s : Merged) (rests : List (List LogLine)) : Type 0 where
  pub ends : emit_rests logs (range_with_len 0 (length logs)) start ≡ emit_rests logs (range_with_len n (length logs - n)) s
  pub left : AreLeft logs s rests

pub rests-more : (logs : List (List LogLine)) (n count : ℕ) (start s t : Merged) (rests : List (List LogLine)) (more : List LogLine) → n < length logs → n < length s.own → length rests ≡ length s.own →
    AreRestsWritten logs n start s rests → count ≡ length (lines_of rests n) → t ≡ emit_all n (take count (lines_of rests n)) s → more ≡ drop count (lines_of rests n) → AreRestsWritten logs (n + 1) start t (set rests n more)
rests-more logs n count start s t rests more l inside wide before many is rest_is =
    let one : length logs - n ≡ suc (length logs - (n + 1)) = omega arith in
    let whole : take count (lines_of rests n) ≡ drop (done_of s n) (lines_of logs n) = take_all count (lines_of rests n) (omega arith) ∙ before.left.each n in
    record {
      ends = before.ends ∙ (ap (λ k. emit_rests logs (range_with_len n k) s) one
          ∙ ap (λ u. emit_rests logs (range_with_len (n + 1) (length logs - (n + 1))) u) (sym (is ∙ ap (λ xs. emit_all n xs s) whole)));
      left = piece-left logs s t t rests more n count inside wide before.left is refl rest_is;
    }

pub rests-all : (logs : List (List LogLine)) (n : ℕ) (start s : Merged) (rests : List (List LogLine)) → length logs ≤ n → AreRestsWritten logs n start s rests → s ≡ emit_rests logs (range_with_len 0 (length logs)) start
rests-all logs n start s rests l before =
    let none : length logs - n ≡ 0 = omega arith in
    sym (before.ends ∙ ap (λ k. emit_rests logs (range_with_len n k) s) none)
