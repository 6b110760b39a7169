-- The table of the lines that delete others, as it is filled.
use Rattle.std.proofs.Common.{◌≡◌, ℕ, ◌+◌, ◌-◌, ◌<◌, List, length, get_or, drop, ap, sym, ◌∙◌, arith, eqb, zero-add}
use Rattle.std.specs.List.{list_any, position_or_len}
use Rattle.std.specs.Prelude.{◌==◌}
use Rattle.cert_lines.specs.declared.answer.Line.{Line}
use Rattle.cert_lines.specs.acceptance.Deleted.{deletes}
use Rattle.cert_check.specs.Marked.{AreDeleters, deleter_of}

-- by line, the first of the last lines that deletes it
pub record AreNotedFrom (lines : List Line) (table : List ℕ) (done : ℕ) : Type 0 where
  pub whole : length table ≡ length lines
  pub each : (k : ℕ) → k < length lines →
      get_or table k 0 ≡ length lines - done + position_or_len (λ (line : Line). list_any (λ m. m == k + 1) (deletes line.rule)) (drop (length lines - done) lines)

-- all lines are looked at
pub all-noted : (lines : List Line) (table made : List ℕ) (done : ℕ) → done ≡ length lines → made ≡ table → AreNotedFrom lines table done → AreDeleters lines made
unfolding deleter_of
all-noted lines table made done all same noted = record {
  whole = ap (λ (t : List ℕ). length t) same ∙ noted.whole;
  each = by-line;
}
  where
    by-line : (k : ℕ) → k < length lines → get_or made k 0 ≡ position_or_len (λ (line : Line). list_any (λ j. eqb j (k + 1)) (deletes line.rule)) lines
    by-line k small =
        let none : length lines - done ≡ 0 = omega arith in
        ap (λ (t : List ℕ). get_or t k 0) same ∙ noted.each k small
        ∙ ap (λ m. m + position_or_len (λ (line : Line). list_any (λ j. eqb j (k + 1)) (deletes line.rule)) (drop m lines)) none
        ∙ zero-add (position_or_len (λ (line : Line). list_any (λ j. eqb j (k + 1)) (deletes line.rule)) lines)
