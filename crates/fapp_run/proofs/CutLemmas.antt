-- A text, cut at its first line `--`, line by line.
use Rattle.std.proofs.Common.{◌≡◌, ℕ, ◌+◌, ◌-◌, ◌<◌, ◌≤◌, Bool, true, false, not, cond, List, [], ◌∷◌, length, take, Option, Some, None, refl, sym, ap, ◌∙◌, ltb, add-one, arith}
use Rattle.std.specs.List.{after_first, position, position_or_len}
use Rattle.std.specs.Option.{option_map}
use Rattle.fapp_text.specs.Lines.{is_line_feed, lines}
use Rattle.fapp_run.specs.Halves.{is_divider, after_lines, cut_at, halves}

-- so many lines of the text are passed, none of them a divider, and this is left
pub record IsAt (bytes rest : List ℕ) (divider : ℕ) : Type 0 where
  pub n : ℕ
  pub number : divider ≡ n + 1
  pub left : rest ≡ after_lines n bytes
  pub passed : position_or_len is_divider (lines bytes) ≡ n + position_or_len is_divider (lines rest)
  pub counted : length (lines bytes) ≡ n + length (lines rest)
  pub low : n + length rest ≤ length bytes

pub starts : (bytes : List ℕ) → IsAt bytes bytes 1
starts bytes = record { n = 0; number = refl; left = refl; passed = omega arith; counted = omega arith; low = omega arith }

not_first : (p : ℕ) (test : Bool) → test ≡ false → cond (not test) (1 + p) 0 ≡ 1 + p
not_first p false e = refl
not_first p true e = absurd cc

first : (p : ℕ) (test : Bool) → test ≡ true → cond (not test) (1 + p) 0 ≡ 0
first p true e = refl
first p false e = absurd cc

after_more : (n : ℕ) (text : List ℕ) → after_lines (n + 1) text ≡ after_first is_line_feed (after_lines n text)
after_more n text = rw (add-one n) refl

-- a line more
pub one_more : (bytes rest line after : List ℕ) (divider : ℕ) → IsAt bytes rest divider → lines rest ≡ line ∷ lines after → after ≡ after_first is_line_feed rest
    → length after < length rest → is_divider line ≡ false → IsAt bytes after (divider + 1)
one_more bytes rest line after divider at cut next shorter test =
    let p : position_or_len is_divider (lines rest) ≡ 1 + position_or_len is_divider (lines after) =
    ap (position_or_len is_divider) cut ∙ not_first (position_or_len is_divider (lines after)) (is_divider line) test in
    let l : length (lines rest) ≡ 1 + length (lines after) = ap length cut ∙ omega arith in
    record {
      n = at.n + 1;
      number = omega (arith, at.number);
      left = next ∙ ap (after_first is_line_feed) at.left ∙ sym (after_more at.n bytes);
      passed = omega (arith, at.passed, p);
      counted = omega (arith, at.counted, l);
      low = omega (arith, at.low);
    }

some_at : (p l n : ℕ) → p ≡ n → n < l → ◌≡◌ {A = Option ℕ} (cond (ltb p l) (Some p) None) (Some n)
some_at p l n e h = grind arith

none_at : (p l : ℕ) → l ≤ p → ◌≡◌ {A = Option ℕ} (cond (ltb p l) (Some p) None) None
none_at p l h = grind arith

-- at a divider the text is cut
pub here : (bytes rest line after : List ℕ) (divider : ℕ) → IsAt bytes rest divider → lines rest ≡ line ∷ lines after → after ≡ after_first is_line_feed rest
    → is_divider line ≡ true
    → halves bytes ≡ Some (record { instance = take (length bytes - length rest) bytes; divider = divider; answer = after })
here bytes rest line after divider at cut next test =
    let p : position_or_len is_divider (lines rest) ≡ 0 =
    ap (position_or_len is_divider) cut ∙ first (position_or_len is_divider (lines after)) (is_divider line) test in
    let l : length (lines rest) ≡ 1 + length (lines after) = ap length cut ∙ omega arith in
    let found : position is_divider (lines bytes) ≡ Some at.n =
    some_at (position_or_len is_divider (lines bytes)) (length (lines bytes)) at.n (omega (arith, at.passed, p)) (omega (arith, at.counted, l)) in
    let left : after ≡ after_lines (at.n + 1) bytes = next ∙ ap (after_first is_line_feed) at.left ∙ sym (after_more at.n bytes) in
    ap (option_map (cut_at bytes)) found ∙ rw (at.number, left, at.left) refl

-- a text that is passed to its end has none
pub nowhere : (bytes rest : List ℕ) (divider : ℕ) → IsAt bytes rest divider → rest ≡ [] → halves bytes ≡ None
nowhere bytes rest divider at e =
    let p : position_or_len is_divider (lines rest) ≡ 0 = ap (λ xs. position_or_len is_divider (lines xs)) e in
    let l : length (lines rest) ≡ 0 = ap (λ xs. length (lines xs)) e in
    ap (option_map (cut_at bytes)) (none_at (position_or_len is_divider (lines bytes)) (length (lines bytes)) (omega (arith, at.passed, at.counted, p, l)))
