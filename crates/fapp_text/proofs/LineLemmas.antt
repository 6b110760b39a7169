-- The first line of a text.
use Rattle.std.proofs.Common.{◌≡◌, ℕ, suc, ◌+◌, ◌-◌, ◌<◌, ◌≤◌, Bool, true, false, not, cond, List, [], ◌∷◌, length, take, drop, refl, arith}
use Rattle.std.specs.List.{onto_first, position_or_len}
use Rattle.std.proofs.lemmas.List.{take_all, length-drop}
use Rattle.fapp_text.specs.Lines.{is_line_feed, lines}

cut_step : (b : ℕ) (text : List ℕ) (ends : Bool) (p : ℕ) → (ends ≡ false → lines text ≡ take p text ∷ lines (drop (p + 1) text))
    → cond ends ([] ∷ lines text) (onto_first b (lines text)) ≡ take (cond (not ends) (1 + p) 0) (b ∷ text) ∷ lines (drop (cond (not ends) (1 + p) 0 + 1) (b ∷ text))
cut_step b text true p rest = refl
cut_step b text false p rest =
    let e : 1 + p ≡ suc p = omega arith in
    let f : 1 + p + 1 ≡ suc (p + 1) = omega arith in
    rw (f, e, rest refl) refl

within_step : (ends : Bool) (p n : ℕ) → cond (not ends) (1 + p) 0 < suc n → ends ≡ false → p < n
within_step true p n h e = absurd cc
within_step false p n h e = omega arith

-- up to the first line feed
lines_cut : (text : List ℕ) → position_or_len is_line_feed text < length text → lines text ≡ take (position_or_len is_line_feed text) text ∷ lines (drop (position_or_len is_line_feed text + 1) text)
lines_cut [] h = absurd (omega arith)
lines_cut (b ∷ text) h = cut_step b text (is_line_feed b) (position_or_len is_line_feed text) (λ e. lines_cut text (within_step (is_line_feed b) (position_or_len is_line_feed text) (length text) h e))

last_step : (b : ℕ) (text : List ℕ) (ends : Bool) (p : ℕ) → suc (length text) ≤ cond (not ends) (1 + p) 0 → (length text ≤ p → onto_first b (lines text) ≡ (b ∷ text) ∷ [])
    → cond ends ([] ∷ lines text) (onto_first b (lines text)) ≡ (b ∷ text) ∷ []
last_step b text true p h rest = absurd (omega arith)
last_step b text false p h rest = rest (omega arith)

-- with no line feed
lines_last : (b : ℕ) (text : List ℕ) → length (b ∷ text) ≤ position_or_len is_line_feed (b ∷ text) → lines (b ∷ text) ≡ (b ∷ text) ∷ []
lines_last b [] h = last_step b [] (is_line_feed b) 0 h (λ g. refl)
lines_last b (c ∷ text) h = last_step b (c ∷ text) (is_line_feed b) (position_or_len is_line_feed (c ∷ text)) h (λ g. rw (lines_last c text g) refl)

pub line_cut : (text : List ℕ) (end : ℕ) → position_or_len is_line_feed text ≡ end → position_or_len is_line_feed text < length text
    → lines text ≡ take end text ∷ lines (take (length text - (end + 1)) (drop (end + 1) text))
line_cut text end e h =
    let all : take (length text - (end + 1)) (drop (end + 1) text) ≡ drop (end + 1) text = take_all (length text - (end + 1)) (drop (end + 1) text) (omega (arith, length-drop (end + 1) text)) in
    rw (all, ← e) (lines_cut text h)

pub line_last : (text : List ℕ) → 0 < length text → position_or_len is_line_feed text ≡ length text → lines text ≡ text ∷ []
line_last [] h e = absurd (omega arith)
line_last (b ∷ text) h e = lines_last b text (omega (arith, e))
