-- The first field of a line.
use Rattle.std.proofs.Common.{◌≡◌, ℕ, suc, ◌+◌, ◌<◌, Bool, true, false, not, cond, ltb, List, [], ◌∷◌, length, take, drop, filter, refl, sym, ap, ◌∙◌, arith}
use Rattle.std.specs.List.{position_or_len, slice_split}
use Rattle.fapp_text.specs.Fields.{is_blank, fields}

abbrev is_some_part : List ℕ → Bool
is_some_part part = ltb 0 (length part)

abbrev is_other : ℕ → Bool
is_other b = not (is_blank b)

skip_step : (b : ℕ) (line : List ℕ) (blank : Bool) (p : ℕ) → is_blank b ≡ blank → fields line ≡ fields (drop p line)
    → fields (b ∷ line) ≡ fields (drop (cond (not (not blank)) (1 + p) 0) (b ∷ line))
skip_step b line true p e rest =
    let f : 1 + p ≡ suc p = omega arith in
    rw (f, e) rest
skip_step b line false p e rest = refl

-- blanks at the front are in no field
pub fields_skip : (line : List ℕ) → fields line ≡ fields (drop (position_or_len is_other line) line)
fields_skip [] = refl
fields_skip (b ∷ line) = skip_step b line (is_blank b) (position_or_len is_other line) refl (fields_skip line)

-- the first part, and the parts after it
record IsCut (line : List ℕ) (end : ℕ) : Type 0 where
  pub rest : List (List ℕ)
  pub cut : slice_split is_blank line ≡ take end line ∷ rest
  pub others : filter is_some_part rest ≡ fields (drop end line)

run_step : (b : ℕ) (line : List ℕ) (blank : Bool) (p : ℕ) → is_blank b ≡ blank → IsCut line p → IsCut (b ∷ line) (cond (not blank) (1 + p) 0)
run_step b line true p e c = record { rest = slice_split is_blank line; cut = rw e refl; others = rw e refl }
run_step b line false p e c =
    let f : 1 + p ≡ suc p = omega arith in
    record { rest = c.rest; cut = rw (f, e, c.cut) refl; others = rw f c.others }

run_cut : (line : List ℕ) → IsCut line (position_or_len is_blank line)
run_cut [] = record { rest = []; cut = refl; others = refl }
run_cut (b ∷ line) = run_step b line (is_blank b) (position_or_len is_blank line) refl (run_cut line)

some_part : (part : List ℕ) (rest : List (List ℕ)) → 0 < length part → filter is_some_part (part ∷ rest) ≡ part ∷ filter is_some_part rest
some_part [] rest h = absurd (omega arith)
some_part (b ∷ part) rest h = let e : ltb 0 (suc (length part)) ≡ true = grind arith in rw e refl

-- a run at the front is the first field
pub fields_run : (line : List ℕ) → 0 < length (take (position_or_len is_blank line) line) → fields line ≡ take (position_or_len is_blank line) line ∷ fields (drop (position_or_len is_blank line) line)
fields_run line h =
    let c = run_cut line in
    ap (filter is_some_part) c.cut ∙ some_part (take (position_or_len is_blank line) line) c.rest h ∙ ap (λ parts. take (position_or_len is_blank line) line ∷ parts) c.others

abbrev run_of : List ℕ → List ℕ
run_of line = take (position_or_len is_blank line) line

none_step : (b : ℕ) (line : List ℕ) (blank : Bool) (p : ℕ) → is_blank b ≡ blank → (length (run_of (drop p line)) ≡ 0 → drop p line ≡ [])
    → length (run_of (drop (cond (not (not blank)) (1 + p) 0) (b ∷ line))) ≡ 0 → drop (cond (not (not blank)) (1 + p) 0) (b ∷ line) ≡ []
none_step b line true p e rest h =
    let f : 1 + p ≡ suc p = omega arith in
    rw f (rest (rw f at h))
none_step b line false p e rest h =
    let q : ℕ = position_or_len is_blank line in
    let f : 1 + q ≡ suc q = omega arith in
    let g : length (take (suc q) (b ∷ line)) ≡ 0 = rw (e, f) at h in
    absurd (omega (arith, g))

-- no run after the blanks: nothing is left
nothing_left : (line : List ℕ) → length (run_of (drop (position_or_len is_other line) line)) ≡ 0 → drop (position_or_len is_other line) line ≡ []
nothing_left [] h = refl
nothing_left (b ∷ line) h = none_step b line (is_blank b) (position_or_len is_other line) refl (nothing_left line) h

pub next_field : (line skipped field rest : List ℕ) → skipped ≡ drop (position_or_len is_other line) line → field ≡ run_of skipped → rest ≡ drop (position_or_len is_blank skipped) skipped
    → 0 < length field → fields line ≡ field ∷ fields rest
next_field line skipped field rest e f g h =
    let run : 0 < length (run_of skipped) = rw f at h in
    rw (g, f) (fields_skip line ∙ ap fields (sym e) ∙ fields_run skipped run)

pub last_field : (line skipped field rest : List ℕ) → skipped ≡ drop (position_or_len is_other line) line → field ≡ run_of skipped → rest ≡ drop (position_or_len is_blank skipped) skipped
    → length field ≡ 0 → (fields line ≡ []) × (fields rest ≡ [])
last_field line skipped field rest e f g h =
    let all : drop (position_or_len is_other line) line ≡ [] = nothing_left line (rw (f, e) at h) in
    let none : skipped ≡ [] = e ∙ all in
    (fields_skip line ∙ ap fields all, rw (g, none) refl)
