-- Laws of lines and fields.
use Rattle.std.proofs.Common.{◌≡◌, ℕ, suc, ◌<◌, Bool, true, false, not, cond, ◌&&◌, eqb, ltb, List, [], ◌∷◌, ◌++◌, length, filter, flat_map, refl, ap, ◌∙◌, arith}
use Rattle.std.specs.List.{concat, list_all, onto_first, slice_split}
use Rattle.std.proofs.lemmas.Bool.{and_parts}
use Rattle.fapp_text.specs.Lines.{lines}
use Rattle.fapp_text.specs.Fields.{is_blank}
use Rattle.fapp_text.specs.LineLaws.{closed, LinesJoin, LinesAreCut, FieldsJoin, FieldsAreCut}

-- ---- lines

abbrev joined : List (List ℕ) → List ℕ
joined ls = flat_map (λ line. line ++ 10 ∷ []) ls

join_onto : (b : ℕ) (ls : List (List ℕ)) → 0 < length ls → joined (onto_first b ls) ≡ b ∷ joined ls
join_onto b [] h = absurd (omega arith)
join_onto b (l ∷ ls) h = refl

onto_some : (b : ℕ) (ls : List (List ℕ)) → 0 < length (onto_first b ls)
onto_some b [] = omega arith
onto_some b (l ∷ ls) = omega arith

some_step : (b : ℕ) (ls : List (List ℕ)) (ends : Bool) → 0 < length (cond ends ([] ∷ ls) (onto_first b ls))
some_step b ls true = omega arith
some_step b ls false = onto_some b ls

some_line : (b : ℕ) (text : List ℕ) → 0 < length (lines (b ∷ text))
some_line b text = some_step b (lines text) (eqb b 10)

one_step : (b : ℕ) (ends : Bool) → eqb b 10 ≡ ends → joined (cond ends ([] ∷ []) (onto_first b [])) ≡ cond ends (b ∷ []) (b ∷ 10 ∷ [])
one_step b true e = let at : b ≡ 10 = grind arith in rw at refl
one_step b false e = refl

join_step : (b : ℕ) (ls : List (List ℕ)) (text : List ℕ) (ends : Bool) → eqb b 10 ≡ ends → 0 < length ls → joined ls ≡ text → joined (cond ends ([] ∷ ls) (onto_first b ls)) ≡ b ∷ text
join_step b ls text true e some h = let at : b ≡ 10 = grind arith in rw at (ap (λ t. 10 ∷ t) h)
join_step b ls text false e some h = join_onto b ls some ∙ ap (λ t. b ∷ t) h

pub lines_join : LinesJoin
lines_join [] = refl
lines_join (b ∷ []) = one_step b (eqb b 10) refl
lines_join (b ∷ c ∷ text) = join_step b (lines (c ∷ text)) (closed (c ∷ text)) (eqb b 10) refl (some_line c text) (lines_join (c ∷ text))

abbrev whole : List ℕ → Bool
whole line = list_all (λ b. not (eqb b 10)) line

whole_onto : (b : ℕ) (ls : List (List ℕ)) → eqb b 10 ≡ false → list_all whole ls ≡ true → list_all whole (onto_first b ls) ≡ true
whole_onto b [] e h = rw e refl
whole_onto b (l ∷ ls) e h = rw e h

cut_step : (b : ℕ) (ls : List (List ℕ)) (ends : Bool) → eqb b 10 ≡ ends → list_all whole ls ≡ true → list_all whole (cond ends ([] ∷ ls) (onto_first b ls)) ≡ true
cut_step b ls true e h = h
cut_step b ls false e h = whole_onto b ls e h

pub lines_cut : LinesAreCut
lines_cut [] = refl
lines_cut (b ∷ text) = cut_step b (lines text) (eqb b 10) refl (lines_cut text)

-- ---- fields

abbrev is_some_part : List ℕ → Bool
is_some_part part = ltb 0 (length part)

abbrev plain : ℕ → Bool
plain b = not (is_blank b)

abbrev parts : List ℕ → List (List ℕ)
parts line = slice_split is_blank line

concat_some : (ps : List (List ℕ)) → concat (filter is_some_part ps) ≡ concat ps
concat_some [] = refl
concat_some ([] ∷ ps) = concat_some ps
concat_some ((b ∷ part) ∷ ps) =
    let e : ltb 0 (suc (length part)) ≡ true = grind arith in
    rw e (ap (λ bs. (b ∷ part) ++ bs) (concat_some ps))

concat_onto : (b : ℕ) (ps : List (List ℕ)) → concat (onto_first b ps) ≡ b ∷ concat ps
concat_onto b [] = refl
concat_onto b (p ∷ ps) = refl

parts_step : (b : ℕ) (ps : List (List ℕ)) (line : List ℕ) (blank : Bool) → concat ps ≡ filter plain line → concat (cond blank ([] ∷ ps) (onto_first b ps)) ≡ cond (not blank) (b ∷ filter plain line) (filter plain line)
parts_step b ps line true h = h
parts_step b ps line false h = concat_onto b ps ∙ ap (λ bs. b ∷ bs) h

concat_parts : (line : List ℕ) → concat (parts line) ≡ filter plain line
concat_parts [] = refl
concat_parts (b ∷ line) = parts_step b (parts line) line (is_blank b) (concat_parts line)

pub fields_join : FieldsJoin
fields_join line = concat_some (parts line) ∙ concat_parts line

abbrev clear : List ℕ → Bool
clear part = list_all plain part

clear_onto : (b : ℕ) (ps : List (List ℕ)) → is_blank b ≡ false → list_all clear ps ≡ true → list_all clear (onto_first b ps) ≡ true
clear_onto b [] e h = rw e refl
clear_onto b (p ∷ ps) e h = rw e h

clear_step : (b : ℕ) (ps : List (List ℕ)) (blank : Bool) → is_blank b ≡ blank → list_all clear ps ≡ true → list_all clear (cond blank ([] ∷ ps) (onto_first b ps)) ≡ true
clear_step b ps true e h = h
clear_step b ps false e h = clear_onto b ps e h

clear_parts : (line : List ℕ) → list_all clear (parts line) ≡ true
clear_parts [] = refl
clear_parts (b ∷ line) = clear_step b (parts line) (is_blank b) refl (clear_parts line)

kept_clear : (ps : List (List ℕ)) → list_all clear ps ≡ true → list_all (λ p. is_some_part p && clear p) (filter is_some_part ps) ≡ true
kept_clear [] h = refl
kept_clear ([] ∷ ps) h = kept_clear ps h
kept_clear ((b ∷ part) ∷ ps) h =
    let both = and_parts (clear (b ∷ part)) (list_all clear ps) h in
    let e : ltb 0 (suc (length part)) ≡ true = grind arith in
    let first : clear (b ∷ part) ≡ true = both.0 in
    rw (e, kept_clear ps both.1) (rw (e, first) refl)

pub fields_cut : FieldsAreCut
fields_cut line = kept_clear (parts line) (clear_parts line)
