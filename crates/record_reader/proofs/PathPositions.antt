-- The positions of paths by their numbers.
use Rattle.std.proofs.Common.{◌≡◌, ℕ, ◌+◌, ◌≤◌, Bool, true, false, cond, eqb, ltb, List, [], ◌∷◌, ◌++◌, length, Option, Some, None, refl, sym, ap, ◌∙◌, arith}
use Rattle.std.specs.Prelude.{is_some}
use Rattle.std.specs.Ordering.{nat_cmp}
use Rattle.std.specs.BTreeMap.{BTreeMap, get, is_at, Updates}
use Rattle.std.specs.List.{position_or_len}
use Rattle.std.proofs.lemmas.Bool.{eqb-true}
use Rattle.std.proofs.lemmas.Bool.Decides.{nat_tests}
use Rattle.std.proofs.lemmas.List.{length_push}
use Rattle.std.proofs.lemmas.List.Sums.{prefix_len-le-length}
use Rattle.std.proofs.lemmas.List.Folds.{position_or_len_push}
use Rattle.record_reader.specs.declared.entry.PathEntry.{PathEntry}
use Rattle.record_reader.specs.Instances.{place_of}

pub at_eq : (n q : ℕ) → is_at (nat_cmp n) q ≡ eqb n q
at_eq n q = grind (arith, nat_tests)

abbrev found : ℕ → ℕ → Option ℕ
found place count = cond (ltb place count) (Some place) None

same_step : (place count : ℕ) → place ≤ count → found (cond (eqb place count) (count + cond false 0 1) place) (count + 1) ≡ found place count
same_step place count h = grind arith

new_step : (place count : ℕ) → place ≤ count → is_some (found place count) ≡ false → found (cond (eqb place count) (count + cond true 0 1) place) (count + 1) ≡ Some count
new_step place count h none = grind arith

abbrev has : ℕ → PathEntry → Bool
has n entry = eqb entry.number n

pushed : (paths : List PathEntry) (entry : PathEntry) (n : ℕ) (same : Bool) → eqb entry.number n ≡ same
    → place_of (paths ++ entry ∷ []) n ≡ found (cond (eqb (position_or_len (has n) paths) (length paths)) (length paths + cond same 0 1) (position_or_len (has n) paths)) (length paths + 1)
pushed paths entry n same e =
    let place = position_or_len_push (has n) paths entry in
    rw (place, length_push paths entry, e) refl

place_same : (paths : List PathEntry) (entry : PathEntry) (n : ℕ) → eqb entry.number n ≡ false → place_of (paths ++ entry ∷ []) n ≡ place_of paths n
place_same paths entry n e = pushed paths entry n false e ∙ same_step (position_or_len (has n) paths) (length paths) (prefix_len-le-length _ paths)

place_new : (paths : List PathEntry) (entry : PathEntry) (n : ℕ) → eqb entry.number n ≡ true → is_some (place_of paths n) ≡ false → place_of (paths ++ entry ∷ []) n ≡ Some (length paths)
place_new paths entry n e none = pushed paths entry n true e ∙ new_step (position_or_len (has n) paths) (length paths) (prefix_len-le-length _ paths) none

place_step : (paths : List PathEntry) (entry : PathEntry) (n : ℕ) (same : Bool) (old new : Option ℕ) → eqb entry.number n ≡ same → is_some (place_of paths entry.number) ≡ false
    → old ≡ place_of paths n → new ≡ cond same (Some (length paths)) old → new ≡ place_of (paths ++ entry ∷ []) n
place_step paths entry n true old new e none so_far h =
    let at : entry.number ≡ n = eqb-true entry.number n e in
    h ∙ sym (place_new paths entry n e (rw at at none))
place_step paths entry n false old new e none so_far h = h ∙ so_far ∙ sym (place_same paths entry n e)

-- a map with the positions, after one more path of a new number
pub places_push : (paths : List PathEntry) (entry : PathEntry) (old new : BTreeMap ℕ ℕ) → ((n : ℕ) → get nat_cmp old n ≡ place_of paths n)
    → get nat_cmp old entry.number ≡ None → Updates nat_cmp old new entry.number (Some (length paths)) → (n : ℕ) → get nat_cmp new n ≡ place_of (paths ++ entry ∷ []) n
places_push paths entry old new so_far none u n =
    let absent : is_some (place_of paths entry.number) ≡ false = sym (ap is_some (so_far entry.number)) ∙ ap is_some none in
    place_step paths entry n (eqb entry.number n) (get nat_cmp old n) (get nat_cmp new n) refl absent (so_far n)
    (u.0 n ∙ ap (λ b. cond b (Some (length paths)) (get nat_cmp old n)) (at_eq entry.number n))
