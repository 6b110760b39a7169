-- How many records name each path, record by record.
use Rattle.std.proofs.Common.{◌≡◌, ◌≢◌, ◌⊎◌, ℕ, ◌+◌, ◌<◌, ◌≤◌, cond, eqb, ◌||◌, List, length, take, set, get_or, count_by, sym, ap, ◌∙◌, subst, inl, inr, arith}
use Rattle.std.proofs.lemmas.Bool.{cases_eq, eq-eqb, ne_eqb}
use Rattle.std.proofs.lemmas.List.{get_or-set_same, get_or-set_other, get_or_read, length-set, length-take}
use Rattle.std.proofs.lemmas.List.Sums.{sum_by_more, count_by-le-length}
use Rattle.fapp_model.specs.declared.record.Record.{Record}
use Rattle.fapp_model.specs.Records.{first_path, second_path}
use Rattle.fapp_model.specs.search.WorkOrder.{names_path}

-- one more at two different places
pub two_more : (xs : List ℕ) (i j x y p : ℕ) → i ≢ j → i < length xs → j < length xs → x ≡ get_or xs i x → y ≡ get_or (set xs i (x + 1)) j y → p < length xs →
    get_or (set (set xs i (x + 1)) j (y + 1)) p 0 ≡ get_or xs p 0 + cond (eqb i p || eqb j p) 1 0
two_more xs i j x y p apart in_i in_j is_x is_y in_p = by_cases (cases_eq i p) (cases_eq j p)
  where
    x_is : x ≡ get_or xs i 0
    x_is = get_or_read xs i x in_i is_x 0

    y_is : y ≡ get_or xs j 0
    y_is = get_or_read (set xs i (x + 1)) j y (omega (arith, length-set xs i (x + 1))) is_y 0 ∙ get_or-set_other xs i j (x + 1) 0 (λ e. apart (sym e))

    by_cases : (i ≡ p) ⊎ (i ≡ p → ⊥) → (j ≡ p) ⊎ (j ≡ p → ⊥) → get_or (set (set xs i (x + 1)) j (y + 1)) p 0 ≡ get_or xs p 0 + cond (eqb i p || eqb j p) 1 0
    by_cases (inl e) (inl f) = absurd (apart (e ∙ sym f))
    by_cases (inl e) (inr f) =
        rw (eq-eqb i p e) (get_or-set_other (set xs i (x + 1)) j p (y + 1) 0 (λ g. f (sym g))
        ∙ (subst (λ q. get_or (set xs i (x + 1)) q 0 ≡ get_or xs q 0 + 1) e (get_or-set_same xs i (x + 1) 0 in_i ∙ ap (λ n. n + 1) x_is)))
    by_cases (inr e) (inl f) =
        rw (ne_eqb i p e, eq-eqb j p f)
        (subst (λ q. get_or (set (set xs i (x + 1)) j (y + 1)) q 0 ≡ get_or xs q 0 + 1) f
        (get_or-set_same (set xs i (x + 1)) j (y + 1) 0 (omega (arith, length-set xs i (x + 1))) ∙ ap (λ n. n + 1) y_is))
    by_cases (inr e) (inr f) =
        let same = get_or-set_other (set xs i (x + 1)) j p (y + 1) 0 (λ g. f (sym g)) ∙ get_or-set_other xs i p (x + 1) 0 (λ g. e (sym g)) in
        rw (ne_eqb i p e, ne_eqb j p f) (omega (arith, same))

-- so many of the first records name a path
abbrev pub degree_so_far : List Record → ℕ → ℕ → ℕ
degree_so_far rs k path = count_by (names_path path) (take k rs)

pub degree_more : (rs : List Record) (k : ℕ) (d : Record) (path : ℕ) → k < length rs →
    degree_so_far rs (k + 1) path ≡ degree_so_far rs k path + cond (eqb (first_path (get_or rs k d)) path || eqb (second_path (get_or rs k d)) path) 1 0
degree_more rs k d path inside = sum_by_more (λ r. cond (names_path path r) 1 0) rs k d inside

pub degree_few : (rs : List Record) (k path : ℕ) → degree_so_far rs k path ≤ k
degree_few rs k path = omega (arith, count_by-le-length (names_path path) (take k rs), length-take k rs)

pub y_few : (xs : List ℕ) (i j x y : ℕ) → i ≢ j → j < length xs → y ≡ get_or (set xs i (x + 1)) j y → y ≡ get_or xs j 0
y_few xs i j x y apart in_j is_y =
    get_or_read (set xs i (x + 1)) j y (omega (arith, length-set xs i (x + 1))) is_y 0 ∙ get_or-set_other xs i j (x + 1) 0 (λ e. apart (sym e))
