-- Rows that are numbered in their order.
use Rattle.std.specs.Prelude.{◌≡◌, ℕ, ◌+◌, ◌<◌, ◌≤◌, List, [], ◌∷◌, ◌++◌, length, All, Contains, Option, Some, None, slice_get, refl}
use Rattle.std.proofs.Common.{⊎_elim, subst, sym, ap, ◌∙◌, arith}
use Rattle.fapp_model.proofs.Members.{front_or_behind, no_member}
use Rattle.nogood.specs.declared.row.Row.{Row}
use Rattle.search_log.specs.Contents.{KnownRow, known_row}
use Rattle.search_log.specs.Shares.{FitsPart, HaveOneContent, row_content}

-- rows with numbers from n on
abbrev pub numbered_from : ℕ → List Row → List KnownRow
numbered_from n [] = []
numbered_from n (row ∷ rows) = known_row n (row_content row) ∷ numbered_from (n + 1) rows

abbrev pub numbered_rows : List Row → List KnownRow
numbered_rows rows = numbered_from 0 rows

-- the place of a row that fits, or no row does
abbrev pub IsFitting : List Row → List (Option ℕ) → ℕ → Option ℕ → Type 0
IsFitting rows part target (Some place) =
    (place < length rows) × ((row : Row) → slice_get rows place ≡ Some row →
    FitsPart part target (row_content row))
IsFitting rows part target None = All (λ row. FitsPart part target (row_content row) → ⊥) rows

pub none-one : HaveOneContent []
none-one a b m n e = absurd (no_member a m)

numbers-from : (n : ℕ) (rows : List Row) (a : KnownRow) → Contains (numbered_from n rows) a →
    n ≤ a.number
numbers-from n [] a m = absurd (no_member a m)
numbers-from n (row ∷ rows) a m = ⊎_elim
    (λ here. let same : n ≡ a.number = ap (λ (k : KnownRow). k.number) here in omega arith)
    (λ later. let high = numbers-from (n + 1) rows a later in omega arith)
    (front_or_behind (known_row n (row_content row)) (numbered_from (n + 1) rows) a m)

from-one : (n : ℕ) (rows : List Row) → HaveOneContent (numbered_from n rows)
from-one n [] a b ma mb e = absurd (no_member a ma)
from-one n (row ∷ rows) a b ma mb e = ⊎_elim
    (λ here. ⊎_elim
    (λ also. sym here ∙ also)
    (λ later. let high = numbers-from (n + 1) rows b later
    in let same : n ≡ a.number = ap (λ (k : KnownRow). k.number) here in absurd (omega arith))
    (front_or_behind (known_row n (row_content row)) (numbered_from (n + 1) rows) b mb))
    (λ later. ⊎_elim
    (λ also. let high = numbers-from (n + 1) rows a later
    in let same : n ≡ b.number = ap (λ (k : KnownRow). k.number) also in absurd (omega arith))
    (λ both. from-one (n + 1) rows a b later both e)
    (front_or_behind (known_row n (row_content row)) (numbered_from (n + 1) rows) b mb))
    (front_or_behind (known_row n (row_content row)) (numbered_from (n + 1) rows) a ma)

append-nil : (rows : List KnownRow) → HaveOneContent rows → HaveOneContent (rows ++ [])
append-nil rows h = subst HaveOneContent (sym (whole rows)) h
  where
    whole : (rows : List KnownRow) → rows ++ [] ≡ rows
    whole [] = refl
    whole (row ∷ rows) = ap (λ more. row ∷ more) (whole rows)

pub numbered-one : (rows : List Row) → HaveOneContent (numbered_rows rows ++ [])
numbered-one rows = append-nil (numbered_rows rows) (from-one 0 rows)
