-- What a reader of lines or of fields has still to give.
use Rattle.std.specs.Prelude.{◌≡◌, ℕ, ◌+◌, List, [], ◌∷◌, Option, Some, None}
use Rattle.std.specs.Borrow.{Bor}

-- the lines from one on, and its number
pub record LinesLeft : Type 0 where
  pub number : ℕ
  pub lines : List (List ℕ)

-- the first of the lines that were left, under its number, or none where no line was left
abbrev pub GivesLine : LinesLeft → Option (ℕ × Bor (List ℕ)) → LinesLeft → Type 0
GivesLine old (Some found) new =
    (old.lines ≡ found.1.now ∷ new.lines) × (found.0 ≡ old.number) × (new.number ≡ old.number + 1)
GivesLine old None new = (old.lines ≡ []) × (new ≡ old)

-- the first of the fields that were left, or none where no field was left
abbrev pub GivesField : List (List ℕ) → Option (Bor (List ℕ)) → List (List ℕ) → Type 0
GivesField old (Some field) new = old ≡ field.now ∷ new
GivesField old None new = (old ≡ []) × (new ≡ [])
