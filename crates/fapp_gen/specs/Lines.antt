-- Lines of a text: fields with one space between them, and a line feed.
use Rattle.std.specs.Prelude.{ℕ, ◌-◌, ◌*◌, List, [], ◌∷◌, ◌++◌, map, decimal}
use Rattle.std.specs.List.{flat_map, join_with_byte, range_with_len}

abbrev pub line_text : List (List ℕ) → List ℕ
line_text fields = join_with_byte 32 fields ++ 10 ∷ []

-- numbers, each behind a space
abbrev pub spaced : List ℕ → List ℕ
spaced numbers = flat_map (λ n. 32 ∷ decimal n) numbers

-- the fields of a line of a word and numbers
abbrev pub numbered : List ℕ → List ℕ → List (List ℕ)
numbered word numbers = word ∷ map decimal numbers

-- a number for each of the eleven levels: the first, and from level to level one that is lower by a
-- step
unfoldable pub falling : ℕ → ℕ → List ℕ
falling first step = map (λ level. first - step * level) (range_with_len 0 11)
