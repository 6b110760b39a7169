-- The lines of a text: the bytes up to each line feed, and those after the last one, if there are
-- any.
use Rattle.std.specs.Prelude.{ℕ, Bool, ◌==◌, List, [], ◌∷◌, if◌then◌else◌}
use Rattle.std.specs.List.{onto_first}

abbrev pub line_feed : ℕ
line_feed = 10

abbrev pub is_line_feed : ℕ → Bool
is_line_feed b = b == line_feed

-- a line feed ends a line, and another byte stands at the front of the line that follows it
abbrev pub lines : List ℕ → List (List ℕ)
lines [] = []
lines (b ∷ text) = if b == line_feed then [] ∷ lines text else onto_first b (lines text)
