-- The fields of a line: its longest runs of bytes without blanks.
use Rattle.std.specs.Prelude.{ℕ, Bool, ◌||◌, ◌==◌, nat_lt, List, length, filter}
use Rattle.std.specs.List.{slice_split}

-- a space or a tab
abbrev pub is_blank : ℕ → Bool
is_blank b = (b == 32) || (b == 9)

-- what stands before, between and after the blanks, where it is not empty
abbrev pub fields : List ℕ → List (List ℕ)
fields line = filter (λ part. nat_lt 0 (length part)) (slice_split is_blank line)
