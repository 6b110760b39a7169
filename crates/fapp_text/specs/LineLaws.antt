-- Laws of lines and fields.
use Rattle.std.specs.Prelude.{◌≡◌, ℕ, true, not, ◌&&◌, ◌==◌, nat_lt, List, [], ◌∷◌, ◌++◌, length, filter, flat_map, if◌then◌else◌}
use Rattle.std.specs.List.{concat, list_all}
use Rattle.fapp_text.specs.Lines.{line_feed, lines}
use Rattle.fapp_text.specs.Fields.{is_blank, fields}

-- a text with a line feed at its end, where it is not empty
abbrev pub closed : List ℕ → List ℕ
closed [] = []
closed (b ∷ []) = if b == line_feed then b ∷ [] else b ∷ line_feed ∷ []
closed (b ∷ c ∷ text) = b ∷ closed (c ∷ text)

-- the lines, each with a line feed, are the closed text
abbrev pub LinesJoin : Type 0
LinesJoin = (text : List ℕ) → flat_map (λ line. line ++ line_feed ∷ []) (lines text) ≡ closed text

-- no line has a line feed
abbrev pub LinesAreCut : Type 0
LinesAreCut =
    (text : List ℕ) → list_all (λ line. list_all (λ b. not (b == line_feed)) line) (lines text)
    ≡ true

-- the fields have all bytes that are no blanks, in order
abbrev pub FieldsJoin : Type 0
FieldsJoin = (line : List ℕ) → concat (fields line) ≡ filter (λ b. not (is_blank b)) line

-- no field is empty or has a blank
abbrev pub FieldsAreCut : Type 0
FieldsAreCut =
    (line : List ℕ) → list_all (λ field. nat_lt 0 (length field)
    && list_all (λ b. not (is_blank b)) field) (fields line) ≡ true
