-- Choices that a certificate excludes.
use Rattle.std.specs.Prelude.{ℕ, ◌-◌, Bool, false, refl, ◌&&◌, ◌||◌, nat_le, List, [], ◌∷◌, slice_index_or}
use Rattle.std.specs.List.{list_any}
use Rattle.fapp_model.specs.declared.literal.Literal.{Literal}
use Rattle.fapp_model.specs.declared.tag.Tag.{Tag}
use Rattle.cert_lines.specs.declared.answer.Line.{Line}
use Rattle.cert_lines.specs.declared.answer.Rule.TheVariants.{Count}
use Rattle.cert_lines.specs.acceptance.Deleted.{kept}
use Rattle.cert_lines.specs.acceptance.Contained.{is_same, has_all}

-- what stands past the end of a list of lines
abbrev pub no_line : Line
no_line = record { tag = record { code = 0; of_tag = refl }; lits = []; rule = Count [] }

-- a line by its number, from 1
abbrev pub line_at : List Line → ℕ → Line
line_at lines n = slice_index_or lines (n - 1) no_line

-- the literals are this one alone
abbrev pub is_only : Literal → List Literal → Bool
is_only a [] = false
is_only a (b ∷ []) = is_same b a
is_only a (b ∷ c ∷ more) = false

-- a line of this one literal has at least the tag
abbrev pub is_marked : List Line → Tag → Literal → Bool
is_marked earlier t a =
    list_any (λ line. is_only a line.lits && nat_le t.code line.tag.code) earlier

-- a cited line's literals are all among the literals and this one
abbrev pub is_cited : List Line → List ℕ → List Literal → Literal → Bool
is_cited earlier cites literals a =
    list_any (λ n. has_all (a ∷ literals) (line_at earlier n).lits) cites

-- a choice is excluded by an earlier line of one literal that is kept, or by a cited one
abbrev pub is_excluded : List Line → Tag → List ℕ → List Literal → Literal → Bool
is_excluded earlier t cites literals a =
    is_marked (kept earlier) t a || is_cited earlier cites literals a
