-- How lines get Delete lines behind the last cites of others.
use Rattle.std.specs.Prelude.{◌≡◌, ℕ, zero, suc, ◌+◌, ◌<◌, ◌≤◌, List, [], ◌∷◌, length, map, fold, slice_index_or, slice_set, if◌then◌else◌}
use Rattle.cert_lines.specs.declared.answer.Line.{Line}
use Rattle.cert_lines.specs.Renumbering.{number_in}
use Rattle.cert_lines.specs.acceptance.Excluded.{line_at}
use Rattle.accept_laws.specs.Compacting.{cites, delete_line, ended, is_empty}

-- the last of the first n lines that cites a line, and 0 where none does
abbrev pub last_cite : List Line → ℕ → ℕ → ℕ
last_cite lines zero k = 0
last_cite lines (suc n) k = if cites (line_at lines (suc n)) k then suc n else last_cite lines n k

-- a table with one number at some places
abbrev pub noted : List ℕ → ℕ → List ℕ → List ℕ
noted last n places = fold (λ table place. slice_set table place n) last places

-- a table has for each line the last of the first n that cites it
pub record AreLast (lines : List Line) (n : ℕ) (last : List ℕ) : Type 0 where
  pub long : length last ≡ length lines + 1
  pub at : (k : ℕ) → k ≤ length lines → slice_index_or last k 0 ≡ last_cite lines n k

-- rows have for each line what it ends
pub record AreEnded (lines : List Line) (rows : List (List ℕ)) : Type 0 where
  pub long : length rows ≡ length lines + 1
  pub at : (n : ℕ) → 0 < n → n ≤ length lines → slice_index_or rows n [] ≡ ended lines n

-- the Delete line for some lines, by their numbers in a table, where there are any
abbrev pub delete_by : List ℕ → List ℕ → List Line
delete_by numbers ended =
    if is_empty ended then [] else (delete_line (map (number_in numbers) ended) ∷ [])
