-- The input of a check, cut at its first line `--`.
use Rattle.std.specs.Prelude.{ℕ, zero, suc, ◌+◌, ◌-◌, Bool, ◌||◌, List, [], ◌∷◌, ◌++◌, length, take, codes, Option}
use Rattle.std.specs.List.{after_first, position}
use Rattle.std.specs.Option.{option_map}
use Rattle.std.specs.Str.{bytes_eq}
use Rattle.fapp_text.specs.Lines.{is_line_feed, lines}
use Rattle.record_reader.specs.Fields.{carriage_return}
use Rattle.fapp_run.specs.declared.check_input.CheckInput.{CheckInput}

-- a line `--`, with or without a carriage return
abbrev pub is_divider : List ℕ → Bool
is_divider line = bytes_eq line (codes "--") || bytes_eq line (codes "--" ++ carriage_return ∷ [])

-- what follows the first n lines of a text
abbrev pub after_lines : ℕ → List ℕ → List ℕ
after_lines zero text = text
after_lines (suc n) text = after_first is_line_feed (after_lines n text)

-- the first n lines of a text
abbrev pub first_lines : ℕ → List ℕ → List ℕ
first_lines n text = take (length text - length (after_lines n text)) text

-- what stands before a line `--`, the number of that line, from 1, and what follows it
pub record Halves : Type 0 where
  pub instance : List ℕ
  pub divider : ℕ
  pub answer : List ℕ

-- a text, cut at the line behind the first n ones
abbrev pub cut_at : List ℕ → ℕ → Halves
cut_at text n =
    record { instance = first_lines n text; divider = n + 1; answer = after_lines (n + 1) text }

-- an input, cut at its first line `--`, where it has one
abbrev pub halves : List ℕ → Option Halves
halves input = option_map (cut_at input) (position is_divider (lines input))

abbrev pub halves_of : CheckInput → Halves
halves_of input =
    record { instance = input.instance.now; divider = input.divider; answer = input.answer.now }
