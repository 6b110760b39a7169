-- Lines of the search and rows that are found again.
use Rattle.std.specs.Prelude.{◌≡◌, ℕ, ◌≤◌, List, slice_get, Contains, Some}
use Rattle.fapp_model.specs.declared.literal.Literal.{Literal}
use Rattle.fapp_model.specs.search.Partials.{HasAll}
use Rattle.search_log.specs.declared.line.LogLine.{LogLine}
use Rattle.search_log.specs.declared.shared.Cite.{Cite}

-- a line that stands at a place has at least the tag and only these literals
pub record SaysOf (lines : List LogLine) (tag : ℕ) (literals : List Literal)
    (place : ℕ) : Type 0 where
  pub line : LogLine
  pub there : slice_get lines place ≡ Some line
  pub reaches : tag ≤ line.tag.code
  pub contained : HasAll literals line.lits

-- and is one of the search's
pub record IsRecalled (lines : List LogLine) (first tag : ℕ) (literals : List Literal)
    (place : ℕ) : Type 0 where
  pub says : SaysOf lines tag literals place
  pub own : first ≤ place

-- one of the rows that look-ups gave has the number
abbrev pub IsSeen : List Cite → ℕ → Cite → Type 0
IsSeen cites row cite = Contains cites cite × (cite.row ≡ row)
