-- What a log's lines and the pool's rows say, and what a reference names.
use Rattle.std.specs.Prelude.{◌≡◌, ℕ, List, slice_get, Contains, Some}
use Rattle.fapp_model.specs.declared.literal.Literal.{Literal}
use Rattle.search_log.specs.declared.line.LogLine.{LogLine}
use Rattle.search_log.specs.declared.line.Ref.{Ref}
use Rattle.search_log.specs.declared.line.Ref.TheVariants.{Own, Row}

-- literals, and the code of the tag that they are said to be implied at
pub record Content : Type 0 where
  pub tag : ℕ
  pub lits : List Literal

-- a row of the pool, by its number, with what it says
pub record KnownRow : Type 0 where
  pub number : ℕ
  pub content : Content

abbrev pub known_row : ℕ → Content → KnownRow
known_row number content = record { number = number; content = content }

abbrev pub content_of : LogLine → Content
content_of line = record { tag = line.tag.code; lits = line.lits }

-- a reference names what an earlier line of the log says, or what a row of the list says
abbrev pub Cites : List KnownRow → List LogLine → Ref → Content → Type 0
Cites rows earlier (Own n) content =
    (line : LogLine) × (slice_get earlier n ≡ Some line) × (content ≡ content_of line)
Cites rows earlier (Row r) content = Contains rows (known_row r content)
