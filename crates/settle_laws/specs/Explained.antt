-- What a line may leave out.
use Rattle.std.specs.Prelude.{◌≡◌, ℕ, ◌<◌, List, slice_get, All, Contains, Option, Some}
use Rattle.fapp_model.specs.declared.instance.Instance.{Instance}
use Rattle.fapp_model.specs.declared.literal.Literal.{Literal}
use Rattle.fapp_model.specs.Tags.{triple_from}
use Rattle.fapp_model.specs.search.Dead.{Dead}
use Rattle.fapp_model.specs.search.Partials.{HasAll, IsPartial}
use Rattle.search_log.specs.declared.line.ChoiceRef.{ChoiceRef}
use Rattle.search_log.specs.declared.line.LogLine.{LogLine}
use Rattle.search_log.specs.declared.line.Ref.{Ref}
use Rattle.search_log.specs.declared.line.Ref.TheVariants.{Own, Row}
use Rattle.search_log.specs.Contents.{Content, KnownRow, known_row}
use Rattle.search_log.specs.GoodLines.{IsSettled}
use Rattle.nogood.specs.Rows.{row_literals}
use Rattle.search_log.specs.declared.shared.Cite.{Cite}
use Rattle.search_log.specs.Shares.{row_content}
use Rattle.settle_laws.specs.declared.node.Node.{Node}

-- rows that look-ups gave have been copied
abbrev pub AreCitesCopied : List KnownRow → List Cite → Type 0
AreCitesCopied rows cites =
    All (λ cite. Contains rows (known_row cite.row (row_content cite.content))) cites

-- what a row of their numbers says is what look-ups gave
abbrev pub AreContents : List KnownRow → List Cite → Type 0
AreContents rows cites =
    All (λ cite. (content : Content) → Contains rows (known_row cite.row content) →
    content ≡ row_content cite.content) cites

-- a row may have a literal: what look-ups gave under its number has it
abbrev pub MayHave : List Cite → ℕ → Literal → Type 0
MayHave cites number a =
    (cite : Cite) → Contains cites cite → cite.row ≡ number → Contains (row_literals cite.content) a

-- fewer literals still have those that a line has of them, or those that a row may have
abbrev pub StaysFor : List Cite → List LogLine → List Literal → List Literal → Ref → Type 0
StaysFor cites lines literals fewer (Own n) =
    (line : LogLine) → slice_get lines n ≡ Some line → (a : Literal) → Contains line.lits a →
    Contains literals a → Contains fewer a
StaysFor cites lines literals fewer (Row r) =
    (a : Literal) → MayHave cites r a → Contains literals a → Contains fewer a

-- each choice of a node's path has a reference or is dead with the literals
abbrev pub IsClosedBy : Instance → List Literal → Node → Type 0
IsClosedBy instance literals node =
    (i : ℕ) → i < node.count → IsSettled instance node.tag.code literals node.path node.refs i

-- Fewer literals that close a node as well, by tests that were made of them.
pub record Explains (instance : Instance) (cites : List Cite) (lines : List LogLine)
    (literals fewer : List Literal) (node : Node) : Type 0 where
  pub partial : IsPartial instance fewer
  pub within : HasAll literals fewer
  pub stay : All (λ ref. StaysFor cites lines literals fewer ref.line) node.refs
  pub closed : IsClosedBy instance fewer node

-- Fewer literals that are dead as well.
pub record IsDeadPart (instance : Instance) (tag : ℕ) (literals fewer : List Literal) : Type 0 where
  pub partial : IsPartial instance fewer
  pub within : HasAll literals fewer
  pub dead : Dead instance (triple_from tag) fewer
