-- What is asked of the literals of a node whose choices were tried.
use Rattle.std.specs.Prelude.{◌≡◌, ℕ, ◌<◌, false, List, length, slice_get, All, Contains, Option, Some}
use Rattle.fapp_model.specs.declared.instance.Instance.{Instance}
use Rattle.fapp_model.specs.declared.literal.Literal.{Literal}
use Rattle.fapp_model.specs.Assignments.{count_at}
use Rattle.fapp_model.specs.InstanceTags.{IsTagFor}
use Rattle.fapp_model.specs.Instances.{IsInstance}
use Rattle.fapp_model.specs.search.Partials.{IsPartial, names}
use Rattle.search_log.specs.declared.line.LogLine.{LogLine}
use Rattle.search_log.specs.declared.line.Ref.{Ref}
use Rattle.search_log.specs.declared.line.Ref.TheVariants.{Own, Row}
use Rattle.nogood.specs.Rows.{row_literals}
use Rattle.search_log.specs.declared.shared.Cite.{Cite}
use Rattle.settle_laws.specs.declared.node.Node.{Node}
use Rattle.subtree_search.specs.Recalling.{IsSeen}

-- a node of a further path of the instance, with a tag of it
pub record IsNodeToExplain (instance : Instance) (literals : List Literal)
    (node : Node) : Type 0 where
  pub valid : IsInstance instance
  pub partial : IsPartial instance literals
  pub tag : IsTagFor instance node.tag
  pub small : node.path < length instance.paths
  pub counted : node.count ≡ count_at instance node.path
  pub apart : names literals node.path ≡ false

-- a line doesn't name a path, nor does a row, by what a look-up gave under its number
abbrev pub IsOffPath : List Cite → List LogLine → ℕ → Ref → Type 0
IsOffPath cites lines path (Own n) =
    (line : LogLine) → slice_get lines n ≡ Some line → names line.lits path ≡ false
IsOffPath cites lines path (Row r) =
    (cite : Cite) × IsSeen cites r cite × (names (row_literals cite.content) path ≡ false)
