-- What is seen of a path that the search would come to later.
use Rattle.std.specs.Prelude.{◌≡◌, List, [], Option, Some, None, Result, Ok, Err}
use Rattle.fapp_model.specs.declared.instance.Instance.{Instance}
use Rattle.fapp_model.specs.declared.literal.Literal.{Literal}
use Rattle.fapp_model.specs.declared.tag.Tag.{Tag}
use Rattle.search_log.specs.declared.shared.Cite.{Cite}
use Rattle.search_log.specs.LogStates.{LogState}
use Rattle.settle_laws.specs.declared.found.Found.{Found}
use Rattle.settle_laws.specs.declared.node.Node.{Node}
use Rattle.settle_laws.specs.Explained.{Explains, IsClosedBy}
use Rattle.settle_laws.specs.Lines.{AddsLine}
use Rattle.subtree_search.specs.Explaining.{IsNodeToExplain}

-- a node of a further path at a tag, with no choice left to try and nothing noted of any
pub record IsWithoutRefs (instance : Instance) (literals : List Literal) (tag : Tag)
    (node : Node) : Type 0 where
  pub asked : IsNodeToExplain instance literals node
  pub tag_is : node.tag ≡ tag
  pub done : node.choice ≡ node.count
  pub none : node.refs ≡ []

-- such a node, each of whose choices is dead with the literals
abbrev pub IsClosedAhead : Instance → List Literal → Tag → Node → Type 0
IsClosedAhead instance literals tag node =
    IsWithoutRefs instance literals tag node × IsClosedBy instance literals node

-- its line was added, on literals that it needs
pub record ClosesAhead (instance : Instance) (literals : List Literal) (tag : Tag)
    (old new : LogState) (found : Found) : Type 0 where
  pub node : Node
  pub shut : IsClosedAhead instance literals tag node
  pub cites : List Cite
  pub fewer : List Literal
  pub explains : Explains instance cites old.lines literals fewer node
  pub adds : AddsLine instance fewer node.tag (Some node.path) node.refs old new found

-- or the log is as it was
abbrev pub LooksAhead : {E : Type 0} → Instance → List Literal → Tag → LogState → LogState →
    Result (Option Found) E → Type 0
LooksAhead instance literals tag old new (Ok (Some found)) =
    ClosesAhead instance literals tag old new found
LooksAhead instance literals tag old new (Ok None) = new ≡ old
LooksAhead instance literals tag old new (Err e) = new ≡ old
