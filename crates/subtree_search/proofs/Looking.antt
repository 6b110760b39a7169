-- Paths that the search would come to later.
use Rattle.std.proofs.Common.{◌≡◌, ℕ, ◌<◌, ◌≤◌, List, length, get_or, All, Some, Ok, sym, subst}
use Rattle.std.proofs.lemmas.List.Elements.{All-get_or}
use Rattle.fapp_model.specs.declared.instance.Instance.{Instance}
use Rattle.fapp_model.specs.declared.literal.Literal.{Literal}
use Rattle.fapp_model.specs.declared.tag.Tag.{Tag}
use Rattle.fapp_model.specs.Instances.{IsInstance}
use Rattle.fapp_model.specs.Levels.{levels_of}
use Rattle.fapp_model.specs.search.Prefixes.{IsPrefix}
use Rattle.fapp_model.specs.search.WorkOrder.{work_order}
use Rattle.fapp_model.proofs.WorkOrders.{order-is}
use Rattle.choice_counts.specs.ForwardStates.{ForwardState}
use Rattle.search_log.specs.declared.shared.Cite.{Cite}
use Rattle.search_log.specs.LogStates.{LogState}
use Rattle.settle_laws.specs.declared.found.Found.{Found}
use Rattle.settle_laws.specs.declared.node.Node.{Node}
use Rattle.settle_laws.specs.Explained.{Explains}
use Rattle.settle_laws.specs.Founds.{Searched}
use Rattle.settle_laws.specs.Lines.{AddsLine}
use Rattle.settle_laws.specs.Ticked.{IsTicked}
use Rattle.settle_laws.specs.Worlds.{World, world}
use Rattle.settle_laws.proofs.Ahead.{ahead-searched}
use Rattle.subtree_search.specs.Looking.{ClosesAhead, IsClosedAhead}

pub order-small : (instance : Instance) (order : List ℕ) (place : ℕ) → order ≡ work_order instance → place < length order → get_or order place 0 < length instance.paths
order-small instance order place same within = All-get_or (λ path. path < length instance.paths) order place 0 within
    (subst (All (λ path. path < length instance.paths)) (sym same) (order-is instance).in_range)

-- a line that closes a shut node
pub closes-shut : (first forward : ForwardState) → forward ≡ first → (tag : Tag) (old new : LogState) (node : Node) (found : Found) → IsClosedAhead first.instance first.pushed tag node → (cites : List Cite) →
    ((fewer : List Literal) × Explains forward.instance cites old.lines forward.pushed fewer node × AddsLine forward.instance fewer node.tag (Some node.path) node.refs old new found) →
    ClosesAhead first.instance first.pushed tag old new found
closes-shut first forward same tag old new node found shut cites h =
    let here = subst (λ (s : ForwardState). (fewer : List Literal) × Explains s.instance cites old.lines s.pushed fewer node × AddsLine s.instance fewer node.tag (Some node.path) node.refs old new found) same h in
    record { node = node; shut = shut; cites = cites; fewer = here.0; explains = here.1; adds = here.2 }

-- settles what a tick was taken at
pub ahead-found : {E : Type 0} → (instance : Instance) → IsInstance instance → (level : ℕ) → level ≤ levels_of instance → (literals : List Literal) → IsPrefix instance literals → (old now : World) (tag : Tag) → IsTicked instance level literals old now tag → length literals < length instance.paths →
    (log : LogState) (found : Found) → ClosesAhead instance literals tag now.log log found → Searched {E = E} instance level literals old (world now.fuel now.bound now.shared log) (Ok found)
ahead-found {E} instance valid level within literals prefix old now tag ticked short log found c =
    let bare = c.shut.0 in
    ahead-searched instance valid level within literals prefix bare.asked.partial old now tag ticked short c.node bare.asked.small bare.asked.apart bare.asked.counted bare.tag_is bare.done bare.none c.shut.1 log c.cites c.fewer c.explains (Ok found) c.adds
