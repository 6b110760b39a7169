-- What is so while the choices of a path are tried one by one.
use Rattle.std.specs.Prelude.{◌≡◌, ℕ, ◌+◌, ◌<◌, ◌≤◌, List, ◌∷◌, length, slice_get, All, AllPairs, Some}
use Rattle.fapp_model.specs.declared.instance.Instance.{Instance}
use Rattle.fapp_model.specs.declared.literal.Literal.{Literal}
use Rattle.fapp_model.specs.Assignments.{count_at}
use Rattle.fapp_model.specs.Tags.{triple_from}
use Rattle.fapp_model.specs.search.Implied.{Implied}
use Rattle.fapp_model.specs.search.Partials.{HasAll, literal}
use Rattle.fapp_model.specs.search.WorkOrder.{work_order}
use Rattle.search_log.specs.declared.line.ChoiceRef.{ChoiceRef}
use Rattle.search_log.specs.declared.line.LogLine.{LogLine}
use Rattle.search_log.specs.Contents.{Cites, Content, KnownRow}
use Rattle.search_log.specs.GoodLines.{IsSettled}
use Rattle.search_log.specs.Bounds.{floor}
use Rattle.search_log.specs.Shares.{IsServedContent}
use Rattle.settle_laws.specs.declared.node.Node.{Node}
use Rattle.settle_laws.specs.Founds.{IsWanted, IsTarget}
use Rattle.settle_laws.specs.Ticks.{TicksBelow}
use Rattle.settle_laws.specs.Worlds.{Keeps, World}

-- what a reference names has only the literals and its choice of the path, at no lower tag, and is
-- implied
pub record IsTriedChild (instance : Instance) (rows : List KnownRow) (lines : List LogLine)
    (literals : List Literal) (tag path : ℕ) (ref : ChoiceRef) : Type 0 where
  pub content : Content
  pub cited : Cites rows lines ref.line content
  pub reaches : tag ≤ content.tag
  pub contained : HasAll (literal path ref.choice ∷ literals) content.lits
  pub served : IsServedContent instance content

-- each earlier choice of the path has a reference or is dead with the literals, and with each one
-- they are implied
pub record AreTriedChoices (instance : Instance) (rows : List KnownRow) (lines : List LogLine)
    (literals : List Literal) (tag path choice : ℕ) (refs : List ChoiceRef) : Type 0 where
  pub ascending : AllPairs (λ a b. a.choice < b.choice) refs
  pub below : All (λ ref. ref.choice < choice) refs
  pub children : All (IsTriedChild instance rows lines literals tag path) refs
  pub settled : (i : ℕ) → i < choice → IsSettled instance tag literals path refs i
  pub implied : (i : ℕ) → i < choice → Implied instance (triple_from tag)
      (literal path i ∷ literals)

-- From the search's coming to the literals on, at least a tick more was taken than lines were
-- added, each tick so far is there, and the node's choices before its own were tried.
pub record Trying (instance : Instance) (level : ℕ) (literals : List Literal) (old now : World)
    (node : Node) : Type 0 where
  pub next : slice_get (work_order instance) (length literals) ≡ Some node.path
  pub counted : node.count ≡ count_at instance node.path
  pub within : node.choice ≤ node.count
  pub read : now.bound.told ≤ floor old.bound
  pub keeps : Keeps instance old now
  pub fewer : length now.log.lines + now.fuel + 1 ≤ length old.log.lines + old.fuel
  pub is_open : IsWanted level now.bound
  pub target : IsTarget level now.bound node.tag.code
  pub choices : AreTriedChoices instance now.shared.copied now.log.lines literals node.tag.code
      node.path node.choice node.refs
  pub ticks : TicksBelow instance level literals node.path node.choice old now
