-- Nodes that are open one below the other.
use Rattle.std.proofs.Common.{ℕ, ◌<◌, List, [], ◌∷◌, ◌++◌, Result, subst}
use Rattle.fapp_model.specs.declared.instance.Instance.{Instance}
use Rattle.fapp_model.specs.declared.literal.Literal.{Literal}
use Rattle.fapp_model.specs.search.Partials.{literal}
use Rattle.fapp_model.specs.search.Prefixes.{IsPrefix}
use Rattle.settle_laws.specs.declared.found.Found.{Found}
use Rattle.settle_laws.specs.declared.node.Node.{Node}
use Rattle.settle_laws.specs.Founds.{Searched}
use Rattle.settle_laws.specs.Noted.{IsEnding}
use Rattle.settle_laws.specs.OpenNodes.{OpenTo}
use Rattle.settle_laws.specs.Trying.{Trying}
use Rattle.settle_laws.specs.Worlds.{Keeps, World}
use Rattle.settle_laws.proofs.Keeping.{keeps-trans}
use Rattle.settle_laws.proofs.NextPaths.{next-prefix}
use Rattle.settle_laws.proofs.OneMoreChoice.{ends}

module _ (instance : Instance) (level : ℕ) where
  -- a node whose choice is pushed, and what is so inside of it
  abbrev pub Passing : (List Literal → World → Type 0) → Node → List Literal → World → Type 0
  Passing Inside node literals old = (here : World) × Trying instance level literals old here node × (node.choice < node.count)
      × Inside (literals ++ literal node.path node.choice ∷ []) here

  pub open-map : (P Q : List Literal → World → Type 0) → ((literals : List Literal) (old : World) → P literals old → Q literals old) →
      (nodes : List Node) (literals : List Literal) (old : World) → OpenTo P instance level literals old nodes → OpenTo Q instance level literals old nodes
  open-map P Q f [] literals old h = f literals old h
  open-map P Q f (node ∷ more) literals old h = (h.0, h.1, h.2, open-map P Q f more (literals ++ literal node.path node.choice ∷ []) h.0 h.3)

  pub open-push : (P : List Literal → World → Type 0) (nodes : List Node) (node : Node) (literals : List Literal) (old : World) → OpenTo (Passing P node) instance level literals old nodes → OpenTo P instance level literals old (nodes ++ node ∷ [])
  open-push P [] node literals old h = h
  open-push P (first ∷ more) node literals old h = (h.0, h.1, h.2, open-push P more node (literals ++ literal first.path first.choice ∷ []) h.0 h.3)

  pub open-pop : (P : List Literal → World → Type 0) (nodes : List Node) (node : Node) (literals : List Literal) (old : World) → OpenTo P instance level literals old (nodes ++ node ∷ []) → OpenTo (Passing P node) instance level literals old nodes
  open-pop P [] node literals old h = h
  open-pop P (first ∷ more) node literals old h = (h.0, h.1, h.2, open-pop P more node (literals ++ literal first.path first.choice ∷ []) h.0 h.3)

  -- what ends the search inside of nodes ends it outside of them
  pub open-end : {E : Type 0} → (result : Result Found E) → IsEnding result → (now : World) (nodes : List Node) (literals : List Literal) (old : World) →
      OpenTo (λ reached entered. Searched instance level reached entered now result) instance level literals old nodes → Searched instance level literals old now result
  open-end result ending now [] literals old h = h
  open-end result ending now (node ∷ more) literals old h = ends instance level literals old h.0 now node h.1 result ending
      (open-end result ending now more (literals ++ literal node.path node.choice ∷ []) h.0 h.3)

  -- with the prefix that the literals are
  pub open-prefix : (P : List Literal → World → Type 0) (nodes : List Node) (literals : List Literal) (old : World) → IsPrefix instance literals → OpenTo P instance level literals old nodes → OpenTo (λ reached entered. IsPrefix instance reached × P reached entered) instance level literals old nodes
  open-prefix P [] literals old prefix h = (prefix, h)
  open-prefix P (node ∷ more) literals old prefix h = (
    h.0,
    h.1,
    h.2,
    open-prefix P more (literals ++ literal node.path node.choice ∷ []) h.0
        (next-prefix instance literals prefix node.path h.1.next node.choice (subst (λ n. node.choice < n) h.1.counted h.2)) h.3,
  )

  -- what doesn't speak of the innermost literals
  pub open-out : (Q : Type 0) (nodes : List Node) (literals : List Literal) (old : World) → OpenTo (λ reached entered. Q) instance level literals old nodes → Q
  open-out Q [] literals old h = h
  open-out Q (node ∷ more) literals old h = open-out Q more (literals ++ literal node.path node.choice ∷ []) h.0 h.3

  -- with what was kept since the search began
  pub open-kept : (P : List Literal → World → Type 0) (nodes : List Node) (literals : List Literal) (start old : World) → Keeps instance start old → OpenTo P instance level literals old nodes → OpenTo (λ reached entered. Keeps instance start entered × P reached entered) instance level literals old nodes
  open-kept P [] literals start old keeps h = (keeps, h)
  open-kept P (node ∷ more) literals start old keeps h = (h.0, h.1, h.2, open-kept P more (literals ++ literal node.path node.choice ∷ []) start h.0 (keeps-trans instance start old h.0 keeps h.1.keeps) h.3)
