-- Nodes that are open one below the other.
use Rattle.std.specs.Prelude.{◌≡◌, ℕ, ◌<◌, List, [], ◌∷◌, ◌++◌}
use Rattle.fapp_model.specs.declared.instance.Instance.{Instance}
use Rattle.fapp_model.specs.declared.literal.Literal.{Literal}
use Rattle.fapp_model.specs.search.Partials.{literal}
use Rattle.settle_laws.specs.declared.node.Node.{Node}
use Rattle.settle_laws.specs.Trying.{Trying}
use Rattle.settle_laws.specs.Worlds.{World}

-- From the outermost node on, each one's choices before its own were tried, its own choice is
-- pushed, and the search came with it to the literals of the next one. Of the literals that it came
-- to last, and of the world then, something is so.
abbrev pub OpenTo : (List Literal → World → Type 0) → Instance → ℕ → List Literal → World →
    List Node → Type 0
OpenTo Inside instance level literals old [] = Inside literals old
OpenTo Inside instance level literals old (node ∷ more) =
    (here : World) × Trying instance level literals old here node
    × (node.choice < node.count)
    × OpenTo Inside instance level (literals ++ literal node.path node.choice ∷ []) here more

-- the innermost node's choices before its own were tried, and none of its own is pushed
pub record IsTrying (instance : Instance) (level : ℕ) (literals : List Literal) (old : World)
    (nodes : List Node) (pushed : List Literal) (now : World) : Type 0 where
  pub outer : List Node
  pub node : Node
  pub nodes_are : nodes ≡ outer ++ node ∷ []
  pub inside : OpenTo (λ reached entered. (pushed ≡ reached)
      × Trying instance level reached entered now node) instance level literals old outer
