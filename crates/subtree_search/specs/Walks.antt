-- Where a search stands.
use Rattle.std.specs.Prelude.{◌≡◌, ℕ, ◌+◌, ◌-◌, ◌*◌, ◌≤◌, ◌^◌, List, length, sum_by}
use Rattle.fapp_model.specs.declared.instance.Instance.{Instance}
use Rattle.fapp_model.specs.Instances.{IsInstance}
use Rattle.fapp_model.specs.Levels.{levels_of}
use Rattle.settle_laws.specs.declared.node.Node.{Node}
use Rattle.settle_laws.specs.Worlds.{World}
use Rattle.subtree_search.specs.declared.walk.Walk.{Walk}

-- a level of the instance, and room for an assignment of it
pub record IsReady (instance : Instance) (walk : Walk) : Type 0 where
  pub valid : IsInstance instance
  pub level : walk.level ≤ levels_of instance
  pub room : length walk.plan.items ≡ length instance.paths

-- how much is left to do: at most so many nodes are to come as there is fuel, and each has at most
-- 2^16 choices
abbrev pub work_left : ℕ → List Node → ℕ
work_left fuel nodes = fuel * 2 ^ 17 + sum_by (λ (node : Node). node.count - node.choice + 1) nodes

-- the lines of a search that began in a world begin where that world's end
abbrev pub BeginsAt : Walk → World → Type 0
BeginsAt walk from = walk.recall.first ≡ length from.log.lines
