-- What is so while nodes are left.
use Rattle.std.proofs.Common.{◌≡◌, ℕ, ◌+◌, ◌-◌, ◌<◌, ◌≤◌, false, List, [], ◌∷◌, ◌++◌, length, take, Some, Ok, refl, ap, subst, sym, ◌∙◌, arith}
use Rattle.std.specs.List.{slice_get}
use Rattle.std.specs.declared.alloc.AllocError.{AllocError}
use Rattle.std.proofs.lemmas.List.{length-append}
use Rattle.fapp_model.specs.declared.literal.Literal.{Literal}
use Rattle.fapp_model.specs.declared.tag.Tag.{Tag}
use Rattle.fapp_model.specs.Levels.{levels_of}
use Rattle.fapp_model.specs.search.Partials.{names}
use Rattle.fapp_model.specs.search.Prefixes.{IsPrefix}
use Rattle.choice_counts.specs.ForwardStates.{ForwardState, with_literals, without_last}
use Rattle.search_log.specs.declared.line.LogLine.{LogLine}
use Rattle.search_log.specs.declared.line.Ref.TheVariants.{Own}
use Rattle.search_log.specs.LogStates.{LogState}
use Rattle.settle_laws.specs.declared.found.Found.{Found}
use Rattle.settle_laws.specs.declared.found.Found.TheVariants.{Settled}
use Rattle.settle_laws.specs.declared.node.Node.{Node}
use Rattle.settle_laws.specs.Worlds.{World}
use Rattle.subtree_search.specs.declared.walk.Walk.{Walk}
use Rattle.subtree_search.specs.SearchSteps.{ComesTo}
use Rattle.subtree_search.specs.Walks.{IsReady, work_left}
use Rattle.subtree_search.proofs.Advancing.{fewer-nodes, front-of, jumps-over, some-pushed}

-- fewer nodes are open, and the search came with them to what was found
pub record Jumping (first forward : ForwardState) (start walk : Walk) (found : Found) (log : LogState) : Type 0 where
  pub ready : IsReady first.instance walk
  pub level_is : walk.level ≡ start.level
  pub first_is : walk.recall.first ≡ start.recall.first
  pub seen_is : walk.seen ≡ start.seen
  pub front : forward ≡ with_literals first forward.pushed
  pub comes : (root : List Literal) (from now : World) → IsPrefix first.instance root → now.log ≡ log → ComesTo {E = AllocError} first.instance start.level root from start.nodes.items first.pushed now (Ok found) →
      ComesTo {E = AllocError} first.instance start.level root from walk.nodes.items forward.pushed now (Ok found)
  pub lighter : (fuel : ℕ) → work_left fuel walk.nodes.items ≤ work_left fuel start.nodes.items

-- an innermost node whose path a line doesn't name
pub record IsPassed (nodes : List Node) (line : LogLine) : Type 0 where
  pub outer : List Node
  pub node : Node
  pub nodes_are : nodes ≡ outer ++ node ∷ []
  pub free : names line.lits node.path ≡ false

-- what is_passed says, of the lists that it was given
pub passed-from : (nodes given : List Node) (line : LogLine) (lits : List Literal) → given ≡ nodes → lits ≡ line.lits → ((outer : List Node) × (node : Node) × (given ≡ outer ++ node ∷ []) × (names lits node.path ≡ false)) → IsPassed nodes line
passed-from nodes given line lits same of_line p = record {
  outer = p.0;
  node = p.1;
  nodes_are = sym same ∙ p.2;
  free = subst (λ (ls : List Literal). names ls p.1.path ≡ false) of_line p.3;
}

module _ (first forward : ForwardState) (start walk : Walk) (found : Found) (log : LogState) (j : Jumping first forward start walk found log) (line : LogLine) (p : IsPassed walk.nodes.items line) where
  pub passed-pushed : (root : List Literal) (from now : World) → IsPrefix first.instance root → now.log ≡ log → ComesTo {E = AllocError} first.instance start.level root from start.nodes.items first.pushed now (Ok found) → 0 < length forward.pushed
  passed-pushed root from now prefix same comes = some-pushed AllocError first.instance start.level root from prefix walk.nodes.items p.outer p.node p.nodes_are forward.pushed now found (j.comes root from now prefix same comes)

  module _ (items : List Node) (items_are : items ≡ take (length walk.nodes.items - 1) walk.nodes.items) where
    pub popped-items : items ≡ p.outer
    popped-items = items_are ∙ front-of p.outer p.node walk.nodes.items p.nodes_are

    pub passed-smaller : length items < length walk.nodes.items
    passed-smaller = omega (arith, ap length popped-items, ap length p.nodes_are, length-append p.outer (p.node ∷ []))

    pub jumping-on : (n : ℕ) (tag : Tag) → found ≡ Settled (Own n) tag → slice_get log.lines n ≡ Some line → (later : ForwardState) → later ≡ without_last forward → (after : Walk) → after.nodes.items ≡ items → after.level ≡ walk.level → after.recall.first ≡ walk.recall.first → after.seen ≡ walk.seen → length after.plan.items ≡ length walk.plan.items → Jumping first later start after found log
    jumping-on n tag same there later popped after nodes_are level_is first_is seen_is room = record {
      ready = record { valid = j.ready.valid; level = subst (λ l. l ≤ levels_of first.instance) (sym level_is) j.ready.level; room = room ∙ j.ready.room };
      level_is = level_is ∙ j.level_is;
      first_is = first_is ∙ j.first_is;
      seen_is = seen_is ∙ j.seen_is;
      front = popped ∙ (ap (λ (s : ForwardState). without_last s) j.front ∙ sym (ap (λ (s : ForwardState). with_literals first s.pushed) (popped ∙ ap (λ (s : ForwardState). without_last s) j.front)));
      comes = λ root from now prefix log_is comes. subst (λ ns. ComesTo {E = AllocError} first.instance start.level root from ns later.pushed now (Ok found)) (sym (nodes_are ∙ popped-items))
          (jumps-over AllocError first.instance start.level root from prefix walk.nodes.items p.outer p.node p.nodes_are forward.pushed now found (j.comes root from now prefix log_is comes)
          n tag line same (subst (λ (l : LogState). slice_get l.lines n ≡ Some line) (sym log_is) there) p.free later.pushed (ap (λ (s : ForwardState). s.pushed) popped));
      lighter = λ fuel. omega (arith, j.lighter fuel, fewer-nodes walk.nodes.items p.outer p.node p.nodes_are fuel, ap (λ ns. work_left fuel ns) (nodes_are ∙ popped-items));
    }
