-- What is so in the loop of the search.
use Rattle.std.proofs.Common.{◌≡◌, ℕ, List, [], ◌∷◌, ◌++◌, Result, Err, refl, sym, ap, subst, ◌∙◌}
use Rattle.std.specs.Result.{IsErr}
use Rattle.fapp_model.specs.declared.instance.Instance.{Instance}
use Rattle.fapp_model.specs.declared.literal.Literal.{Literal}
use Rattle.fapp_model.specs.search.Prefixes.{IsPrefix}
use Rattle.choice_counts.specs.ForwardStates.{ForwardState, with_literals}
use Rattle.settle_laws.specs.declared.found.Found.{Found}
use Rattle.settle_laws.specs.declared.node.Node.{Node}
use Rattle.settle_laws.specs.Founds.{Searched}
use Rattle.settle_laws.specs.OpenNodes.{IsTrying}
use Rattle.settle_laws.specs.Worlds.{World}
use Rattle.subtree_search.specs.declared.walk.Walk.{Walk}
use Rattle.subtree_search.specs.SearchSteps.{ComesTo, Opens}
use Rattle.subtree_search.specs.Walks.{BeginsAt, IsReady}
use Rattle.subtree_search.proofs.Closing.{err-as}

pub err-any : {E F : Type 0} → (instance : Instance) (level : ℕ) (literals : List Literal) (old new : World) (e : E) → Searched instance level literals old new (Err e) → (f : F) → Searched instance level literals old new (Err f)
err-any instance level literals old new e s f = record { keeps = s.keeps; few = s.few; read = s.read; is = tt; refused_at = s.refused_at; refused_count = s.refused_count; ticks = s.ticks; offered = tt; counted = tt }

pub searched-err : {E : Type 0} → (instance : Instance) (level : ℕ) (literals : List Literal) (old new : World) (result : Result Found E) → IsErr result → ((e : E) → Searched instance level literals old new (Err e)) → Searched instance level literals old new result
searched-err instance level literals old new result err f = let r = err-as result err in subst (λ o. Searched instance level literals old new o) (sym r.1) (f r.0)

-- in a node more, opened where none was open
pub opened-trying : (instance : Instance) (level : ℕ) (literals : List Literal) (nodes after : List Node) (old new : World) → nodes ≡ [] → Opens instance level literals nodes after old new → IsTrying instance level literals old after literals new
opened-trying instance level literals nodes after old new none o = record {
  outer = [];
  node = o.node;
  nodes_are = o.added ∙ ap (λ ns. ns ++ o.node ∷ []) none;
  inside = (refl, o.trying);
}

-- other literals are pushed than those that the search came to first
pub record Fronted (first forward : ForwardState) (level : ℕ) (walk : Walk) : Type 0 where
  pub front : forward ≡ with_literals first forward.pushed
  pub level_is : walk.level ≡ level
  pub ready : IsReady first.instance walk
  pub prefix : IsPrefix first.instance first.pushed

module _ (first forward : ForwardState) (level : ℕ) (walk : Walk) (e : Fronted first forward level walk) where
  pub same-instance : forward.instance ≡ first.instance
  same-instance = ap (λ (s : ForwardState). s.instance) e.front

  pub ready-here : IsReady forward.instance walk
  ready-here = subst (λ i. IsReady i walk) (sym same-instance) e.ready

  pub prefix-here : IsPrefix forward.instance first.pushed
  prefix-here = subst (λ i. IsPrefix i first.pushed) (sym same-instance) e.prefix

  -- a step more
  pub fronted-on : (later : ForwardState) → later ≡ with_literals forward later.pushed → (after : Walk) → after.level ≡ walk.level → IsReady forward.instance after → Fronted first later level after
  fronted-on later front after same ready = record {
    front = front ∙ ap (λ s. with_literals s later.pushed) e.front;
    level_is = same ∙ e.level_is;
    ready = subst (λ i. IsReady i after) same-instance ready;
    prefix = e.prefix;
  }

  module _ (from now : World) where
    pub trying-here : (nodes : List Node) (pushed : List Literal) → IsTrying first.instance level first.pushed from nodes pushed now → IsTrying forward.instance walk.level first.pushed from nodes pushed now
    trying-here nodes pushed t = subst (λ i. IsTrying i walk.level first.pushed from nodes pushed now) (sym same-instance)
        (subst (λ l. IsTrying first.instance l first.pushed from nodes pushed now) (sym e.level_is) t)

    pub trying-back : (nodes : List Node) (pushed : List Literal) → IsTrying forward.instance walk.level first.pushed from nodes pushed now → IsTrying first.instance level first.pushed from nodes pushed now
    trying-back nodes pushed t = subst (λ i. IsTrying i level first.pushed from nodes pushed now) same-instance
        (subst (λ l. IsTrying forward.instance l first.pushed from nodes pushed now) e.level_is t)

    pub comes-here : {E : Type 0} → (nodes : List Node) (pushed : List Literal) (result : Result Found E) → ComesTo first.instance level first.pushed from nodes pushed now result → ComesTo forward.instance walk.level first.pushed from nodes pushed now result
    comes-here nodes pushed result c = subst (λ i. ComesTo i walk.level first.pushed from nodes pushed now result) (sym same-instance)
        (subst (λ l. ComesTo first.instance l first.pushed from nodes pushed now result) (sym e.level_is) c)

    pub comes-back : {E : Type 0} → (nodes : List Node) (pushed : List Literal) (result : Result Found E) → ComesTo forward.instance walk.level first.pushed from nodes pushed now result → ComesTo first.instance level first.pushed from nodes pushed now result
    comes-back nodes pushed result c = subst (λ i. ComesTo i level first.pushed from nodes pushed now result) same-instance
        (subst (λ l. ComesTo forward.instance l first.pushed from nodes pushed now result) e.level_is c)

    pub searched-back : {E : Type 0} → (result : Result Found E) → Searched forward.instance walk.level first.pushed from now result → Searched first.instance level first.pushed from now result
    searched-back result s = subst (λ i. Searched i level first.pushed from now result) same-instance
        (subst (λ l. Searched forward.instance l first.pushed from now result) e.level_is s)

-- from the literals that the search came to first on, choices of the innermost node are tried
pub record Exploring (first forward : ForwardState) (level : ℕ) (from now : World) (walk : Walk) : Type 0 where
  pub fronted : Fronted first forward level walk
  pub begins : BeginsAt walk from
  pub trying : IsTrying first.instance level first.pushed from walk.nodes.items forward.pushed now
