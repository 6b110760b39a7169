-- The steps of a plan: their paths differ, and the lists along them are the prefixes.
use Rattle.std.proofs.Common.{◌≡◌, ◌≢◌, ℕ, ◌<◌, List, [], ◌∷◌, ◌++◌, map, take, All, AllPairs, IsTrue, refl, sym, ap, ◌∙◌, subst, arith}
use Rattle.std.proofs.lemmas.Bool.{lt-leb}
use Rattle.std.proofs.lemmas.List.{get_or-take, length-take}
use Rattle.std.proofs.lemmas.List.Elements.{All-cons, All-nil}
use Rattle.fapp_model.specs.declared.instance.Instance.{Instance}
use Rattle.fapp_model.specs.declared.literal.Literal.{Literal}
use Rattle.fapp_model.specs.search.Jobs.{depth, prefixes}
use Rattle.fapp_model.specs.search.WorkOrder.{work_order, comes_before, degree}
use Rattle.fapp_model.proofs.InOrder.{pairs-weaker}
use Rattle.fapp_model.proofs.WorkOrders.{order-is, first-asym}
use Rattle.fapp_plan.specs.declared.steps.Step.{Step}
use Rattle.fapp_plan.specs.NamedPaths.{prefix_paths, steps_along}
use Rattle.fapp_model.specs.declared.tag.Tag.{Tag}
use Rattle.fapp_plan.specs.Outcomes.{Placed}
use Rattle.merge_laws.specs.Certificates.{finished}
use Rattle.merge_laws.specs.Levels.{all_longer, emit_tree}
use Rattle.merge_laws.specs.Refuted.{prefix_number}
use Rattle.merge_laws.specs.Stages.{Merged}
use Rattle.merge_laws.proofs.BottomLists.{bottom, bottom-all}
use Rattle.cert_merge.specs.Growth.{AreWithSteps, IsStepOf, deepest, step_paths}

order-differs : (instance : Instance) → AllPairs (λ p q. p ≢ q) (work_order instance)
order-differs instance =
    pairs-weaker (λ a b. IsTrue (comes_before instance a b)) (λ p q. p ≢ q)
    (λ p q before e.
    let loop : IsTrue (comes_before instance q q) = subst (λ z. IsTrue (comes_before instance z q)) e before in
    first-asym (degree instance q) (degree instance q) q q loop loop)
    (work_order instance) (order-is instance).ordered

front-differs : (n : ℕ) (xs : List ℕ) → AllPairs (λ p q. p ≢ q) xs → AllPairs (λ p q. p ≢ q) (take n xs)
front-differs n xs h i j d before inside =
    let few = length-take n xs in
    let first = get_or-take n xs i d (omega arith) in
    let second = get_or-take n xs j d (omega arith) in
    λ same. h i j d before (omega arith) (sym first ∙ (same ∙ second))

pub paths-are : (instance : Instance) (paths : List ℕ) → step_paths (steps_along instance paths) ≡ paths
paths-are instance [] = refl
paths-are instance (path ∷ paths) = ap (λ ps. path ∷ ps) (paths-are instance paths)

-- the steps have their paths' numbers of choices
pub counts-are : (instance : Instance) (paths : List ℕ) → All (IsStepOf instance) (steps_along instance paths)
counts-are instance [] = All-nil (IsStepOf instance)
counts-are instance (path ∷ paths) = All-cons (IsStepOf instance) _ (steps_along instance paths) refl (counts-are instance paths)

deepest-is : (instance : Instance) (paths : List ℕ) (lists : List (List Literal)) → deepest instance paths lists ≡ bottom instance paths lists
deepest-is instance [] lists = refl
deepest-is instance (path ∷ paths) lists = deepest-is instance paths (all_longer instance path lists)

module _ (instance : Instance) (split : ℕ) (steps : List Step) (is : steps ≡ steps_along instance (prefix_paths instance split)) where
  pub plan-paths : step_paths steps ≡ prefix_paths instance split
  plan-paths = ap step_paths is ∙ paths-are instance (prefix_paths instance split)

  pub plan-differs : AreWithSteps (step_paths steps) ([] ∷ [])
  plan-differs = All-cons (λ (list : List Literal). AllPairs (λ p q. p ≢ q) (map (λ a. a.path) list ++ step_paths steps)) [] []
      (subst (AllPairs (λ p q. p ≢ q)) (sym plan-paths) (front-differs (depth instance split) (work_order instance) (order-differs instance)))
      (All-nil (λ (list : List Literal). AllPairs (λ p q. p ≢ q) (map (λ a. a.path) list ++ step_paths steps)))

  pub plan-deepest : deepest instance (step_paths steps) ([] ∷ []) ≡ prefixes instance split
  plan-deepest = deepest-is instance (step_paths steps) ([] ∷ []) ∙ (ap (λ ps. bottom instance ps ([] ∷ [])) plan-paths ∙ bottom-all instance (prefix_paths instance split))

-- the tree stands where the arcs' root tag is lower
pub finished-above : (instance : Instance) (split : ℕ) (outcomes : List Placed) (t : Tag) (root : ℕ) (s : Merged) → root < t.code →
    finished instance split outcomes t root s ≡ emit_tree instance t (prefix_number instance outcomes t.code s) (prefix_paths instance split) ([] ∷ []) s.out
finished-above instance split outcomes t root s low = rw (lt-leb t.code root low) refl
