-- What a visit answers.
use Rattle.std.proofs.Common.{◌≡◌, ℕ, ◌<◌, ◌≤◌, List, ◌++◌, length, take, drop, get_or, All, Option, Some, Result, Ok, Err, sym, ap, subst, ◌∙◌, arith}
use Rattle.std.specs.List.{slice_get}
use Rattle.std.proofs.lemmas.List.{get_or_default, length-append, length-drop, length-take}
use Rattle.std.proofs.lemmas.List.Elements.{All-get_or}
use Rattle.std.proofs.lemmas.Option.{slice_get-get_or}
use Rattle.std.specs.Result.{IsErr}
use Rattle.fapp_model.specs.declared.instance.Instance.{Instance}
use Rattle.fapp_model.specs.declared.instance.Path.{Path}
use Rattle.fapp_model.specs.declared.literal.Literal.{Literal}
use Rattle.fapp_model.specs.Assignments.{count_at, no_path}
use Rattle.fapp_model.specs.Choices.{choices}
use Rattle.fapp_model.specs.Instances.{IsInstance, IsPath}
use Rattle.fapp_model.specs.search.Prefixes.{IsPrefix}
use Rattle.fapp_model.specs.search.WorkOrder.{work_order}
use Rattle.settle_laws.specs.declared.found.Found.{Found}
use Rattle.settle_laws.specs.declared.node.Node.{Node}
use Rattle.settle_laws.specs.Founds.{Searched}
use Rattle.settle_laws.specs.Worlds.{World}
use Rattle.settle_laws.proofs.NextPaths.{next-small}
use Rattle.subtree_search.specs.SearchSteps.{IsVisited}

pub visited-err : {E : Type 0} → (instance : Instance) (level : ℕ) (literals : List Literal) (nodes after : List Node) (old new : World) (result : Result (Option Found) E) → IsErr result →
    ((e : E) → Searched instance level literals old new (Err e)) → IsVisited instance level literals nodes after old new result
visited-err instance level literals nodes after old new (Ok o) err f = cc
visited-err instance level literals nodes after old new (Err e) err f = f e

module _ (instance : Instance) (literals : List Literal) (order : List ℕ) (pushed : List Literal) (order_is : order ≡ work_order instance) (pushed_is : pushed ≡ literals) where
  pub full-length : length order ≤ length pushed → length (work_order instance) ≤ length literals
  full-length l = omega (arith, ap length order_is, ap length pushed_is)

  pub next-at : length pushed < length order → slice_get (work_order instance) (length literals) ≡ Some (get_or order (length pushed) 0)
  next-at l = subst (λ (xs : List Literal). slice_get (work_order instance) (length xs) ≡ Some (get_or order (length pushed) 0)) pushed_is
      (subst (λ xs. slice_get xs (length pushed) ≡ Some (get_or order (length pushed) 0)) order_is (slice_get-get_or order (length pushed) 0 l))

  pub path-within : IsPrefix instance literals → length pushed < length order → (paths : List Path) → paths ≡ instance.paths → get_or order (length pushed) 0 < length paths
  path-within prefix l paths same = omega (arith, next-small instance literals prefix (get_or order (length pushed) 0) (next-at l), ap length same)

-- what stands in a vector after a slice of all of it was written
pub written-length : (items new : List ℕ) (n : ℕ) → n ≡ length items → length new ≡ length items → length (take n (new ++ drop (length new) items)) ≡ length items
written-length items new n whole same = simp (length-take, length-append, length-drop) (omega arith)

-- a path that was read
module _ (instance : Instance) (paths : List Path) (same : paths ≡ instance.paths) (n : ℕ) (path : Path) (small : n < length paths) (read : path ≡ get_or paths n path) where
  pub path-valid : IsInstance instance → IsPath path
  path-valid valid = subst IsPath (sym read) (All-get_or IsPath paths n path small (subst (All IsPath) (sym same) valid.paths))

  pub path-count : length (choices path) ≡ count_at instance n
  path-count = ap (λ (p : Path). length (choices p)) (read ∙ (get_or_default paths n path no_path small ∙ ap (λ (ps : List Path). get_or ps n no_path) same))
