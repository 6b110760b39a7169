-- What holds of prefixes and of the lists of them.
use Rattle.std.specs.Prelude.{◌≡◌, ◌≢◌, ◌↔◌, ℕ, ◌+◌, ◌/◌, ◌%◌, ◌<◌, List, [], ◌∷◌, length, take, slice_index_or, sum_by, AllPairs, Contains}
use Rattle.std.specs.List.{range_with_len}
use Rattle.fapp_model.specs.declared.instance.Instance.{Instance}
use Rattle.fapp_model.specs.declared.literal.Literal.{Literal}
use Rattle.fapp_model.specs.search.Jobs.{ways}
use Rattle.fapp_model.specs.search.Partials.{IsPartial, literal}
use Rattle.fapp_model.specs.search.Prefixes.{GoesOn, IsAlong, IsListBefore, IsPrefix, choice_lists, extensions, lists_along}

-- A prefix is a partial assignment.
abbrev pub PrefixesArePartial : Type 0
PrefixesArePartial =
    (instance : Instance) (prefix : List Literal) → IsPrefix instance prefix →
    IsPartial instance prefix

-- The extensions of a prefix are all prefixes that go on from it, each once.
pub record ExtensionsAreAll : Type 0 where
  pub all : (instance : Instance) (prefix literals : List Literal) → IsPrefix instance prefix →
      Contains (extensions instance prefix) literals ↔ (IsPrefix instance literals
      × GoesOn prefix literals)
  pub once : (instance : Instance) (prefix : List Literal) →
      AllPairs (λ a b. a ≢ b) (extensions instance prefix)

-- The lists along the first few of some paths are all that there are, each once.
pub record ListsAlongAreAll : Type 0 where
  pub all : (instance : Instance) (paths : List ℕ) (literals : List Literal) →
      Contains (lists_along instance paths) literals ↔ IsAlong instance paths literals
  pub once : (instance : Instance) (paths : List ℕ) →
      AllPairs (λ a b. a ≢ b) (lists_along instance paths)

-- The lists along all of some paths are all that there are, each once and in the order of their
-- choices' indices. They are as many as the numbers of choices multiply to.
pub record ChoiceListsAreAll : Type 0 where
  pub all : (instance : Instance) (paths : List ℕ) (literals : List Literal) →
      Contains (choice_lists instance paths) literals ↔ (IsAlong instance paths literals
      × (length literals ≡ length paths))
  pub ordered : (instance : Instance) (paths : List ℕ) →
      AllPairs IsListBefore (choice_lists instance paths)
  pub once : (instance : Instance) (paths : List ℕ) →
      AllPairs (λ a b. a ≢ b) (choice_lists instance paths)
  pub count : (instance : Instance) (paths : List ℕ) →
      length (choice_lists instance paths) ≡ ways instance paths

-- The list of choices of all paths at a place: with the place's quotient by the ways of the paths
-- behind, the first choice, and with the remainder the others.
abbrev pub ChoiceListsByPlace : Type 0
ChoiceListsByPlace =
    (instance : Instance) (path : ℕ) (paths : List ℕ) (place : ℕ) →
    place < ways instance (path ∷ paths) →
    slice_index_or (choice_lists instance (path ∷ paths)) place [] ≡
    literal path (place / ways instance paths)
    ∷ slice_index_or (choice_lists instance paths) (place % ways instance paths) []

-- The lists along the first few of some paths are as many as those along none, one, two and so on
-- of them together.
abbrev pub ListsAlongByLength : Type 0
ListsAlongByLength = (instance : Instance) (paths : List ℕ) → length (lists_along instance paths) ≡
    sum_by (λ n. length (choice_lists instance (take n paths)))
    (range_with_len 0 (length paths + 1))
