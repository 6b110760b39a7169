-- Partial assignments that name the first few paths of a list, in its order.
use Rattle.std.specs.Prelude.{◌≡◌, ℕ, ◌<◌, ◌⊎◌, List, [], ◌∷◌, ◌++◌, length, drop, map, flat_map}
use Rattle.std.specs.List.{range_with_len}
use Rattle.fapp_model.specs.declared.instance.Instance.{Instance}
use Rattle.fapp_model.specs.declared.literal.Literal.{Literal}
use Rattle.fapp_model.specs.Assignments.{count_at}
use Rattle.fapp_model.specs.search.Partials.{literal}
use Rattle.fapp_model.specs.search.WorkOrder.{work_order}

-- choices of the first few paths of a list, one after another
abbrev pub IsAlong : Instance → List ℕ → List Literal → Type 0
IsAlong instance paths [] = Unit {0}
IsAlong instance [] (a ∷ more) = ⊥
IsAlong instance (path ∷ paths) (a ∷ more) =
    (a.path ≡ path) × (a.choice < count_at instance path) × IsAlong instance paths more

-- a prefix: choices of the first few paths of the work order
abbrev pub IsPrefix : Instance → List Literal → Type 0
IsPrefix instance literals = IsAlong instance (work_order instance) literals

-- a list of literals goes on where another ends
abbrev pub GoesOn : List Literal → List Literal → Type 0
GoesOn start literals = (more : List Literal) × (literals ≡ start ++ more)

-- the lists that one choice of a path and each of some lists make, by the choices' indices
abbrev pub one_more : Instance → ℕ → List (List Literal) → List (List Literal)
one_more instance path lists =
    flat_map (λ index. map (λ more. literal path index ∷ more) lists)
    (range_with_len 0 (count_at instance path))

-- all lists of choices of the first few of some paths: that of none, and those that begin with each
-- choice of the first
abbrev pub lists_along : Instance → List ℕ → List (List Literal)
lists_along instance [] = [] ∷ []
lists_along instance (path ∷ paths) = [] ∷ one_more instance path (lists_along instance paths)

-- all prefixes that go on from a prefix, itself among them
abbrev pub extensions : Instance → List Literal → List (List Literal)
extensions instance prefix =
    map (λ more. prefix ++ more) (lists_along instance (drop (length prefix) (work_order instance)))

-- all lists of choices of all of some paths
abbrev pub choice_lists : Instance → List ℕ → List (List Literal)
choice_lists instance [] = [] ∷ []
choice_lists instance (path ∷ paths) = one_more instance path (choice_lists instance paths)

-- lists of literals as their choices' indices order them
abbrev pub IsListBefore : List Literal → List Literal → Type 0
IsListBefore [] more = ⊥
IsListBefore (a ∷ more) [] = ⊥
IsListBefore (a ∷ more) (b ∷ others) =
    (a.choice < b.choice) ⊎ ((a.choice ≡ b.choice) × IsListBefore more others)
