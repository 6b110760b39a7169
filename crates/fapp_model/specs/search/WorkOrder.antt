-- The order in which paths are taken: those that most records name come first.
use Rattle.std.specs.Prelude.{ℕ, ◌<◌, Bool, ◌&&◌, ◌||◌, ◌==◌, nat_lt, if◌then◌else◌, List, [], ◌∷◌, length, count_by, IsTrue, All, AllPairs, Contains}
use Rattle.std.specs.List.{range_with_len}
use Rattle.fapp_model.specs.declared.instance.Instance.{Instance}
use Rattle.fapp_model.specs.declared.record.Record.{Record}
use Rattle.fapp_model.specs.Records.{first_path, second_path}

-- a record names a path
abbrev pub names_path : ℕ → Record → Bool
names_path path r = (first_path r == path) || (second_path r == path)

-- how many records name a path
abbrev pub degree : Instance → ℕ → ℕ
degree instance path = count_by (names_path path) instance.records

-- more records name the first path than the second, or as many and it stands earlier in the
-- instance
abbrev pub comes_before : Instance → ℕ → ℕ → Bool
comes_before instance a b =
    nat_lt (degree instance b) (degree instance a)
    || ((degree instance a == degree instance b) && nat_lt a b)

-- each path of the instance, each before all that it comes before
pub record IsWorkOrder (instance : Instance) (order : List ℕ) : Type 0 where
  pub in_range : All (λ path. path < length instance.paths) order
  pub whole : (path : ℕ) → path < length instance.paths → Contains order path
  pub ordered : AllPairs (λ a b. IsTrue (comes_before instance a b)) order

-- a number put into a list, in front of the first that it comes before
abbrev pub put_in : (ℕ → ℕ → Bool) → ℕ → List ℕ → List ℕ
put_in before a [] = a ∷ []
put_in before a (b ∷ bs) = if before a b then (a ∷ b ∷ bs) else (b ∷ put_in before a bs)

-- the numbers of a list, put in one by one
abbrev pub put_all : (ℕ → ℕ → Bool) → List ℕ → List ℕ
put_all before [] = []
put_all before (a ∷ more) = put_in before a (put_all before more)

-- the one work order of an instance
unfoldable pub work_order : Instance → List ℕ
work_order instance = put_all (comes_before instance) (range_with_len 0 (length instance.paths))
