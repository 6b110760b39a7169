-- What holds of tries.
use Rattle.std.specs.Prelude.{◌≡◌, ◌≢◌, ℕ, ◌+◌, ◌-◌, ◌<◌, ◌≤◌, Some, List, [], ◌∷◌, ◌++◌, length, take, slice_get, sum_by, All, AllPairs, Contains}
use Rattle.std.specs.List.{range_with_len}
use Rattle.fapp_model.specs.declared.instance.Instance.{Instance}
use Rattle.fapp_model.specs.declared.literal.Literal.{Literal}
use Rattle.fapp_model.specs.declared.triple.Triple.{Triple}
use Rattle.fapp_model.specs.Assignments.{count_at}
use Rattle.fapp_model.specs.search.Dead.{Dead}
use Rattle.fapp_model.specs.Instances.{IsInstance}
use Rattle.fapp_model.specs.search.Partials.{literal}
use Rattle.fapp_model.specs.search.Prefixes.{GoesOn, IsPrefix, extensions}
use Rattle.fapp_model.specs.Tags.{IsTagOf}
use Rattle.fapp_model.specs.search.Tries.{IsTries}
use Rattle.fapp_model.specs.search.WorkOrder.{work_order}

-- A prefix has one number of tries at a tag: at most one, and in a valid instance some.
pub record OneNumberOfTries : Type 0 where
  pub some : (instance : Instance) (t : Triple) (prefix : List Literal) → IsInstance instance →
      IsTagOf instance t →
      IsPrefix instance prefix → (n : ℕ) × IsTries instance t prefix n
  pub one : (instance : Instance) (t : Triple) (prefix : List Literal) (m n : ℕ) →
      IsTries instance t prefix m → IsTries instance t prefix n → m ≡ n

-- prefixes that go on from one, none dead at a tag, and with each longer one also the one that is
-- one shorter
pub record AreTried (instance : Instance) (t : Triple) (prefix : List Literal)
    (tried : List (List Literal)) : Type 0 where
  pub apart : AllPairs (λ a b. a ≢ b) tried
  pub prefixes : All (IsPrefix instance) tried
  pub go_on : All (GoesOn prefix) tried
  pub alive : All (λ literals. Dead instance t literals → ⊥) tried
  pub closed : All (λ literals. length prefix < length literals →
      Contains tried (take (length literals - 1) literals)) tried

-- Tries count prefixes: of prefixes that are not dead, with each the ones before it, there are at
-- most so many.
abbrev pub TriesCountPrefixes : Type 0
TriesCountPrefixes =
    (instance : Instance) (t : Triple) (prefix : List Literal) (tried : List (List Literal)) (n : ℕ)
    →
    IsPrefix instance prefix → IsTries instance t prefix n → AreTried instance t prefix tried →
    length tried ≤ n

-- Tries are at most the prefixes that go on from a prefix.
abbrev pub TriesAtMostPrefixes : Type 0
TriesAtMostPrefixes = (instance : Instance) (t : Triple) (prefix : List Literal) (n : ℕ) →
    IsTries instance t prefix n → n ≤ length (extensions instance prefix)

-- Tries go from a prefix to the next path of the work order: none where the prefix is dead, else
-- one and those of each choice of that path, or one where no path is left.
pub record TriesByNext : Type 0 where
  pub dead : (instance : Instance) (t : Triple) (prefix : List Literal) → Dead instance t prefix →
      IsTries instance t prefix 0
  pub last : (instance : Instance) (t : Triple) (prefix : List Literal) →
      (Dead instance t prefix → ⊥) →
      length instance.paths ≤ length prefix → IsTries instance t prefix 1
  pub next : (instance : Instance) (t : Triple) (prefix : List Literal) (path : ℕ) (tries : ℕ → ℕ) →
      (Dead instance t prefix → ⊥) → slice_get (work_order instance) (length prefix) ≡ Some path →
      ((index : ℕ) → index < count_at instance path →
      IsTries instance t (prefix ++ literal path index ∷ []) (tries index)) →
      IsTries instance t prefix (1 + sum_by tries (range_with_len 0 (count_at instance path)))
