-- Where the search of a job asks for fuel.
use Rattle.std.specs.Prelude.{◌≡◌, ℕ, ◌<◌, ◌≤◌, List, length, map, All, AllPairs, Contains}
use Rattle.fapp_model.specs.declared.instance.Instance.{Instance}
use Rattle.fapp_model.specs.declared.literal.Literal.{Literal}
use Rattle.fapp_model.specs.Costs.{cost}
use Rattle.fapp_model.specs.Least.{IsFeasible}
use Rattle.fapp_model.specs.Tags.{code_of, triple_from}
use Rattle.fapp_model.specs.search.Dead.{Dead}
use Rattle.fapp_model.specs.search.Partials.{Extends, HasAll}
use Rattle.search_log.specs.Contents.{KnownRow}
use Rattle.search_log.specs.Bounds.{floor}
use Rattle.search_log.specs.Shares.{known}
use Rattle.settle_laws.specs.Levels.{level_code, target_code}
use Rattle.settle_laws.specs.Worlds.{World}

-- a prefix, what the bound told there, and the rows that had been copied when it was looked up
pub record Stop : Type 0 where
  pub prefix : List Literal
  pub told : ℕ
  pub copied : List KnownRow

abbrev pub prefixes_of : List Stop → List (List Literal)
prefixes_of stops = map (λ (stop : Stop). stop.prefix) stops

-- a prefix where the search is, after the last reading and the last look-up
abbrev pub stop_at : World → List Literal → Stop
stop_at w literals = record { prefix = literals; told = w.bound.told; copied = w.shared.copied }

-- no row lies within some literals at a tag of at least so much
abbrev pub NoneFits : ℕ → List KnownRow → List Literal → Type 0
NoneFits target rows literals =
    All (λ row. HasAll literals row.content.lits → target ≤ row.content.tag → ⊥) rows

-- Neither the bound, nor a look-up, nor the test whether it is dead decided there. The target is
-- the lesser of the level's and of what the bound told there.
pub record IsUndecided (instance : Instance) (level : ℕ) (stop : Stop) : Type 0 where
  pub is_open : level_code level < stop.told
  pub rowless : NoneFits (target_code level stop.told) stop.copied stop.prefix
  pub alive : Dead instance (triple_from (target_code level stop.told)) stop.prefix → ⊥

-- a prefix names a choice of every path, and they are an assignment that meets the imperative
-- records
pub record IsWholePrefix (instance : Instance) (prefix : List Literal)
    (plan : List ℕ) : Type 0 where
  pub full : length prefix ≡ length instance.paths
  pub feasible : IsFeasible instance plan
  pub extends : Extends plan prefix

-- The bound was read anew: it told no more than before, and no more than the cost of an assignment
-- that was come to before.
pub record Precedes (instance : Instance) (earlier later : Stop) : Type 0 where
  pub told : later.told ≤ earlier.told
  pub copied : All (Contains later.copied) earlier.copied
  pub cost : (plan : List ℕ) → IsWholePrefix instance earlier.prefix plan →
      later.told ≤ code_of (cost instance plan)

-- it told no more than what had been told and offered, and all rows that were known had been copied
pub record ComesAfter (old : World) (stop : Stop) : Type 0 where
  pub told : stop.told ≤ floor old.bound
  pub copied : All (Contains stop.copied) (known old.shared)

-- it told no less than what was told last, and the rows copied by then are still copied
pub record ComesBefore (new : World) (stop : Stop) : Type 0 where
  pub told : new.bound.told ≤ stop.told
  pub copied : All (Contains new.shared.copied) stop.copied

-- the stops on some prefixes, in their order, none decided before fuel was asked for
pub record AreStops (instance : Instance) (level : ℕ) (old new : World)
    (prefixes : List (List Literal)) : Type 0 where
  pub stops : List Stop
  pub are : prefixes_of stops ≡ prefixes
  pub undecided : All (IsUndecided instance level) stops
  pub in_order : AllPairs (Precedes instance) stops
  pub after : All (ComesAfter old) stops
  pub before : All (ComesBefore new) stops
