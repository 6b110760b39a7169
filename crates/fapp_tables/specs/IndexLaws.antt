-- What holds of the indexes and of weights.
use Rattle.std.specs.Prelude.{◌≡◌, ◌↔◌, ℕ, ◌<◌, [], ◌∷◌, length, AllPairs, Contains, IsTrue}
use Rattle.fapp_model.specs.declared.instance.Instance.{Instance}
use Rattle.fapp_model.specs.declared.literal.Literal.{Literal}
use Rattle.fapp_model.specs.search.Clashes.{shares_record}
use Rattle.fapp_model.specs.search.Weights.{added_pair}
use Rattle.fapp_tables.specs.Indexes.{neighbours_of, record_at, records_of, touches}
use Rattle.fapp_tables.specs.Measures.{pair_between}

-- The neighbours of a path are the paths that share a record with it, ascending.
pub record NeighboursShareRecords : Type 0 where
  pub members : (instance : Instance) (path other : ℕ) →
      Contains (neighbours_of instance path) other ↔ ((other < length instance.paths)
      × IsTrue (shares_record instance path other))
  pub ascending : (instance : Instance) (path : ℕ) →
      AllPairs (λ a b. a < b) (neighbours_of instance path)

-- The records between two paths are those that name both, ascending, whichever of the two comes
-- first.
pub record RecordsNameBoth : Type 0 where
  pub members : (instance : Instance) (path other k : ℕ) →
      Contains (records_of instance path other) k ↔ ((k < length instance.records)
      × IsTrue (touches path other (record_at instance k)))
  pub ascending : (instance : Instance) (path other : ℕ) →
      AllPairs (λ a b. a < b) (records_of instance path other)
  pub turned : (instance : Instance) (path other : ℕ) →
      records_of instance path other ≡ records_of instance other path

-- The pair between two literals is what either adds against the other.
abbrev pub PairsAreAdded : Type 0
PairsAreAdded = (instance : Instance) (level : ℕ) (a b : Literal) →
    pair_between instance level a b ≡ added_pair instance level (b ∷ []) a
