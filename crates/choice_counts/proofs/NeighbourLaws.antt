-- The neighbours of a path, by their places.
use Rattle.std.proofs.Common.{◌≡◌, ℕ, ◌<◌, true, ◌||◌, length, get_or, sym, ◌∙◌, inl, inr, Contains}
use Rattle.std.proofs.lemmas.Bool.{or_cases}
use Rattle.std.proofs.lemmas.List.Elements.{All-contains, Contains-get_or}
use Rattle.fapp_model.specs.declared.instance.Instance.{Instance}
use Rattle.fapp_model.specs.Instances.{IsInstance, IsRecord}
use Rattle.fapp_model.specs.Levels.{levels_of}
use Rattle.fapp_model.specs.search.Clashes.{joins, shares_record}
use Rattle.fapp_model.proofs.Anys.{passing}
use Rattle.fapp_tables.specs.Indexes.{neighbours_of}
use Rattle.fapp_tables.proofs.IndexMembers.{neighbours-members}
use Rattle.dead_laws.proofs.RecordEnds.{joins-ends}

module _ (instance : Instance) (path : ℕ) where
  member : (i : ℕ) → i < length (neighbours_of instance path) → Contains (neighbours_of instance path) (get_or (neighbours_of instance path) i 0)
  member i inside = Contains-get_or (neighbours_of instance path) i 0 inside

  pub near_below : (i : ℕ) → i < length (neighbours_of instance path) → get_or (neighbours_of instance path) i 0 < length instance.paths
  near_below i inside = ((neighbours-members instance path (get_or (neighbours_of instance path) i 0)).0 (member i inside)).0

  pub near_shares : (i : ℕ) → i < length (neighbours_of instance path) → shares_record instance path (get_or (neighbours_of instance path) i 0) ≡ true
  near_shares i inside = ((neighbours-members instance path (get_or (neighbours_of instance path) i 0)).0 (member i inside)).1

-- a path shares no record with itself
pub shares_apart : (instance : Instance) → IsInstance instance → (path other : ℕ) → shares_record instance path other ≡ true → path ≡ other → ⊥
shares_apart instance valid path other shares same =
    let found = passing (λ r. joins path other r || joins other path r) instance.records shares in
    let record_valid = All-contains (IsRecord (levels_of instance) (length instance.paths)) instance.records found.item valid.records found.member in
    elim (or_cases (joins path other found.item) (joins other path found.item) found.passes) [
      | inl e ↦ let ends = joins-ends path other found.item e in record_valid.different (ends.0 ∙ (same ∙ sym ends.1))
      | inr e ↦ let ends = joins-ends other path found.item e in record_valid.different (ends.0 ∙ (sym same ∙ sym ends.1))
    ]
