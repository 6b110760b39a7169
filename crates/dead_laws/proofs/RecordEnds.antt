-- The paths of a record that joins two of them.
use Rattle.std.proofs.Common.{◌≡◌, ℕ, ◌<◌, true, ◌||◌, length, subst, inl, inr, eqb, IsTrue}
use Rattle.std.proofs.lemmas.Bool.{and_parts, or_cases, eqb-true}
use Rattle.std.proofs.lemmas.List.Elements.{All-contains}
use Rattle.fapp_model.specs.declared.instance.Instance.{Instance}
use Rattle.fapp_model.specs.declared.record.Record.{Record}
use Rattle.fapp_model.specs.search.Clashes.{joins, shares_record}
use Rattle.fapp_model.specs.Instances.{IsInstance, IsRecord}
use Rattle.fapp_model.specs.Levels.{levels_of}
use Rattle.fapp_model.specs.Records.{first_path, second_path}
use Rattle.fapp_model.proofs.Anys.{passing}

pub joins-ends : (p q : ℕ) (r : Record) → joins p q r ≡ true → (first_path r ≡ p) × (second_path r ≡ q)
joins-ends p q r h =
    let parts = and_parts (eqb (first_path r) p) (eqb (second_path r) q) h in
    (eqb-true _ _ parts.0, eqb-true _ _ parts.1)

ends-range : (levels n p q : ℕ) (r : Record) → IsRecord levels n r → joins p q r ≡ true → (p < n) × (q < n)
ends-range levels n p q r v h =
    let ends = joins-ends p q r h in
    (subst (λ k. k < n) ends.0 v.first, subst (λ k. k < n) ends.1 v.second)

pub shares-range : (instance : Instance) → IsInstance instance → (p q : ℕ) → IsTrue (shares_record instance p q) → (p < length instance.paths) × (q < length instance.paths)
shares-range instance v p q h =
    let found = passing (λ r. joins p q r || joins q p r) instance.records h in
    let valid = All-contains (IsRecord (levels_of instance) (length instance.paths)) instance.records found.item v.records found.member in
    elim (or_cases (joins p q found.item) (joins q p found.item) found.passes) [
      | inl e ↦ ends-range (levels_of instance) (length instance.paths) p q found.item valid e
      | inr e ↦ let ends = ends-range (levels_of instance) (length instance.paths) q p found.item valid e in (ends.1, ends.0)
    ]
