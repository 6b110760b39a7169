-- What the indexes have, and in which order.
use Rattle.std.proofs.Common.{◌≡◌, ◌↔◌, ℕ, ◌+◌, ◌<◌, Bool, true, false, ◌||◌, [], ◌∷◌, length, add-zero, refl, sym, ap, ◌∙◌, AllPairs, Contains, IsTrue}
use Rattle.std.specs.List.{range_with_len}
use Rattle.std.proofs.lemmas.List.Elements.{filter_agree}
use Rattle.std.proofs.lemmas.List.Kept.{AllPairs-filter}
use Rattle.std.proofs.lemmas.List.Sums.{sum_by-cons}
use Rattle.fapp_model.specs.declared.choice.Choice.{Choice}
use Rattle.fapp_model.specs.declared.instance.Instance.{Instance}
use Rattle.fapp_model.specs.declared.literal.Literal.{Literal}
use Rattle.fapp_model.specs.declared.record.Record.{Record}
use Rattle.fapp_model.specs.search.Clashes.{joins, shares_record}
use Rattle.fapp_model.specs.search.Pairs.{Pair}
use Rattle.fapp_model.specs.search.Weights.{added, added_pair, bad_before, bad_further, between}
use Rattle.fapp_model.proofs.Members.{from-filter, from-range, in-filter, in-range}
use Rattle.fapp_model.proofs.InOrder.{rising}
use Rattle.fapp_tables.specs.Indexes.{neighbours_of, record_at, records_of, touches}
use Rattle.fapp_tables.specs.Measures.{both_between, pair_between}

pub neighbours-members : (instance : Instance) (path other : ℕ) → Contains (neighbours_of instance path) other ↔ ((other < length instance.paths) × IsTrue (shares_record instance path other))
neighbours-members instance path other = (
  λ m. let f = from-filter (shares_record instance path) (range_with_len 0 (length instance.paths)) other m in (from-range (length instance.paths) other f.0, f.1),
  λ h. in-filter (shares_record instance path) (range_with_len 0 (length instance.paths)) other (in-range (length instance.paths) other h.0) h.1,
)

pub neighbours-rise : (instance : Instance) (path : ℕ) → AllPairs (λ a b. a < b) (neighbours_of instance path)
neighbours-rise instance path = AllPairs-filter (λ a b. a < b) (shares_record instance path) (range_with_len 0 (length instance.paths)) (rising 0 (length instance.paths))

pub records-members : (instance : Instance) (path other k : ℕ) → Contains (records_of instance path other) k ↔ ((k < length instance.records) × IsTrue (touches path other (record_at instance k)))
records-members instance path other k = (
  λ m. let f = from-filter (λ p. touches path other (record_at instance p)) (range_with_len 0 (length instance.records)) k m in (from-range (length instance.records) k f.0, f.1),
  λ h. in-filter (λ p. touches path other (record_at instance p)) (range_with_len 0 (length instance.records)) k (in-range (length instance.records) k h.0) h.1,
)

pub records-rise : (instance : Instance) (path other : ℕ) → AllPairs (λ a b. a < b) (records_of instance path other)
records-rise instance path other = AllPairs-filter (λ a b. a < b) (λ k. touches path other (record_at instance k)) (range_with_len 0 (length instance.records)) (rising 0 (length instance.records))

either : (x y : Bool) → (x || y) ≡ (y || x)
either true true = refl
either true false = refl
either false true = refl
either false false = refl

pub records-turned : (instance : Instance) (path other : ℕ) → records_of instance path other ≡ records_of instance other path
records-turned instance path other =
    filter_agree (λ k. touches path other (record_at instance k)) (λ k. touches other path (record_at instance k))
    (λ k. either (joins path other (record_at instance k)) (joins other path (record_at instance k))) (range_with_len 0 (length instance.records))

both-added : (instance : Instance) (measure : Record → Choice → Choice → ℕ) (a b : Literal) → both_between instance measure a b ≡ added instance measure (b ∷ []) a
both-added instance measure a b =
    sym (sum_by-cons (λ c. between instance measure a c + between instance measure c a) b [] ∙ add-zero (both_between instance measure a b))

pub pair-added : (instance : Instance) (level : ℕ) (a b : Literal) → pair_between instance level a b ≡ added_pair instance level (b ∷ []) a
pair-added instance level a b =
    let v = both-added instance (bad_before level) a b in
    let s = both-added instance (bad_further level) a b in
    let build : ℕ → ℕ → Pair = λ v s. record { v = v; s = s } in
    ap (λ n. build n (both_between instance (bad_further level) a b)) v ∙ ap (build (added instance (bad_before level) (b ∷ []) a)) s
