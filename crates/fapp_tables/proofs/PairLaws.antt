-- The records between two paths, by their positions.
use Rattle.std.proofs.Common.{◌≡◌, ◌≢◌, ℕ, zero, suc, ◌+◌, ◌<◌, ◌≤◌, Bool, true, false, cond, eqb, List, [], ◌∷◌, add-zero, add-one, zero-add, length, get_or, filter, refl, sym, ap, ◌∙◌, arith, sum_by, All}
use Rattle.std.specs.List.{range_with_len}
use Rattle.std.proofs.lemmas.Bool.{eqb-true, eq-eqb, ne_eqb, and_parts, and_left, cond-true, cond-false, or_parts}
use Rattle.std.proofs.lemmas.List.Sums.{sum_by-cons, length-filter, count_by-le-length}
use Rattle.std.proofs.lemmas.List.Elements.{All-filter, Contains-get_or}
use Rattle.std.proofs.lemmas.List.FromFn.{length-range_with_len}
use Rattle.fapp_model.specs.declared.choice.Choice.{Choice}
use Rattle.fapp_model.specs.declared.instance.Instance.{Instance}
use Rattle.fapp_model.specs.declared.limits.TheConstants.{MAX_RECORDS}
use Rattle.fapp_model.specs.declared.literal.Literal.{Literal}
use Rattle.fapp_model.specs.declared.record.Record.{Record}
use Rattle.fapp_model.specs.search.Clashes.{joins, shares_record}
use Rattle.fapp_model.specs.Instances.{IsInstance}
use Rattle.fapp_tables.specs.Heights.{DistancesFall}
use Rattle.fapp_tables.proofs.HeightLaws.{DistancesFall-is}
use Rattle.fapp_model.specs.Levels.{levels_of}
use Rattle.fapp_model.specs.search.Partials.{choice_of}
use Rattle.fapp_model.specs.Records.{first_path, second_path}
use Rattle.fapp_model.proofs.Anys.{none-member}
use Rattle.fapp_model.proofs.Members.{All-range}
use Rattle.fapp_model.proofs.Sums.{sum_by-same-members, sum_by-add, sum_by-none}
use Rattle.fapp_tables.specs.Indexes.{between_choices, no_record, record_at, records_of, touches, turned}
use Rattle.fapp_tables.specs.Measures.{both_between}

filter-step : {X : Type 0} (f : X → ℕ) (p : X → Bool) (x : X) (xs : List X) (b : Bool) (n : ℕ) → sum_by f (filter p xs) ≡ n → sum_by f (cond b (x ∷ filter p xs) (filter p xs)) ≡ cond b (f x) 0 + n
filter-step f p x xs true n e = sum_by-cons f x (filter p xs) ∙ ap (λ k. f x + k) e
filter-step f p x xs false n e = e ∙ sym (zero-add n)

-- a sum over what a filter keeps
pub sum_by-filter : {X : Type 0} (f : X → ℕ) (p : X → Bool) (xs : List X) → sum_by f (filter p xs) ≡ sum_by (λ x. cond (p x) (f x) 0) xs
sum_by-filter f p [] = refl
sum_by-filter f p (x ∷ xs) = filter-step f p x xs (p x) _ (sum_by-filter f p xs) ∙ sym (sum_by-cons (λ y. cond (p y) (f y) 0) x xs)

shift : (g : ℕ → ℕ) (a n : ℕ) → sum_by g (range_with_len (a + 1) n) ≡ sum_by (λ k. g (k + 1)) (range_with_len a n)
shift g a zero = refl
shift g a (suc n) = sum_by-cons g (a + 1) (range_with_len (a + 1 + 1) n) ∙ (ap (λ s. g (a + 1) + s) (shift g (a + 1) n) ∙ sym (sum_by-cons (λ k. g (k + 1)) a (range_with_len (a + 1) n)))

-- a sum over the positions of a list
pub sum_by-positions : {X : Type 0} (f : X → ℕ) (d : X) (xs : List X) → sum_by (λ k. f (get_or xs k d)) (range_with_len 0 (length xs)) ≡ sum_by f xs
sum_by-positions f d [] = refl
sum_by-positions f d (x ∷ xs) =
    let all : ℕ → ℕ = λ k. f (get_or (x ∷ xs) k d) in
    let later : sum_by (λ k. all (k + 1)) (range_with_len 0 (length xs)) ≡ sum_by f xs =
    sum_by-same-members (λ k. all (k + 1)) (λ k. f (get_or xs k d)) (range_with_len 0 (length xs)) (All-range (λ k. all (k + 1) ≡ f (get_or xs k d)) (length xs) (λ k _. ap all (add-one k))) ∙ sum_by-positions f d xs in
    sum_by-cons all 0 (range_with_len (0 + 1) (length xs)) ∙ (ap (λ s. f x + s) (shift all 0 (length xs) ∙ later) ∙ sym (sum_by-cons f x xs))

everywhere : {X : Type 0} (P : X → Type 0) → ((x : X) → P x) → (xs : List X) → All P xs
everywhere P each xs = λ k d inside. each (get_or xs k d)

module _ (measure : Record → Choice → Choice → ℕ) (path other : ℕ) (apart : path ≢ other) (a b : Choice) where
  abbrev part : Record → ℕ
  part r = cond (joins path other r) (measure r a b) 0 + cond (joins other path r) (measure r b a) 0

  abbrev found : Record → ℕ
  found r = cond (touches path other r) (turned measure path a b r) 0

  same_part : (r : Record) → (s t : Bool) → joins path other r ≡ s → joins other path r ≡ t → found r ≡ part r
  same_part r true t e o =
      let first = (and_parts (eqb (first_path r) path) (eqb (second_path r) other) e).0 in
      let not_second : joins other path r ≡ false = and_left (eqb (first_path r) other) (eqb (second_path r) path) (ne_eqb _ _ (λ same. apart (sym (eqb-true _ _ first) ∙ same))) in
      rw (e, not_second, first) (sym (add-zero (measure r a b)))
  same_part r false true e o =
      let first = (and_parts (eqb (first_path r) other) (eqb (second_path r) path) o).0 in
      let not_first : eqb (first_path r) path ≡ false = ne_eqb _ _ (λ same. apart (sym same ∙ eqb-true _ _ first)) in
      rw (e, o, not_first) (sym (zero-add (measure r b a)))
  same_part r false false e o = rw (e, o) refl

  -- a sum over the records between two paths, by their positions
  pub over_positions : (instance : Instance) → sum_by (λ k. turned measure path a b (record_at instance k)) (records_of instance path other) ≡ between_choices instance measure path other a b
  over_positions instance =
      sum_by-filter (λ k. turned measure path a b (record_at instance k)) (λ k. touches path other (record_at instance k)) (range_with_len 0 (length instance.records))
      ∙ (sum_by-positions found no_record instance.records
      ∙ sum_by-same-members found part instance.records (everywhere (λ r. found r ≡ part r) (λ r. same_part r (joins path other r) (joins other path r) refl refl) instance.records))

-- the sum between two literals, by their choices
pub both_is : (instance : Instance) (measure : Record → Choice → Choice → ℕ) (a b : Literal) → both_between instance measure a b ≡ between_choices instance measure a.path b.path (choice_of instance a) (choice_of instance b)
both_is instance measure a b =
    sym (sum_by-add (λ r. cond (joins a.path b.path r) (measure r (choice_of instance a) (choice_of instance b)) 0) (λ r. cond (joins b.path a.path r) (measure r (choice_of instance b) (choice_of instance a)) 0) instance.records)

-- nothing where no record names both
pub none_between : (instance : Instance) (measure : Record → Choice → Choice → ℕ) (path other : ℕ) (a b : Choice) → shares_record instance path other ≡ false → between_choices instance measure path other a b ≡ 0
none_between instance measure path other a b none =
    sum_by-none (λ r. cond (joins path other r) (measure r a b) 0 + cond (joins other path r) (measure r b a) 0) instance.records
    (λ k d inside.
    let r = get_or instance.records k d in
    let parts = or_parts (joins path other r) (joins other path r) (none-member (λ x. touches path other x) instance.records none r (Contains-get_or instance.records k d inside)) in
    rw (parts.0, parts.1) refl)

-- positions of records are below the number of records
pub positions_within : (instance : Instance) (path other : ℕ) → All (λ k. k < length instance.records) (records_of instance path other)
positions_within instance path other =
    All-filter (λ k. touches path other (record_at instance k)) (λ k. k < length instance.records) (range_with_len 0 (length instance.records)) (All-range (λ k. k < length instance.records) (length instance.records) (λ k below. below))

pub few_positions : (instance : Instance) (path other : ℕ) → IsInstance instance → length (records_of instance path other) ≤ MAX_RECORDS
few_positions instance path other valid =
    let kept = length-filter (λ k. touches path other (record_at instance k)) (range_with_len 0 (length instance.records)) in
    let most = count_by-le-length (λ k. touches path other (record_at instance k)) (range_with_len 0 (length instance.records)) in
    omega (arith, length-range_with_len 0 (length instance.records), valid.few_records)

pub falling_at : (instance : Instance) (position : ℕ) → IsInstance instance → position < length instance.records → DistancesFall (record_at instance position)
falling_at instance position valid inside = DistancesFall-is (levels_of instance) (record_at instance position) (valid.records position no_record inside).numbers

pub turned_yes : (measure : Record → Choice → Choice → ℕ) (path : ℕ) (a b : Choice) (r : Record) (n : ℕ) → first_path r ≡ path → n ≡ measure r a b → n ≡ turned measure path a b r
turned_yes measure path a b r n e is = is ∙ sym (cond-true (eqb (first_path r) path) (measure r a b) (measure r b a) (eq-eqb _ _ e))

pub turned_no : (measure : Record → Choice → Choice → ℕ) (path : ℕ) (a b : Choice) (r : Record) (n : ℕ) → (first_path r ≡ path → ⊥) → n ≡ measure r b a → n ≡ turned measure path a b r
turned_no measure path a b r n e is = is ∙ sym (cond-false (eqb (first_path r) path) (measure r a b) (measure r b a) (ne_eqb _ _ e))
