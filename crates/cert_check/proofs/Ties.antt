-- The records between a path and those of some literals are all that count between them.
use Rattle.std.proofs.Common.{◌≡◌, ℕ, ◌+◌, ◌<◌, ◌≤◌, Bool, true, false, ◌&&◌, ◌||◌, cond, eqb, List, [], ◌∷◌, length, get_or, filter, sum_by, refl, ap, sym, ◌∙◌, subst, arith, All, Contains}
use Rattle.std.specs.List.{list_any, range_with_len}
use Rattle.std.proofs.lemmas.Bool.{or_parts, and_left, and_right, both_ways, eqb-true, false_from_ne_true, cond-false}
use Rattle.std.proofs.lemmas.List.Elements.{All-head, All-tail, All-filter, Contains-get_or}
use Rattle.std.proofs.lemmas.List.FromFn.{length-range_with_len, get_or-range_with_len}
use Rattle.fapp_model.specs.declared.choice.Choice.{Choice}
use Rattle.fapp_model.specs.declared.instance.Instance.{Instance}
use Rattle.fapp_model.specs.declared.literal.Literal.{Literal}
use Rattle.fapp_model.specs.declared.record.Record.{Record}
use Rattle.fapp_model.specs.search.Clashes.{joins, is_hard_bad, blocks, clashes, clashes_with}
use Rattle.fapp_model.specs.search.Partials.{choice_of, names}
use Rattle.fapp_model.specs.Records.{first_path, second_path}
use Rattle.fapp_model.specs.search.Weights.{between, added}
use Rattle.dead_laws.proofs.Picks.{at-names}
use Rattle.fapp_model.proofs.Sums.{sum_by-same-members}
use Rattle.cert_check.specs.RecordsNamed.{no_record, record_at, blocks_at, clashes_at, clashes_with_at, between_at, added_at, row_at, touches, places_of, reaches, ties_of, ArePlaces}
use Rattle.cert_check.proofs.Filters.{any-skip, any-places, sum-skip, sum-places}

pub any-same-members : {X : Type 0} (p q : X → Bool) (xs : List X) → All (λ x. p x ≡ q x) xs → list_any p xs ≡ list_any q xs
any-same-members p q [] h = refl
any-same-members p q (x ∷ xs) h =
    ap (λ b. b || list_any p xs) (All-head (λ y. p y ≡ q y) x xs h) ∙ ap (λ b. q x || b) (any-same-members p q xs (All-tail (λ y. p y ≡ q y) x xs h))

untouched : (path other : ℕ) (r : Record) → touches path r ≡ false → joins path other r ≡ false
untouched path other r h = let parts = or_parts (eqb (first_path r) path) (eqb (second_path r) path) h in and_left (eqb (first_path r) path) (eqb (second_path r) other) parts.0

untouched-back : (path other : ℕ) (r : Record) → touches path r ≡ false → joins other path r ≡ false
untouched-back path other r h = let parts = or_parts (eqb (first_path r) path) (eqb (second_path r) path) h in and_right (eqb (first_path r) other) (eqb (second_path r) path) parts.1

unnamed : (literals : List Literal) (b : Literal) (end : ℕ) → Contains literals b → names literals end ≡ false → eqb end b.path ≡ false
unnamed literals b end c h = false_from_ne_true (eqb end b.path) (λ e. both_ways (names literals end) h (subst (λ (p : ℕ). names literals p ≡ true) (sym (eqb-true end b.path e)) (at-names literals b c)))

unreached : (literals : List Literal) (other : ℕ) (b : Literal) (r : Record) → Contains literals b → reaches literals r ≡ false → joins other b.path r ≡ false
unreached literals other b r c h =
    let parts = or_parts (names literals (first_path r)) (names literals (second_path r)) h in
    and_right (eqb (first_path r) other) (eqb (second_path r) b.path) (unnamed literals b (second_path r) c parts.1)

unreached-back : (literals : List Literal) (other : ℕ) (b : Literal) (r : Record) → Contains literals b → reaches literals r ≡ false → joins b.path other r ≡ false
unreached-back literals other b r c h =
    let parts = or_parts (names literals (first_path r)) (names literals (second_path r)) h in
    and_left (eqb (first_path r) b.path) (eqb (second_path r) other) (unnamed literals b (first_path r) c parts.0)

-- a test that only records between a path and the literals pass, and a sum to which only they add
module _ (instance : Instance) (literals : List Literal) (path : ℕ) where
  abbrev IsBetween : (Record → Bool) → Type 0
  IsBetween joined = ((r : Record) → touches path r ≡ false → joined r ≡ false) × ((r : Record) → reaches literals r ≡ false → joined r ≡ false)

  any-ties : (joined test : Record → Bool) → IsBetween joined → list_any (λ k. joined (record_at instance k) && test (record_at instance k)) (ties_of instance literals path) ≡ list_any (λ r. joined r && test r) instance.records
  unfolding ties_of places_of
  any-ties joined test own =
      let p : ℕ → Bool = λ k. joined (record_at instance k) && test (record_at instance k) in
      let range = range_with_len 0 (length instance.records) in
      any-skip p (λ k. reaches literals (record_at instance k)) (filter (λ k. touches path (record_at instance k)) range) (λ k h. and_left (joined (record_at instance k)) (test (record_at instance k)) (own.1 (record_at instance k) h))
      ∙ (any-skip p (λ k. touches path (record_at instance k)) range (λ k h. and_left (joined (record_at instance k)) (test (record_at instance k)) (own.0 (record_at instance k) h))
      ∙ any-places (λ r. joined r && test r) instance.records no_record)

  sum-ties : (joined : Record → Bool) (f : Record → ℕ) → IsBetween joined → sum_by (λ k. cond (joined (record_at instance k)) (f (record_at instance k)) 0) (ties_of instance literals path) ≡ sum_by (λ r. cond (joined r) (f r) 0) instance.records
  unfolding ties_of places_of
  sum-ties joined f own =
      let g : ℕ → ℕ = λ k. cond (joined (record_at instance k)) (f (record_at instance k)) 0 in
      let range = range_with_len 0 (length instance.records) in
      sum-skip g (λ k. reaches literals (record_at instance k)) (filter (λ k. touches path (record_at instance k)) range) (λ k h. cond-false (joined (record_at instance k)) (f (record_at instance k)) 0 (own.1 (record_at instance k) h))
      ∙ (sum-skip g (λ k. touches path (record_at instance k)) range (λ k h. cond-false (joined (record_at instance k)) (f (record_at instance k)) 0 (own.0 (record_at instance k) h))
      ∙ sum-places (λ r. cond (joined r) (f r) 0) instance.records no_record)

module _ (instance : Instance) (literals : List Literal) (a : Literal) where
  abbrev ties : List ℕ
  ties = ties_of instance literals a.path

  there : (b : Literal) → Contains literals b → IsBetween instance literals a.path (joins a.path b.path)
  there b c = (λ r h. untouched a.path b.path r h, λ r h. unreached literals a.path b r c h)

  back : (b : Literal) → Contains literals b → IsBetween instance literals a.path (joins b.path a.path)
  back b c = (λ r h. untouched-back a.path b.path r h, λ r h. unreached-back literals a.path b r c h)

  clashes-ties : (level : ℕ) (b : Literal) → Contains literals b → clashes_at instance ties level a b ≡ clashes instance level a b
  clashes-ties level b c =
      ap (λ x. x || blocks_at instance ties level b a) (any-ties instance literals a.path (joins a.path b.path) (λ r. is_hard_bad level r (choice_of instance a) (choice_of instance b)) (there b c))
      ∙ ap (λ x. blocks instance level a b || x) (any-ties instance literals a.path (joins b.path a.path) (λ r. is_hard_bad level r (choice_of instance b) (choice_of instance a)) (back b c))

  pub clashes_with-ties : (level : ℕ) → clashes_with_at instance ties level literals a ≡ clashes_with instance level literals a
  clashes_with-ties level = any-same-members (clashes_at instance ties level a) (clashes instance level a) literals (λ k d l. clashes-ties level (get_or literals k d) (Contains-get_or literals k d l))

  between-ties : (measure : Record → Choice → Choice → ℕ) (b : Literal) → Contains literals b → between_at instance ties measure a b ≡ between instance measure a b
  between-ties measure b c = sum-ties instance literals a.path (joins a.path b.path) (λ r. measure r (choice_of instance a) (choice_of instance b)) (there b c)

  between-ties-back : (measure : Record → Choice → Choice → ℕ) (b : Literal) → Contains literals b → between_at instance ties measure b a ≡ between instance measure b a
  between-ties-back measure b c = sum-ties instance literals a.path (joins b.path a.path) (λ r. measure r (choice_of instance b) (choice_of instance a)) (back b c)

  pub added-ties : (measure : Record → Choice → Choice → ℕ) → added_at instance ties measure literals a ≡ added instance measure literals a
  added-ties measure = sum_by-same-members (λ b. between_at instance ties measure a b + between_at instance ties measure b a) (λ b. between instance measure a b + between instance measure b a) literals
      (λ k d l. let first = between-ties measure (get_or literals k d) (Contains-get_or literals k d l) in let second = between-ties-back measure (get_or literals k d) (Contains-get_or literals k d l) in omega arith)

  pub row-ties : (measure : Record → Choice → Choice → ℕ) → row_at instance ties measure literals a ≡ sum_by (λ b. between instance measure a b) literals
  row-ties measure = sum_by-same-members (λ b. between_at instance ties measure a b) (λ b. between instance measure a b) literals (λ k d l. between-ties measure (get_or literals k d) (Contains-get_or literals k d l))

-- the same, of a list that is these records
pub clashes_with-at : (instance : Instance) (literals : List Literal) (a : Literal) (level : ℕ) (places : List ℕ) → places ≡ ties_of instance literals a.path → clashes_with_at instance places level literals a ≡ clashes_with instance level literals a
clashes_with-at instance literals a level places e = ap (λ (xs : List ℕ). clashes_with_at instance xs level literals a) e ∙ clashes_with-ties instance literals a level

pub added-at : (instance : Instance) (literals : List Literal) (a : Literal) (measure : Record → Choice → Choice → ℕ) (places : List ℕ) → places ≡ ties_of instance literals a.path → added_at instance places measure literals a ≡ added instance measure literals a
added-at instance literals a measure places e = ap (λ (xs : List ℕ). added_at instance xs measure literals a) e ∙ added-ties instance literals a measure

pub row-at : (instance : Instance) (literals : List Literal) (a : Literal) (measure : Record → Choice → Choice → ℕ) (places : List ℕ) → places ≡ ties_of instance literals a.path → row_at instance places measure literals a ≡ sum_by (λ b. between instance measure a b) literals
row-at instance literals a measure places e = ap (λ (xs : List ℕ). row_at instance xs measure literals a) e ∙ row-ties instance literals a measure

filter-short : {X : Type 0} (p : X → Bool) (xs : List X) → length (filter p xs) ≤ length xs
filter-short p [] = omega arith
filter-short p (x ∷ xs) = by_test (p x) (filter-short p xs)
  where
    by_test : (b : Bool) → length (filter p xs) ≤ length xs → length (cond b (x ∷ filter p xs) (filter p xs)) ≤ length (x ∷ xs)
    by_test true h = omega arith
    by_test false h = omega arith

pub places-small : (instance : Instance) (path : ℕ) → ArePlaces instance (places_of instance path)
unfolding places_of
places-small instance path = All-filter (λ k. touches path (record_at instance k)) (λ k. k < length instance.records) (range_with_len 0 (length instance.records))
    (λ k d l. let small : k < length instance.records = omega (arith, length-range_with_len 0 (length instance.records)) in omega (arith, get_or-range_with_len 0 (length instance.records) k d small))

pub ties-small : (instance : Instance) (literals : List Literal) (path : ℕ) → ArePlaces instance (ties_of instance literals path)
unfolding ties_of
ties-small instance literals path = All-filter (λ k. reaches literals (record_at instance k)) (λ k. k < length instance.records) (places_of instance path) (places-small instance path)

pub ties-few : (instance : Instance) (literals : List Literal) (path : ℕ) → length (ties_of instance literals path) ≤ length instance.records
unfolding ties_of places_of
ties-few instance literals path =
    let range = range_with_len 0 (length instance.records) in
    omega (arith, filter-short (λ k. reaches literals (record_at instance k)) (filter (λ k. touches path (record_at instance k)) range), filter-short (λ k. touches path (record_at instance k)) range, length-range_with_len 0 (length instance.records))
