-- Which records clash between two choices, by their positions, and what their pairs are as one number.
use Rattle.std.proofs.Common.{◌≡◌, ◌≢◌, ℕ, ◌+◌, ◌*◌, Bool, true, false, cond, eqb, ◌&&◌, ◌||◌, List, [], ◌∷◌, length, refl, sym, ap, ◌∙◌, subst, ⊎_elim, All, Contains, sum_by, arith}
use Rattle.std.specs.List.{list_any, range_with_len}
use Rattle.std.proofs.lemmas.Bool.{cases_Bool, and_parts, and_left, or_parts, or_right, or_from, eqb-true, ne_eqb}
use Rattle.std.proofs.lemmas.List.{get_or_default}
use Rattle.std.proofs.lemmas.List.Elements.{All-contains, Contains-get_or}
use Rattle.std.proofs.lemmas.List.Sums.{sum_by-cons}
use Rattle.fapp_model.specs.declared.choice.Choice.{Choice}
use Rattle.fapp_model.specs.declared.instance.Instance.{Instance}
use Rattle.fapp_model.specs.declared.limits.TheConstants.{S_SPAN}
use Rattle.fapp_model.specs.declared.literal.Literal.{Literal}
use Rattle.fapp_model.specs.declared.record.Record.{Record}
use Rattle.fapp_model.specs.Records.{first_path, second_path}
use Rattle.fapp_model.specs.search.Clashes.{clashes, is_hard_bad, joins}
use Rattle.fapp_model.specs.search.Partials.{choice_of}
use Rattle.fapp_model.specs.search.Weights.{bad_before, bad_further, between}
use Rattle.fapp_model.proofs.Anys.{any-member, no-member}
use Rattle.fapp_model.proofs.Members.{from-filter, in-filter, in-range, from-range}
use Rattle.fapp_tables.specs.Indexes.{clashes_between, no_record, record_at, records_of, touches, turned_bad}
use Rattle.fapp_tables.specs.Measures.{both_between, coded_part, pair_between, pair_code}

module _ (level path other : ℕ) (apart : path ≢ other) (a b : Choice) where
  abbrev part : Record → Bool
  part r = (joins path other r && is_hard_bad level r a b) || (joins other path r && is_hard_bad level r b a)

  or_none : (x : Bool) → (x || false) ≡ x
  or_none true = refl
  or_none false = refl

  turned_part : (r : Record) (s t : Bool) → joins path other r ≡ s → joins other path r ≡ t → touches path other r ≡ true → part r ≡ turned_bad level path a b r
  turned_part r true t e o touching =
      let first = (and_parts (eqb (first_path r) path) (eqb (second_path r) other) e).0 in
      let not_second : joins other path r ≡ false = and_left (eqb (first_path r) other) (eqb (second_path r) path) (ne_eqb _ _ (λ same. apart (sym (eqb-true _ _ first) ∙ same))) in
      rw (e, not_second, first) (or_none (is_hard_bad level r a b))
  turned_part r false true e o touching =
      let first = (and_parts (eqb (first_path r) other) (eqb (second_path r) path) o).0 in
      let not_first : eqb (first_path r) path ≡ false = ne_eqb _ _ (λ same. apart (sym same ∙ eqb-true _ _ first)) in
      rw (e, o, not_first) refl
  turned_part r false false e o touching = absurd (let bad : false ≡ true = sym (or_from (joins path other r) (joins other path r) e o) ∙ touching in cc)

  no_part : (r : Record) → touches path other r ≡ false → part r ≡ false
  no_part r none =
      let parts = or_parts (joins path other r) (joins other path r) none in
      or_from (joins path other r && is_hard_bad level r a b) (joins other path r && is_hard_bad level r b a) (and_left _ _ parts.0) (and_left _ _ parts.1)

  pub clash_found : (instance : Instance) (k : ℕ) → Contains (records_of instance path other) k → turned_bad level path a b (record_at instance k) ≡ true → clashes_between instance level path other a b ≡ true
  clash_found instance k m bad =
      let f = from-filter (λ k. touches path other (record_at instance k)) (range_with_len 0 (length instance.records)) k m in
      any-member part instance.records (record_at instance k) (Contains-get_or instance.records k no_record (from-range (length instance.records) k f.0))
      (turned_part (record_at instance k) _ _ refl refl f.1 ∙ bad)

  pub no_clash : (instance : Instance) → All (λ k. turned_bad level path a b (record_at instance k) ≡ false) (records_of instance path other) → clashes_between instance level path other a b ≡ false
  no_clash instance none = no-member part instance.records (λ r m.
      let same : record_at instance m.0 ≡ r = get_or_default instance.records m.0 no_record r m.1 ∙ m.2 in
      subst (λ x. part x ≡ false) same (⊎_elim
      (λ touching. turned_part (record_at instance m.0) _ _ refl refl touching
      ∙ All-contains (λ k. turned_bad level path a b (record_at instance k) ≡ false) (records_of instance path other) m.0 none
      (in-filter (λ k. touches path other (record_at instance k)) (range_with_len 0 (length instance.records)) m.0 (in-range (length instance.records) m.0 m.1) touching))
      (λ apart. no_part (record_at instance m.0) apart)
      (cases_Bool (touches path other (record_at instance m.0)))))

or_swap : (x y p q : Bool) → ((x || p) || (y || q)) ≡ ((x || y) || (p || q))
or_swap true y p q = refl
or_swap false true p true = or_right p (true || true) refl
or_swap false true p false = or_right p (true || false) refl
or_swap false false p q = refl

list_any-or : {X : Type 0} (p q : X → Bool) (xs : List X) → (list_any p xs || list_any q xs) ≡ list_any (λ x. p x || q x) xs
list_any-or p q [] = refl
list_any-or p q (x ∷ xs) = or_swap (p x) (q x) (list_any p xs) (list_any q xs) ∙ ap (λ t. (p x || q x) || t) (list_any-or p q xs)

-- what clashes between two literals, by their choices
pub clashes_is : (instance : Instance) (level : ℕ) (a b : Literal) → clashes instance level a b ≡ clashes_between instance level a.path b.path (choice_of instance a) (choice_of instance b)
clashes_is instance level a b = list_any-or
    (λ r. joins a.path b.path r && is_hard_bad level r (choice_of instance a) (choice_of instance b))
    (λ r. joins b.path a.path r && is_hard_bad level r (choice_of instance b) (choice_of instance a)) instance.records

coded_more : (t : Bool) (x y n m : ℕ) → cond t (x * S_SPAN + y) 0 + (n * S_SPAN + m) ≡ (cond t x 0 + n) * S_SPAN + (cond t y 0 + m)
coded_more true x y n m = omega arith
coded_more false x y n m = omega arith

sum_by-coded : {X : Type 0} (p : X → Bool) (f g : X → ℕ) (xs : List X) → sum_by (λ r. cond (p r) (f r * S_SPAN + g r) 0) xs ≡ sum_by (λ r. cond (p r) (f r) 0) xs * S_SPAN + sum_by (λ r. cond (p r) (g r) 0) xs
sum_by-coded p f g [] = refl
sum_by-coded p f g (x ∷ xs) =
    sum_by-cons (λ r. cond (p r) (f r * S_SPAN + g r) 0) x xs ∙ (ap (λ n. cond (p x) (f x * S_SPAN + g x) 0 + n) (sum_by-coded p f g xs)
    ∙ (coded_more (p x) (f x) (g x) (sum_by (λ r. cond (p r) (f r) 0) xs) (sum_by (λ r. cond (p r) (g r) 0) xs)
    ∙ (ap (λ n. n * S_SPAN + (cond (p x) (g x) 0 + sum_by (λ r. cond (p r) (g r) 0) xs)) (sym (sum_by-cons (λ r. cond (p r) (f r) 0) x xs))
    ∙ ap (λ n. sum_by (λ r. cond (p r) (f r) 0) (x ∷ xs) * S_SPAN + n) (sym (sum_by-cons (λ r. cond (p r) (g r) 0) x xs)))))

between_coded : (instance : Instance) (level : ℕ) (a b : Literal) → between instance (coded_part level) a b ≡ between instance (bad_before level) a b * S_SPAN + between instance (bad_further level) a b
between_coded instance level a b = sum_by-coded (joins a.path b.path)
    (λ r. bad_before level r (choice_of instance a) (choice_of instance b)) (λ r. bad_further level r (choice_of instance a) (choice_of instance b)) instance.records

-- the coded parts between two literals are the code of their pair
pub coded_is : (instance : Instance) (level : ℕ) (a b : Literal) → both_between instance (coded_part level) a b ≡ pair_code (pair_between instance level a b)
coded_is instance level a b = omega (arith, between_coded instance level a b, between_coded instance level b a)
