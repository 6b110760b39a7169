-- Paths without a mark share no record with the literals.
use Rattle.std.proofs.Common.{◌≡◌, ◌⊎◌, ℕ, Bool, true, false, ◌&&◌, cond, eqb, List, [], ◌∷◌, length, filter, refl, ap, sym, ◌∙◌, subst, inl, inr, All, Contains}
use Rattle.std.specs.List.{list_any, range_with_len}
use Rattle.std.proofs.lemmas.Bool.{or_parts, or_cases, or_left, or_right, both_ways, eqb-true, eq-eqb, and_parts, false_from_ne_true}
use Rattle.std.proofs.lemmas.List.Elements.{All-contains}
use Rattle.fapp_model.specs.declared.instance.Instance.{Instance}
use Rattle.fapp_model.specs.declared.literal.Literal.{Literal}
use Rattle.fapp_model.specs.declared.record.Record.{Record}
use Rattle.fapp_model.specs.search.Partials.{names}
use Rattle.fapp_model.specs.Records.{first_path, second_path}
use Rattle.fapp_model.proofs.Anys.{passing, any-member, no-member}
use Rattle.cert_check.specs.RecordsNamed.{record_at, touches, places_of, reaches, ties_of}
use Rattle.cert_check.proofs.Filters.{any-filter}

-- no element passes where none does before the filter
filter-none : {X : Type 0} (p : X → Bool) (xs : List X) → list_any p xs ≡ false → filter p xs ≡ []
filter-none p [] h = refl
filter-none p (x ∷ xs) h = let parts = or_parts (p x) (list_any p xs) h in ap (λ b. cond b (x ∷ filter p xs) (filter p xs)) parts.0 ∙ filter-none p xs parts.1

-- what the records of the literals' paths say of another path
abbrev pub IsClear : Instance → ℕ → Literal → Type 0
IsClear instance path a = All (λ k. touches path (record_at instance k) ≡ false) (places_of instance a.path)

touching : (a : Literal) (r : Record) → (eqb (first_path r) a.path ≡ true) ⊎ (eqb (second_path r) a.path ≡ true) → touches a.path r ≡ true
touching a r (inl h) = or_left (eqb (first_path r) a.path) (eqb (second_path r) a.path) h
touching a r (inr h) = or_right (eqb (first_path r) a.path) (eqb (second_path r) a.path) h

turn : (x y : ℕ) → eqb x y ≡ true → eqb y x ≡ true
turn x y h = eq-eqb y x (sym (eqb-true x y h))

module _ (instance : Instance) (literals : List Literal) (path : ℕ) (clear : All (IsClear instance path) literals) where
  met : (r : Record) → reaches literals r ≡ true → (a : Literal) × Contains literals a × (touches a.path r ≡ true)
  met r h = elim (or_cases (names literals (first_path r)) (names literals (second_path r)) h) [
    | inl e ↦ let found = passing (λ a. eqb a.path (first_path r)) literals e in (found.item, found.member, touching found.item r (inl (turn found.item.path (first_path r) found.passes)))
    | inr e ↦ let found = passing (λ a. eqb a.path (second_path r)) literals e in (found.item, found.member, touching found.item r (inr (turn found.item.path (second_path r) found.passes)))
  ]

  member-of : (k : ℕ) (a : Literal) → Contains (range_with_len 0 (length instance.records)) k → touches a.path (record_at instance k) ≡ true → Contains (places_of instance a.path) k
  unfolding places_of
  member-of k a c h = contains-filter (λ j. touches a.path (record_at instance j)) (range_with_len 0 (length instance.records)) k c h
    where
      same_number : (j : ℕ) → eqb j j ≡ true
      same_number j = eq-eqb j j refl

      contains-filter : (p : ℕ → Bool) (xs : List ℕ) (x : ℕ) → Contains xs x → p x ≡ true → Contains (filter p xs) x
      contains-filter p xs x c h =
          let found = passing (λ y. eqb y x) (filter p xs) (any-filter (λ y. eqb y x) p xs ∙ any-member (λ y. p y && eqb y x) xs x c (and_both (p x) (eqb x x) h (same_number x))) in
          subst (Contains (filter p xs)) (eqb-true found.item x found.passes) found.member
        where
          and_both : (a b : Bool) → a ≡ true → b ≡ true → (a && b) ≡ true
          and_both true b e f = f
          and_both false b e f = absurd (both_ways false refl e)

  pub no-ties : ties_of instance literals path ≡ []
  unfolding ties_of places_of
  no-ties = filter-none (λ k. reaches literals (record_at instance k)) (filter (λ k. touches path (record_at instance k)) range)
      (any-filter (λ k. reaches literals (record_at instance k)) (λ k. touches path (record_at instance k)) range
      ∙ no-member (λ k. touches path (record_at instance k) && reaches literals (record_at instance k)) range (λ k c. false_from_ne_true (touches path (record_at instance k) && reaches literals (record_at instance k)) (λ e. refuted k c e)))
    where
      range : List ℕ
      range = range_with_len 0 (length instance.records)

      refuted : (k : ℕ) → Contains (range_with_len 0 (length instance.records)) k → (touches path (record_at instance k) && reaches literals (record_at instance k)) ≡ true → ⊥
      refuted k c e =
          let parts = and_parts (touches path (record_at instance k)) (reaches literals (record_at instance k)) e in
          let other = met (record_at instance k) parts.1 in
          let off = All-contains (λ j. touches path (record_at instance j) ≡ false) (places_of instance other.0.path) k (All-contains (IsClear instance path) literals other.0 clear other.1) (member-of k other.0 c other.2) in
          both_ways (touches path (record_at instance k)) off parts.0
