-- What goes along a plan without hard-bad records is not dead at a tag without a limit.
use Rattle.std.proofs.Common.{◌≡◌, ℕ, ◌<◌, Bool, true, false, ◌&&◌, ltb, eqb, List, length, All, refl, sym, ap, subst, ⊎_elim}
use Rattle.std.proofs.lemmas.Bool.{and_parts, and_from, ltb-true, lt-ltb, eqb-true, eq-eqb, both_ways}
use Rattle.std.proofs.lemmas.List.Elements.{All-contains}
use Rattle.fapp_model.specs.declared.instance.Instance.{Instance}
use Rattle.fapp_model.specs.declared.literal.Literal.{Literal}
use Rattle.fapp_model.specs.declared.triple.Triple.{Triple}
use Rattle.fapp_model.specs.search.Arcs.{IsSupported, InArc}
use Rattle.fapp_model.specs.Assignments.{count_at}
use Rattle.fapp_model.specs.search.Clashes.{clashes, clashes_with, shares_record}
use Rattle.fapp_model.specs.search.Dead.{Dead, least, clash, outside_literal, no_choice_left, over_limit}
use Rattle.fapp_model.specs.search.Partials.{literal}
use Rattle.fapp_model.specs.Tags.{least_tag, has_limit, mode_level}
use Rattle.fapp_model.proofs.Members.{any-some}

-- a choice for each path, none of which is hard-bad with another
pub record IsClear (instance : Instance) (level : ℕ) (plan : ℕ → ℕ) : Type 0 where
  pub in_range : (p : ℕ) → p < length instance.paths → plan p < count_at instance p
  pub apart : (p q : ℕ) → p < length instance.paths → q < length instance.paths →
      clashes instance level (literal p (plan p)) (literal q (plan q)) ≡ false
  pub shared : (p q : ℕ) → p < length instance.paths → shares_record instance p q ≡ true → q < length instance.paths

-- a literal of the plan
pub record IsOf (instance : Instance) (plan : ℕ → ℕ) (a : Literal) : Type 0 where
  pub path : a.path < length instance.paths
  pub choice : a.choice ≡ plan a.path

of-literal : (instance : Instance) (plan : ℕ → ℕ) (a : Literal) → IsOf instance plan a → literal a.path (plan a.path) ≡ a
of-literal instance plan a h = ap (λ i. literal a.path i) (sym h.choice)

module _ (instance : Instance) (level : ℕ) (plan : ℕ → ℕ) (clear : IsClear instance level plan) where
  abbrev family : Literal → Bool
  family a = ltb a.path (length instance.paths) && eqb a.choice (plan a.path)

  family-is : (a : Literal) → family a ≡ true → IsOf instance plan a
  family-is a h =
      let parts = and_parts (ltb a.path (length instance.paths)) (eqb a.choice (plan a.path)) h in
      record { path = ltb-true a.path (length instance.paths) parts.0; choice = eqb-true a.choice (plan a.path) parts.1 }

  is-family : (a : Literal) → IsOf instance plan a → family a ≡ true
  is-family a h = and_from (ltb a.path (length instance.paths)) (eqb a.choice (plan a.path))
      (lt-ltb a.path (length instance.paths) h.path) (eq-eqb a.choice (plan a.path) h.choice)

  pub no_clash : (a b : Literal) → IsOf instance plan a → IsOf instance plan b → clashes instance level a b ≡ false
  no_clash a b h k =
      subst (λ z. clashes instance level z b ≡ false) (of-literal instance plan a h)
      (subst (λ z. clashes instance level (literal a.path (plan a.path)) z ≡ false) (of-literal instance plan b k) (clear.apart a.path b.path h.path k.path))

  supported : IsSupported instance level family
  supported = record {
    in_range = λ a m. let h = family-is a m in record {
      path = h.path;
      choice = subst (λ i. i < count_at instance a.path) (sym h.choice) (clear.in_range a.path h.path);
    };
    supported = λ a path m shares.
        let h = family-is a m in
        let l : path < length instance.paths = clear.shared a.path path h.path shares in
        let on : IsOf instance plan (literal path (plan path)) = record { path = l; choice = refl } in
        record {
          index = plan path;
          member = is-family (literal path (plan path)) on;
          apart = no_clash a (literal path (plan path)) h on;
        };
  }

  pub in-arc : (a : Literal) → IsOf instance plan a → InArc instance level a
  in-arc a h = (family, supported, is-family a h)

  no_clash_with : (literals : List Literal) (a : Literal) → All (IsOf instance plan) literals → IsOf instance plan a → clashes_with instance level literals a ≡ true → ⊥
  no_clash_with literals a all h bad =
      let found = any-some (clashes instance level a) literals bad in
      both_ways (clashes instance level a found.0) (no_clash a found.0 h (All-contains (IsOf instance plan) literals found.0 all found.1)) found.2

module _ (instance : Instance) (t : Triple) (plan : ℕ → ℕ) (clear : IsClear instance (mode_level t) plan) (above : t ≡ least_tag → ⊥) (unlimited : has_limit t ≡ false) where
  pub not_dead : (literals : List Literal) → All (IsOf instance plan) literals → Dead instance t literals → ⊥
  not_dead literals all (least e) = above e
  not_dead literals all (clash a b ma mb h) =
      both_ways (clashes instance (mode_level t) a b)
      (no_clash instance (mode_level t) plan clear a b (All-contains (IsOf instance plan) literals a all ma) (All-contains (IsOf instance plan) literals b all mb)) h
  not_dead literals all (outside_literal a m h) =
      h (in-arc instance (mode_level t) plan clear a (All-contains (IsOf instance plan) literals a all m))
  not_dead literals all (no_choice_left path l open_path each) =
      let on : IsOf instance plan (literal path (plan path)) = record { path = l; choice = refl } in
      ⊎_elim
      (λ outside. outside (in-arc instance (mode_level t) plan clear (literal path (plan path)) on))
      (λ bad. no_clash_with instance (mode_level t) plan clear literals (literal path (plan path)) all on bad)
      (each (plan path) (clear.in_range path l))
  not_dead literals all (over_limit some other each most) = both_ways (has_limit t) unlimited some
