-- A plan without a fault.
use Rattle.std.proofs.Common.{◌≡◌, ℕ, ◌<◌, Bool, true, ◌&&◌, List, length, ap, sym, subst, ◌∙◌, inl, inr, arith, None, eqb, slice_index, zero-add, ℤ}
use Rattle.std.specs.List.{list_any, range_with_len, position_or_len}
use Rattle.std.specs.Ordering.{int_eq}
use Rattle.std.proofs.lemmas.Bool.{and_parts, both_ways, eqb-true, cases_lt}
use Rattle.std.proofs.lemmas.Bool.Decides.{Decides-int_eq}
use Rattle.std.proofs.lemmas.List.Folds.{list_any_none}
use Rattle.std.proofs.lemmas.List.Sums.{AllPass-from_list_all, fails_before_first, passes_at_first}
use Rattle.std.proofs.lemmas.List.Elements.{All-contains}
use Rattle.std.proofs.lemmas.List.FromFn.{length-map-range_with_len, get_or-map-range_with_len}
use Rattle.fapp_model.specs.declared.choice.Choice.{Choice}
use Rattle.fapp_model.specs.declared.instance.Instance.{Instance}
use Rattle.fapp_model.specs.declared.instance.Path.{Path}
use Rattle.fapp_model.specs.declared.triple.Triple.{Triple}
use Rattle.fapp_model.specs.Assignments.{IsAssignment, path_at, count_at, chosen, meets}
use Rattle.fapp_model.specs.Choices.{choices, choice, no_choice}
use Rattle.fapp_model.specs.Costs.{cost}
use Rattle.fapp_model.proofs.Members.{in-range}
use Rattle.cert_lines.specs.declared.reject.RejectCause.TheVariants.{AssignmentLength, ChoiceNotInDomain, ImperativeBroken}
use Rattle.cert_lines.specs.acceptance.LineFaults.{cause_unless}
use Rattle.cert_lines.specs.acceptance.PlanFaults.{is_same_choice, is_same_triple, is_offered, index_in, shown_at, indices, all_offered, cost_fault, shown_fault}
use Rattle.accept_laws.specs.Answers.{Shows}
use Rattle.accept_laws.proofs.Options.{neither, cause_unless-none}
use Rattle.fapp_model.proofs.CostParts.{triple}

-- the first place that passes is in a list that has one
pub first-within : {X : Type 0} (p : X → Bool) (xs : List X) → list_any p xs ≡ true → position_or_len p xs < length xs
first-within p xs h = elim (cases_lt (position_or_len p xs) (length xs)) [
  | inl less ↦ less
  | inr past ↦ absurd (both_ways (list_any p xs) (list_any_none p xs (λ k d l. fails_before_first p xs k d (omega arith))) h)
]

abbrev choose : ℕ → ℤ → Choice
choose freq pol = record { freq = freq; pol = pol }

pub same-choices : (a b : Choice) → is_same_choice a b ≡ true → a ≡ b
same-choices a b h =
    let parts = and_parts (eqb a.freq b.freq) (int_eq a.pol b.pol) h in
    let freq = eqb-true a.freq b.freq parts.0 in
    let pol = (Decides-int_eq a.pol b.pol).0 parts.1 in
    ap (λ (f : ℕ). choose f a.pol) freq ∙ ap (choose b.freq) pol

pub same-triples : (t u : Triple) → is_same_triple t u ≡ true → t ≡ u
same-triples t u h =
    let parts = and_parts (eqb t.k u.k) (eqb t.v u.v && eqb t.s u.s) h in
    let more = and_parts (eqb t.v u.v) (eqb t.s u.s) parts.1 in
    ap (λ (k : ℕ). triple k t.v t.s) (eqb-true _ _ parts.0) ∙ (ap (λ (v : ℕ). triple u.k v t.s) (eqb-true _ _ more.0) ∙ ap (triple u.k u.v) (eqb-true _ _ more.1))

pub offered-choice : (path : Path) (c : Choice) → is_offered path c ≡ true → choice path (index_in path c) ≡ c
offered-choice path c h = sym (same-choices c (choice path (index_in path c)) (passes_at_first (is_same_choice c) (choices path) no_choice (first-within (is_same_choice c) (choices path) h)))

module _ (instance : Instance) (shown : List Choice) where
  pub index-at : (position : ℕ) → position < length instance.paths → slice_index (indices instance shown) position ≡ index_in (path_at instance position) (shown_at shown position)
  unfolding indices
  index-at position small = get_or-map-range_with_len (λ (q : ℕ). index_in (path_at instance q) (shown_at shown q)) 0 (length instance.paths) position position 0 small (zero-add position)

  pub length-indices : length (indices instance shown) ≡ length instance.paths
  unfolding indices
  length-indices = length-map-range_with_len (λ (q : ℕ). index_in (path_at instance q) (shown_at shown q)) 0 (length instance.paths)

  module _ (offered : all_offered instance shown ≡ true) where
    offered-at : (position : ℕ) → position < length instance.paths → is_offered (path_at instance position) (shown_at shown position) ≡ true
    offered-at position small =
        All-contains (λ q. is_offered (path_at instance q) (shown_at shown q) ≡ true) (range_with_len 0 (length instance.paths)) position
        (AllPass-from_list_all (λ q. is_offered (path_at instance q) (shown_at shown q)) (range_with_len 0 (length instance.paths)) offered) (in-range (length instance.paths) position small)

    pub shown-chosen : (position : ℕ) → position < length instance.paths → chosen instance (indices instance shown) position ≡ shown_at shown position
    shown-chosen position small = ap (choice (path_at instance position)) (index-at position small) ∙ offered-choice (path_at instance position) (shown_at shown position) (offered-at position small)

    pub shown-assignment : IsAssignment instance (indices instance shown)
    shown-assignment = record {
      whole = length-indices;
      in_range = λ position small. subst (λ (n : ℕ). n < count_at instance position) (sym (index-at position small)) (first-within (is_same_choice (shown_at shown position)) (choices (path_at instance position)) (offered-at position small));
    }

  pub shown-plan : (claimed : Triple) → shown_fault instance shown claimed ≡ None → Shows instance shown claimed (indices instance shown)
  shown-plan claimed h =
      let long = neither (cause_unless (eqb (length shown) (length instance.paths)) AssignmentLength) _ h in
      let within = neither (cause_unless (all_offered instance shown) ChoiceNotInDomain) _ long.1 in
      let unbroken = neither (cause_unless (meets instance (indices instance shown)) ImperativeBroken) (cost_fault claimed (cost instance (indices instance shown))) within.1 in
      let offered = cause_unless-none (all_offered instance shown) ChoiceNotInDomain within.0 in
      record {
        whole = eqb-true _ _ (cause_unless-none _ _ long.0);
        chosen = shown-chosen offered;
        feasible = record { assignment = shown-assignment offered; met = cause_unless-none _ _ unbroken.0 };
        cost = sym (same-triples claimed (cost instance (indices instance shown)) (cause_unless-none _ _ unbroken.1));
      }
