-- The literals that are pushed, in order and as a plan.
use Rattle.std.proofs.Common.{◌≡◌, ℕ, ◌+◌, ◌<◌, ◌≤◌, true, false, List, length, get_or, slice_index, Contains, Option, unwrap_or, sym, ap, subst, ◌∙◌, inl, inr, arith}
use Rattle.std.specs.List.{AllAdjacentBelow}
use Rattle.std.specs.List.Sorted.{IsPermutation}
use Rattle.std.proofs.lemmas.Bool.{true≢false}
use Rattle.std.proofs.lemmas.List.Elements.{All-contains}
use Rattle.std.proofs.lemmas.List.Sorted.{Contains-permutation, IsPermutation-sym, IsNonDecreasingBy-from_all_adjacent}
use Rattle.fapp_model.specs.declared.instance.Instance.{Instance}
use Rattle.fapp_model.specs.declared.literal.Literal.{Literal}
use Rattle.fapp_model.specs.Assignments.{IsAssignment, count_at, meets}
use Rattle.fapp_model.specs.Instances.{IsInstance}
use Rattle.fapp_model.specs.Least.{IsFeasible}
use Rattle.fapp_model.specs.search.Partials.{Extends, IsLiteral, IsPartial}
use Rattle.fapp_model.specs.search.Prefixes.{IsPrefix}
use Rattle.fapp_model.specs.search.WorkOrder.{work_order}
use Rattle.fapp_model.proofs.Members.{All-from_members}
use Rattle.fapp_tables.proofs.RankLaws.{rising_ranks}
use Rattle.choice_counts.specs.ForwardStates.{AreSlots}
use Rattle.settle_laws.specs.Lines.{AreSorted}
use Rattle.settle_laws.proofs.FullPrefixes.{full-has}
use Rattle.subtree_search.specs.Plans.{IsNotAfter, IsPlanOf}

-- literals of different paths, put in order
pub sorted-are : (instance : Instance) (pushed literals : List Literal) → IsPartial instance pushed → IsPermutation pushed literals → AllAdjacentBelow IsNotAfter literals (length literals) → AreSorted instance pushed literals
sorted-are instance pushed literals partial moved ordered = record {
  are = record {
    in_range = All-from_members (IsLiteral instance) literals (λ a m. All-contains (IsLiteral instance) pushed a partial.in_range (Contains-permutation literals pushed a (IsPermutation-sym pushed literals moved) m));
    ascending = rising_ranks (λ (a : Literal). a.path) pushed literals partial.distinct moved
        (IsNonDecreasingBy-from_all_adjacent (λ (a : Literal). a.path) literals (λ k d inside. no_lower (get_or literals k d) (get_or literals (k + 1) d) (ordered k d inside)));
  };
  has = All-from_members (Contains literals) pushed (λ a m. Contains-permutation pushed literals a moved m);
  only = All-from_members (Contains pushed) literals (λ a m. Contains-permutation literals pushed a (IsPermutation-sym pushed literals moved) m);
}
  where
    no_lower : (a b : Literal) → IsNotAfter a b → a.path ≤ b.path
    no_lower a b (inl less) = omega arith
    no_lower a b (inr (same, most)) = omega arith

module _ (instance : Instance) (valid : IsInstance instance) (pushed : List Literal) (prefix : IsPrefix instance pushed) (full : length (work_order instance) ≤ length pushed) (partial : IsPartial instance pushed)
    (slots : List (Option ℕ)) (are : AreSlots instance pushed slots) (plan : List ℕ) (whole : length plan ≡ length instance.paths) (h : IsPlanOf slots (length instance.paths) plan) where
  planned : (a : Literal) → Contains pushed a → slice_index plan a.path ≡ a.choice
  planned a m = h a.path (All-contains (IsLiteral instance) pushed a partial.in_range m).path ∙ ap (λ o. unwrap_or o 0) ((are.given a).1 m)

  pub plan-assignment : IsAssignment instance plan
  plan-assignment = record {
    whole = whole;
    in_range = λ path small.
        let r = full-has instance valid pushed prefix full path small in
        let home = All-contains (IsLiteral instance) pushed r.0 partial.in_range r.1 in
        let is = planned r.0 r.1 in
        subst (λ p. slice_index plan p < count_at instance p) r.2 (subst (λ n. n < count_at instance r.0.path) (sym is) home.choice);
  }

  pub plan-extends : Extends plan pushed
  plan-extends = All-from_members (λ (a : Literal). slice_index plan a.path ≡ a.choice) pushed planned

  -- what such a plan costs, where it meets the imperative records
  pub plan-feasible : meets instance plan ≡ true → IsFeasible instance plan
  plan-feasible met = record { assignment = plan-assignment; met = met }

  pub plan-unmet : meets instance plan ≡ false → IsFeasible instance plan → ⊥
  plan-unmet unmet feasible = true≢false (sym feasible.met ∙ unmet)
