-- The first of some literals.
use Rattle.std.proofs.Common.{◌≡◌, ℕ, ◌<◌, ◌≤◌, false, eqb, Option, List, length, take, get_or, sym, ap, ◌∙◌, arith}
use Rattle.std.proofs.lemmas.Bool.{eqb-true, false_from_ne_true}
use Rattle.std.proofs.lemmas.List.{get_or-take, get_or_default, length-take-le}
use Rattle.std.proofs.lemmas.List.Elements.{All-take}
use Rattle.dead_laws.proofs.Picks.{AreDistinct}
use Rattle.fapp_model.specs.declared.instance.Instance.{Instance}
use Rattle.fapp_model.specs.declared.literal.Literal.{Literal}
use Rattle.fapp_model.specs.search.Partials.{IsLiteral, IsPartial, names}
use Rattle.fapp_model.specs.Instances.{IsInstance}
use Rattle.fapp_model.specs.Levels.{levels_of}
use Rattle.fapp_model.proofs.Anys.{no-member}
use Rattle.choice_counts.specs.declared.rows.PathTallies.{PathTallies}
use Rattle.choice_counts.specs.declared.totals.Totals.{Totals}
use Rattle.choice_counts.specs.Kept.{AreKept}
use Rattle.forward_count.specs.Forwards.{IsForward}

pub partial_take : (instance : Instance) (literals : List Literal) (k : ℕ) → k ≤ length literals → IsPartial instance literals → IsPartial instance (take k literals)
partial_take instance literals k few partial = record {
  in_range = All-take (IsLiteral instance) k literals partial.in_range;
  distinct = λ i j d less small same.
      let count : length (take k literals) ≡ k = length-take-le k literals few in
      let last : j < k = omega (arith, small, count) in
      let first : i < k = omega (arith, less, last) in
      partial.distinct i j d less (omega (arith, last, few))
      (ap (λ (a : Literal). a.path) (sym (get_or-take k literals i d first)) ∙ (same ∙ ap (λ (a : Literal). a.path) (get_or-take k literals j d last)));
}

-- a later literal is of another path than the first ones
pub fresh_at : (literals : List Literal) (k : ℕ) (d : Literal) → k < length literals → AreDistinct literals → names (take k literals) (get_or literals k d).path ≡ false
fresh_at literals k d inside distinct = no-member (λ (a : Literal). eqb a.path (get_or literals k d).path) (take k literals) (λ a c. false_from_ne_true (eqb a.path (get_or literals k d).path) (λ e.
    let count : length (take k literals) ≡ k = length-take-le k literals (omega (arith, inside)) in
    let early : c.0 < k = omega (arith, c.1, count) in
    let same : get_or literals c.0 a ≡ a = sym (get_or-take k literals c.0 a early) ∙ c.2 in
    let there : get_or literals k a ≡ get_or literals k d = sym (get_or_default literals k d a inside) in
    distinct c.0 k a early inside (ap (λ (x : Literal). x.path) same ∙ (eqb-true a.path (get_or literals k d).path e ∙ ap (λ (x : Literal). x.path) (sym there)))))

-- the first literals are as well kept as all
pub forward_take : (instance : Instance) (level : ℕ) (literals : List Literal) (k : ℕ) (slots : List (Option ℕ)) (rows : List PathTallies) (totals : Totals) → IsInstance instance → level ≤ levels_of instance → IsPartial instance literals → k ≤ length literals →
    AreKept instance level (take k literals) slots rows totals → IsForward instance level (take k literals) slots rows totals (length instance.paths)
forward_take instance level literals k slots rows totals valid low partial few kept = record {
  valid = valid;
  low = low;
  partial = partial_take instance literals k few partial;
  kept = kept;
  roomy = omega arith;
}
