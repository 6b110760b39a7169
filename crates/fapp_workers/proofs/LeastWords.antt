-- Bounds that may be shown, by their levels, and costs against tags.
use Rattle.std.proofs.Common.{◌≡◌, ◌⊎◌, ℕ, ◌+◌, ◌-◌, ◌<◌, ◌≤◌, ◌||◌, false, cond, eqb, List, IsTrue, Some, refl, sym, ap, ◌∙◌, subst, inl, inr, ⊎_elim, arith}
use Rattle.std.proofs.lemmas.Bool.{and_from, and_parts, cases_lt, cond-false, cond-true, eq-eqb, eqb-true, lt-ltb, or_cases, or_left, or_right}
use Rattle.std.proofs.lemmas.Bool.Decides.{nat_tests}
use Rattle.fapp_model.specs.declared.instance.Instance.{Instance}
use Rattle.fapp_model.specs.declared.literal.Literal.{Literal}
use Rattle.fapp_model.specs.declared.triple.Triple.{Triple}
use Rattle.fapp_model.specs.Costs.{clear_level, cost, cost_by, violations}
use Rattle.fapp_model.specs.Instances.{IsInstance}
use Rattle.fapp_model.specs.Least.{IsFeasible}
use Rattle.fapp_model.specs.Levels.{levels_of}
use Rattle.fapp_model.specs.Tags.{code_of, has_limit, is_tag, top_tag, triple_from}
use Rattle.fapp_model.specs.Triples.{IsBelow}
use Rattle.fapp_model.specs.search.Implied.{Implied}
use Rattle.fapp_model.specs.search.Partials.{Extends, HasAll}
use Rattle.fapp_model.proofs.ClearLevels.{before-clear, clear-le, count_below-is}
use Rattle.fapp_model.proofs.TagParts.{TagShape, limited, plain, shape, tag_from_plain}
use Rattle.cert_lines.specs.WellFormed.{is_shown}
use Rattle.dead_laws.proofs.CostLaws.{cost-tag}
use Rattle.dead_laws.proofs.ImpliedLemmas.{Extends-fewer}
use Rattle.fapp_model.proofs.CodeOrder.{below-codes}
use Rattle.settle_laws.specs.Levels.{level_code}
use Rattle.settle_laws.proofs.FullPrefixes.{cost-back, cost-own}
use Rattle.settle_laws.proofs.TagCodes.{code-back, same-triple}
use Rattle.settle_laws.specs.Worlds.{IsKeptRight}
use Rattle.search_log.specs.LogStates.{LogState}
use Rattle.std.proofs.lemmas.List.Elements.{All-contains}
use Rattle.fapp_workers.specs.Gathered.{IsLeastWord, KeepsCost}
use Rattle.fapp_plan.specs.VerdictRule.{open_level, top_code}
use Rattle.fapp_plan.proofs.Rules.{below-top}

-- what is at least a level's code and below the next
pub record IsOfLevel (instance : Instance) (word level : ℕ) : Type 0 where
  pub within : level ≤ levels_of instance
  pub above : level_code level < word
  pub most : word ≤ level_code (level + 1)

shown-parts : (levels : ℕ) (t : Triple) → IsTrue (is_shown levels t) → IsTrue (is_tag levels t) × (IsTrue (has_limit t) ⊎ ((t.k ≡ 0) ⊎ (t.k ≡ levels + 1)))
shown-parts levels t h =
    let parts = and_parts (is_tag levels t) (has_limit t || (eqb t.k 0 || eqb t.k (levels + 1))) h in (
      parts.0,
      ⊎_elim
          (λ some. inl some)
          (λ level. ⊎_elim (λ none. inr (inl (eqb-true t.k 0 none))) (λ top. inr (inr (eqb-true t.k (levels + 1) top))) (or_cases (eqb t.k 0) (eqb t.k (levels + 1)) level))
          (or_cases (has_limit t) (eqb t.k 0 || eqb t.k (levels + 1)) parts.1),
    )

-- the level of an open bound
abbrev level_by : ℕ → ℕ → ℕ
level_by levels k = cond (eqb k (levels + 1)) levels k

shape-level : (levels : ℕ) (t : Triple) → TagShape levels t → (IsTrue (has_limit t)) ⊎ ((t.k ≡ 0) ⊎ (t.k ≡ levels + 1)) → 0 < code_of t →
    (level_by levels t.k ≤ levels) × (level_code (level_by levels t.k) < code_of t) × (code_of t ≤ level_code (level_by levels t.k + 1))
shape-level levels t (limited some low high v s) h above =
    let at : level_by levels t.k ≡ t.k = cond-false (eqb t.k (levels + 1)) levels t.k (differ t.k levels high) in
    rw at (omega (arith, high), omega (arith, some), omega (arith, v, s))
  where
    differ : (k levels : ℕ) → k ≤ levels → eqb k (levels + 1) ≡ false
    differ k levels l = grind (arith, nat_tests)
shape-level levels t (plain none nothing high) h above = ⊎_elim
    (λ limit. absurd (no-limit t none limit))
    (λ rest. ⊎_elim
    (λ zero_k. absurd (omega (arith, zero_k, none, nothing, above)))
    (λ top.
    let at : level_by levels t.k ≡ levels = cond-true (eqb t.k (levels + 1)) levels t.k (eq-eqb t.k (levels + 1) top) in
    rw at (omega arith, omega (arith, top), omega (arith, top, none, nothing)))
    rest)
    h
  where
    no-limit : (t : Triple) → t.v ≡ 0 → IsTrue (has_limit t) → ⊥
    no-limit t none limit = absurd (grind (arith, nat_tests))

pub open-level : (instance : Instance) (word : ℕ) → IsTrue (is_shown (levels_of instance) (triple_from word)) → 0 < word → IsOfLevel instance word (open_level instance (triple_from word))
open-level instance word shown above =
    let parts = shown-parts (levels_of instance) (triple_from word) shown in
    let at = shape-level (levels_of instance) (triple_from word) (shape (levels_of instance) (triple_from word) parts.0) parts.1 (omega (arith, code-back word, above)) in
    record { within = at.0; above = omega (arith, at.1, code-back word); most = omega (arith, at.2, code-back word) }

-- ---- what assignments cost

cost-small : (instance : Instance) (plan : List ℕ) → (cost instance plan).k ≤ levels_of instance
unfolding cost_by
cost-small instance plan = clear-le (levels_of instance) (violations instance plan)

-- at the level below its own it violates something
cost-violates : (instance : Instance) (plan : List ℕ) → 0 < (cost instance plan).k → 0 < (cost instance plan).v
unfolding cost_by
cost-violates instance plan some =
    let count = violations instance plan in
    let k = clear_level (levels_of instance) count in
    omega (arith, before-clear (levels_of instance) count (k - 1) (omega (arith, some)), count_below-is count k some)

shape-within : (levels : ℕ) (t : Triple) → TagShape levels t → t.k ≤ levels → (level_code t.k ≤ code_of t) × (code_of t < level_code (t.k + 1))
shape-within levels t (limited some low high v s) small = (omega arith, omega (arith, v, s))
shape-within levels t (plain none nothing high) small = (omega (arith, none, nothing), omega (arith, none, nothing))

pub record IsCostLevel (instance : Instance) (plan : List ℕ) : Type 0 where
  pub within : (cost instance plan).k ≤ levels_of instance
  pub least : level_code (cost instance plan).k ≤ code_of (cost instance plan)
  pub more : 0 < (cost instance plan).k → level_code (cost instance plan).k < code_of (cost instance plan)
  pub below : code_of (cost instance plan) < level_code ((cost instance plan).k + 1)
  pub below_top : code_of (cost instance plan) < top_code instance

pub cost-level : (instance : Instance) (plan : List ℕ) → IsInstance instance → IsCostLevel instance plan
cost-level instance plan valid =
    let small = cost-small instance plan in
    let at = shape-within (levels_of instance) (cost instance plan) (shape (levels_of instance) (cost instance plan) (cost-tag instance plan valid)) small in
    record {
      within = small;
      least = at.0;
      more = λ some. omega (arith, cost-violates instance plan some);
      below = at.1;
      below_top = below-top instance (code_of (cost instance plan)) (cost-own instance plan valid) (λ e. absurd (omega (arith, small, ap (λ t. t.k) (cost-back instance plan valid), e)));
    }

-- what is implied at a tag costs no less
pub implied-cost : (instance : Instance) (plan : List ℕ) (literals lits : List Literal) (tag : ℕ) → IsInstance instance → Implied instance (triple_from tag) lits → HasAll literals lits →
    IsFeasible instance plan → Extends plan literals → tag ≤ code_of (cost instance plan)
implied-cost instance plan literals lits tag valid implied has feasible extends = ⊎_elim
    (λ less. absurd (implied plan feasible (Extends-fewer plan lits literals has extends)
    (subst (λ t. IsBelow t (triple_from tag)) (cost-back instance plan valid) (below-codes (code_of (cost instance plan)) tag less))))
    (λ high. high)
    (cases_lt (code_of (cost instance plan)) tag)

-- ---- what may be shown

shown-cost : (instance : Instance) (plan : List ℕ) → IsInstance instance → IsTrue (is_shown (levels_of instance) (cost instance plan))
shown-cost instance plan valid = and_from (is_tag (levels_of instance) (cost instance plan)) (has_limit (cost instance plan) || (eqb (cost instance plan).k 0 || eqb (cost instance plan).k (levels_of instance + 1)))
    (cost-tag instance plan valid) (⊎_elim
    (λ some. or_left (has_limit (cost instance plan)) (eqb (cost instance plan).k 0 || eqb (cost instance plan).k (levels_of instance + 1)) (lt-ltb 0 (cost instance plan).v (cost-violates instance plan some)))
    (λ none. or_right (has_limit (cost instance plan)) (eqb (cost instance plan).k 0 || eqb (cost instance plan).k (levels_of instance + 1))
    (or_left (eqb (cost instance plan).k 0) (eqb (cost instance plan).k (levels_of instance + 1)) (eq-eqb (cost instance plan).k 0 (omega (arith, none)))))
    (cases_lt 0 (cost instance plan).k))

pub top-back : (instance : Instance) → triple_from (top_code instance) ≡ top_tag instance
top-back instance = same-triple (triple_from (top_code instance)).k (triple_from (top_code instance)).v (triple_from (top_code instance)).s (levels_of instance + 1) 0 0 (omega arith) (omega arith) (omega arith)

shown-top : (instance : Instance) → IsTrue (is_shown (levels_of instance) (top_tag instance))
shown-top instance = and_from (is_tag (levels_of instance) (top_tag instance)) (has_limit (top_tag instance) || (eqb (levels_of instance + 1) 0 || eqb (levels_of instance + 1) (levels_of instance + 1)))
    (tag_from_plain (levels_of instance) (top_tag instance) refl refl (omega arith))
    (or_right (has_limit (top_tag instance)) (eqb (levels_of instance + 1) 0 || eqb (levels_of instance + 1) (levels_of instance + 1))
    (or_right (eqb (levels_of instance + 1) 0) (eqb (levels_of instance + 1) (levels_of instance + 1)) (eq-eqb (levels_of instance + 1) (levels_of instance + 1) refl)))

-- a kept assignment is feasible, and this is its cost
pub kept-plan : (instance : Instance) (logs : List LogState) (word : ℕ) → IsLeastWord instance logs word → (k : KeepsCost logs word) → IsFeasible instance k.best.plan × (word ≡ code_of (cost instance k.best.plan))
kept-plan instance logs word least k =
    let right : IsKeptRight instance (Some k.best) = subst (IsKeptRight instance) k.kept (All-contains (λ (log : LogState). IsKeptRight instance log.best) logs k.log least.right k.among) in
    (right.0, k.cost ∙ ap code_of right.1)

-- the least word may be shown
pub word-shown : (instance : Instance) (logs : List LogState) (word : ℕ) → IsInstance instance → IsLeastWord instance logs word → IsTrue (is_shown (levels_of instance) (triple_from word))
word-shown instance logs word valid least = ⊎_elim
    (λ none. subst (λ t. IsTrue (is_shown (levels_of instance) t)) (sym (ap triple_from none.0 ∙ top-back instance)) (shown-top instance))
    (λ (k : KeepsCost logs word).
    let kept = kept-plan instance logs word least k in
    subst (λ t. IsTrue (is_shown (levels_of instance) t)) (sym (ap triple_from kept.1 ∙ cost-back instance k.best.plan valid)) (shown-cost instance k.best.plan valid))
    least.is
