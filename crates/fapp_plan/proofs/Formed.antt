-- The rule's verdict is well formed.
use Rattle.std.proofs.Common.{◌≢◌, ℕ, ◌+◌, ◌<◌, List, [], get_or, IsTrue, refl, sym, ap, ◌∙◌, subst, arith}
use Rattle.fapp_model.specs.declared.instance.Instance.{Instance}
use Rattle.fapp_model.specs.Levels.{levels_of}
use Rattle.fapp_model.specs.Tags.{triple_from}
use Rattle.fapp_model.specs.search.Jobs.{prefixes}
use Rattle.cert_lines.specs.declared.answer.Verdict.{Verdict}
use Rattle.cert_lines.specs.declared.answer.Verdict.TheVariants.{Best, NoneFeasible, Open}
use Rattle.cert_lines.specs.WellFormed.{IsVerdict, is_cost}
use Rattle.fapp_plan.specs.Outcomes.{Placed}
use Rattle.fapp_plan.specs.VerdictRule.{IsVerdictOf, open_level}
use Rattle.fapp_plan.proofs.Rules.{IsReady, open-rule, shown-is_cost, shown-is_tag, top-is}

module _ (instance : Instance) (split : ℕ) (outcomes : List Placed) (word arcs : ℕ) (ready : IsReady instance split outcomes word arcs) where
  pub rule-formed : (verdict : Verdict) → IsVerdictOf instance split outcomes word arcs verdict → IsVerdict instance verdict
  rule-formed NoneFeasible h = tt
  rule-formed (Best t) h =
      let low = h.0 in
      let apart : (triple_from word).k ≢ levels_of instance + 1 = λ e.
      let top = top-is instance word (shown-is_tag (levels_of instance) (triple_from word) ready.shown) e in omega arith in
      subst (λ u. IsTrue (is_cost (levels_of instance) u)) (sym h.2) (shown-is_cost (levels_of instance) (triple_from word) ready.shown apart)
  rule-formed (Open best lower level prefix) h =
      let below : lower.code < word = omega (arith, h.bound, h.unsettled) in
      (open-rule instance split outcomes word arcs ready best lower level h.place (get_or (prefixes instance split) h.place []) prefix h.shown h.bound below
      (h.at_level ∙ ap (open_level instance) (sym h.shown)) h.open_at refl h.named).1
