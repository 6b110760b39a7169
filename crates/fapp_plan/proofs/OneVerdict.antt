-- The rule gives one verdict.
use Rattle.std.proofs.Common.{◌≡◌, ℕ, ◌<◌, ◌≤◌, List, [], get_or, refl, sym, ap, ◌∙◌, ⊎_elim, arith}
use Rattle.std.proofs.lemmas.Bool.{cases_lt}
use Rattle.fapp_model.specs.declared.instance.Instance.{Instance}
use Rattle.fapp_model.specs.declared.literal.Literal.{Literal}
use Rattle.fapp_model.specs.declared.tag.Tag.{Tag}
use Rattle.fapp_model.specs.declared.triple.Triple.{Triple}
use Rattle.cert_lines.specs.declared.answer.Verdict.{Verdict}
use Rattle.cert_lines.specs.declared.answer.Verdict.TheVariants.{Best, NoneFeasible, Open}
use Rattle.cert_lines.proofs.TagLemmas.{same_tag}
use Rattle.fapp_plan.specs.Outcomes.{Placed}
use Rattle.fapp_model.specs.search.Jobs.{prefixes}
use Rattle.fapp_plan.specs.Sorting.{by_path}
use Rattle.fapp_plan.specs.VerdictRule.{IsFirstOpen, IsOpenOf, IsVerdictOf}

-- the first open prefix is one
one-place : (instance : Instance) (split : ℕ) (outcomes : List Placed) (word p q : ℕ) → IsFirstOpen instance split outcomes word p → IsFirstOpen instance split outcomes word q → p ≡ q
one-place instance split outcomes word p q h k = ⊎_elim
    (λ (low : p < q). let early = k.first p low in let open_at = h.below in absurd (omega arith))
    (λ (high : q ≤ p). ⊎_elim
    (λ (low : q < p). let early = h.first q low in let open_at = k.below in absurd (omega arith))
    (λ (other : p ≤ q). omega arith)
    (cases_lt q p))
    (cases_lt p q)

same-open : (best other : Triple) (lower limit : Tag) (level depth : ℕ) (prefix more : List Literal) → best ≡ other → lower ≡ limit → level ≡ depth → prefix ≡ more →
    Open best lower level prefix ≡ Open other limit depth more
same-open best other lower limit level depth prefix more a b c d = rw (a, b, c, d) refl

module _ (instance : Instance) (split : ℕ) (outcomes : List Placed) (word arcs : ℕ) where
  open-open : (best other : Triple) (lower limit : Tag) (level depth : ℕ) (prefix more : List Literal) →
      IsOpenOf instance split outcomes word arcs best lower level prefix → IsOpenOf instance split outcomes word arcs other limit depth more →
      Open best lower level prefix ≡ Open other limit depth more
  open-open best other lower limit level depth prefix more h k =
      let place = one-place instance split outcomes word h.place k.place h.open_at k.open_at in
      same-open best other lower limit level depth prefix more (h.shown ∙ sym k.shown) (same_tag lower limit (h.bound ∙ sym k.bound)) (h.at_level ∙ sym k.at_level)
      (h.named ∙ (ap (λ n. by_path (get_or (prefixes instance split) n [])) place ∙ sym k.named))

  pub one-verdict : (one other : Verdict) → IsVerdictOf instance split outcomes word arcs one → IsVerdictOf instance split outcomes word arcs other → one ≡ other
  one-verdict NoneFeasible NoneFeasible h k = refl
  one-verdict NoneFeasible (Best t) h k = let top = h.0 in let low = k.0 in absurd (omega arith)
  one-verdict NoneFeasible (Open best lower level prefix) h k = let top = h.0 in let whole = h.1 in let low = k.unsettled in absurd (omega arith)
  one-verdict (Best t) NoneFeasible h k = let top = k.0 in let low = h.0 in absurd (omega arith)
  one-verdict (Best t) (Best u) h k = ap Best (h.2 ∙ sym k.2)
  one-verdict (Best t) (Open best lower level prefix) h k = let most = h.1 in let low = k.unsettled in absurd (omega arith)
  one-verdict (Open best lower level prefix) NoneFeasible h k = let top = k.0 in let whole = k.1 in let low = h.unsettled in absurd (omega arith)
  one-verdict (Open best lower level prefix) (Best t) h k = let most = k.1 in let low = h.unsettled in absurd (omega arith)
  one-verdict (Open best lower level prefix) (Open other limit depth more) h k = open-open best other lower limit level depth prefix more h k
