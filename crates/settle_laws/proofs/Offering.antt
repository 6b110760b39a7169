-- A cost that is kept and then offered.
use Rattle.std.proofs.Common.{◌≡◌, ◌⊎◌, ℕ, ◌<◌, ◌≤◌, min, List, [], ◌∷◌, length, Option, Some, None, Result, Ok, Err, IsTrue, refl, sym, ap, subst, ◌∙◌, inl, inr, ⊎_elim, arith, append-nil}
use Rattle.std.proofs.lemmas.Bool.{cases_lt, cases_order}
use Rattle.fapp_model.specs.declared.instance.Instance.{Instance}
use Rattle.fapp_model.specs.declared.level.TheConstants.{MAX_LEVELS}
use Rattle.fapp_model.specs.declared.literal.Literal.{Literal}
use Rattle.fapp_model.specs.declared.tag.Tag.{Tag}
use Rattle.fapp_model.specs.declared.triple.Triple.{Triple}
use Rattle.fapp_model.specs.Costs.{cost}
use Rattle.fapp_model.specs.Instances.{IsInstance}
use Rattle.fapp_model.specs.Least.{IsFeasible}
use Rattle.fapp_model.specs.Levels.{levels_of}
use Rattle.fapp_model.specs.Tags.{code_of, is_tag, triple_from}
use Rattle.fapp_model.specs.Triples.{IsAtMost, IsBelow}
use Rattle.fapp_model.proofs.LevelNumbers.{levels-few}
use Rattle.fapp_model.proofs.Members.{at_front}
use Rattle.cert_lines.proofs.Codes.{tag_within}
use Rattle.dead_laws.proofs.CostLaws.{cost-tag}
use Rattle.dead_laws.proofs.ImpliedLemmas.{IsBelow-trans}
use Rattle.search_log.specs.Segments.{IsGoodLog}
use Rattle.fapp_model.proofs.CodeOrder.{below-codes, codes-at_most}
use Rattle.search_log.specs.declared.log.KeptPlan.{KeptPlan}
use Rattle.search_log.specs.Bounds.{BoundState, Offers, floor, lowest, with_offer}
use Rattle.search_log.specs.LogStates.{LogState}
use Rattle.search_log.specs.Logs.{IsBetter, KeepsBest}
use Rattle.search_log.specs.Shares.{SharedState, known}
use Rattle.settle_laws.specs.declared.found.Found.{Found}
use Rattle.settle_laws.specs.Explained.{IsDeadPart}
use Rattle.settle_laws.specs.Lines.{IsConcluded, IsLined, OffersPlan}
use Rattle.settle_laws.specs.Ticks.{OfferedAtMost, OffersCost}
use Rattle.settle_laws.specs.Worlds.{IsKeptRight, IsLeastOffered, Keeps, KeepsAtMost, world}
use Rattle.settle_laws.proofs.Adding.{has-same, served-same}
use Rattle.settle_laws.proofs.FullPrefixes.{cost-back, not-below}
use Rattle.settle_laws.proofs.TagCodes.{same-triple}

-- ---- the bound

by-least : (least after : Option ℕ) (told told_after tag : ℕ) → told_after ≡ told → after ≡ with_offer least tag → (lowest told_after after ≤ lowest told least) × (lowest told_after after ≤ tag)
by-least None after told told_after tag e h = rw h (omega arith, omega arith)
by-least (Some n) after told told_after tag e h = rw h (omega arith, omega arith)

pub offers-falls : (b c : BoundState) (tag : ℕ) → Offers b c tag → (floor c ≤ floor b) × (floor c ≤ tag)
offers-falls b c tag h = by-least b.least c.least b.told c.told tag h.told h.least

floor-by : (told told_after : ℕ) (least after : Option ℕ) (tag : ℕ) → told_after ≡ told → after ≡ with_offer least tag → lowest told_after after ≡ min (lowest told least) tag
floor-by told told_after None after tag e h = rw h (omega (arith, e))
floor-by told told_after (Some n) after tag e h = rw h (omega (arith, e))

pub offers-floor : (b c : BoundState) (tag : ℕ) → Offers b c tag → floor c ≡ min (floor b) tag
offers-floor b c tag h = floor-by b.told c.told b.least c.least tag h.told h.least

least-by : (least after : Option ℕ) (tag most : ℕ) → after ≡ with_offer least tag → tag ≤ most → OfferedAtMost after most
least-by None after tag most h low = subst (λ o. OfferedAtMost o most) (sym h) low
least-by (Some n) after tag most h low = subst (λ o. OfferedAtMost o most) (sym h) (omega (arith, low))

pub offered-least : (b c : BoundState) (tag most : ℕ) → Offers b c tag → tag ≤ most → OfferedAtMost c.least most
offered-least b c tag most h low = least-by b.least c.least tag most h.least low

-- ---- the order of costs

below-or-not : (t u : Triple) → IsBelow t u ⊎ IsAtMost u t
below-or-not t u =
    elim (cases_order t.k u.k) [
      | inl k ↦ elim (cases_order t.v u.v) [
        | inl v ↦ elim (cases_order t.s u.s) [
          | inl s ↦ inr (inr (same-triple u.k u.v u.s t.k t.v t.s (sym k) (sym v) (sym s)))
          | inr (inl s) ↦ inl (inr (k, inr (v, s)))
          | inr (inr s) ↦ inr (inl (inr (sym k, inr (sym v, s))))
        ]
        | inr (inl v) ↦ inl (inr (k, inl v))
        | inr (inr v) ↦ inr (inl (inr (sym k, inl v)))
      ]
      | inr (inl k) ↦ inl (inl k)
      | inr (inr k) ↦ inr (inl (inl k))
    ]

codes-below : (c d : ℕ) → IsBelow (triple_from c) (triple_from d) → c < d
codes-below c d h = ⊎_elim (λ l. l) (λ g. absurd (not-below (triple_from c) (triple_from d) (codes-at_most d c g) h)) (cases_lt c d)

at-most-trans : (t u w : Triple) → IsBelow t u → IsAtMost u w → IsAtMost t w
at-most-trans t u w h (inl k) = inl (IsBelow-trans t u w h k)
at-most-trans t u w h (inr e) = inl (subst (λ x. IsBelow t x) e h)

-- ---- what is kept

-- with the tag of a cost
module _ (triple : Triple) (tag : ℕ) (is : triple ≡ triple_from tag) (plan : List ℕ) (old new : LogState) (keeps : KeepsBest old triple plan new) where
  pub same-lines : new.lines ≡ old.lines
  same-lines = ⊎_elim (λ h. ap (λ (l : LogState). l.lines) h.1) (λ h. ap (λ (l : LogState). l.lines) h.1) keeps

  pub same-segments : new.segments ≡ old.segments
  same-segments = ⊎_elim (λ h. ap (λ (l : LogState). l.segments) h.1) (λ h. ap (λ (l : LogState). l.segments) h.1) keeps

  -- by what was kept before
  better-than : (best : Option KeptPlan) → old.best ≡ best → (IsBetter triple best × (new.best ≡ Some (record { cost = triple; plan = plan }))) ⊎ ((IsBetter triple best → ⊥) × (new.best ≡ best))
  better-than best e = ⊎_elim
      (λ h. inl (subst (IsBetter triple) e h.0, ap (λ (l : LogState). l.best) h.1))
      (λ h. inr ((λ b. h.0 (subst (IsBetter triple) (sym e) b)), ap (λ (l : LogState). l.best) h.1 ∙ e))
      keeps

  least-offered : (best : Option KeptPlan) (least : Option ℕ) → IsLeastOffered best least → (IsBetter triple best × (new.best ≡ Some (record { cost = triple; plan = plan }))) ⊎ ((IsBetter triple best → ⊥) × (new.best ≡ best)) → IsLeastOffered new.best (with_offer least tag)
  least-offered None None h by = ⊎_elim (λ b. subst (λ o. IsLeastOffered o (Some tag)) (sym b.1) is) (λ n. absurd (n.0 tt)) by
  least-offered None (Some n) h by = absurd h
  least-offered (Some best) None h by = absurd h
  least-offered (Some best) (Some n) h by = ⊎_elim
      (λ b.
      let less : tag < n = codes-below tag n (subst (λ t. IsBelow t (triple_from n)) is (subst (λ u. IsBelow triple u) h b.0)) in
      let e : tag ≡ min n tag = omega arith in
      subst (λ o. IsLeastOffered o (Some (min n tag))) (sym b.1) (is ∙ ap triple_from e))
      (λ b.
      let most : n ≤ tag = ⊎_elim (λ l. absurd (b.0 (subst (λ u. IsBelow triple u) (sym h) (subst (λ t. IsBelow t (triple_from n)) (sym is) (below-codes tag n l))))) (λ g. g) (cases_lt tag n) in
      let e : n ≡ min n tag = omega arith in
      subst (λ o. IsLeastOffered o (Some (min n tag))) (sym b.1) (h ∙ ap triple_from e))
      by

  pub keeps-least : (least : Option ℕ) → IsLeastOffered old.best least → IsLeastOffered new.best (with_offer least tag)
  keeps-least least h = least-offered old.best least h (better-than old.best refl)

  pub keeps-right : (instance : Instance) → IsFeasible instance plan → triple ≡ cost instance plan → IsKeptRight instance old.best → IsKeptRight instance new.best
  keeps-right instance feasible e h = ⊎_elim
      (λ b. subst (IsKeptRight instance) (sym b.1) (feasible, e))
      (λ b. subst (IsKeptRight instance) (sym b.1) h)
      (better-than old.best refl)

  still-at-most : (n : ℕ) (best : Option KeptPlan) → KeepsAtMost best n → (IsBetter triple best × (new.best ≡ Some (record { cost = triple; plan = plan }))) ⊎ ((IsBetter triple best → ⊥) × (new.best ≡ best)) → KeepsAtMost new.best n
  still-at-most n None h by = absurd h
  still-at-most n (Some best) h by = ⊎_elim
      (λ b. subst (λ o. KeepsAtMost o n) (sym b.1) (at-most-trans triple best.cost (triple_from n) b.0 h))
      (λ b. subst (λ o. KeepsAtMost o n) (sym b.1) h)
      by

  pub keeps-better : (n : ℕ) → KeepsAtMost old.best n → KeepsAtMost new.best n
  keeps-better n h = still-at-most n old.best h (better-than old.best refl)

  at-most-this : (best : Option KeptPlan) → (IsBetter triple best × (new.best ≡ Some (record { cost = triple; plan = plan }))) ⊎ ((IsBetter triple best → ⊥) × (new.best ≡ best)) → KeepsAtMost new.best tag
  at-most-this None by = ⊎_elim (λ b. subst (λ o. KeepsAtMost o tag) (sym b.1) (inr is)) (λ n. absurd (n.0 tt)) by
  at-most-this (Some best) by = ⊎_elim
      (λ b. subst (λ o. KeepsAtMost o tag) (sym b.1) (inr is))
      (λ b. subst (λ o. KeepsAtMost o tag) (sym b.1) (⊎_elim (λ l. absurd (b.0 l)) (λ m. subst (λ t. IsAtMost best.cost t) is m) (below-or-not triple best.cost)))
      by

  pub keeps-this : KeepsAtMost new.best tag
  keeps-this = at-most-this old.best (better-than old.best refl)

pub lower-or-same : (least after : Option ℕ) (tag : ℕ) → after ≡ with_offer least tag → (after ≡ least) ⊎ (after ≡ Some tag)
lower-or-same None after tag e = inr e
lower-or-same (Some n) after tag e = ⊎_elim
    (λ l. let m : min n tag ≡ n = omega arith in inl (e ∙ ap (λ (k : ℕ). Some k) m))
    (λ g. let m : min n tag ≡ tag = omega arith in inr (e ∙ ap (λ (k : ℕ). Some k) m))
    (cases_lt n tag)

module _ (instance : Instance) (valid : IsInstance instance) (literals : List Literal) (fuel : ℕ) (bound after : BoundState) (shared : SharedState) (old new : LogState) (o : OffersPlan instance literals bound after old new) where
  own-triple : cost instance o.plan ≡ triple_from (code_of (cost instance o.plan))
  own-triple = sym (cost-back instance o.plan valid)

  pub kept-lines : new.lines ≡ old.lines
  kept-lines = same-lines (cost instance o.plan) (code_of (cost instance o.plan)) own-triple o.plan old new o.keeps

  kept-segments : new.segments ≡ old.segments
  kept-segments = same-segments (cost instance o.plan) (code_of (cost instance o.plan)) own-triple o.plan old new o.keeps

  pub offered-keeps : Keeps instance (world fuel bound shared old) (world fuel after shared new)
  offered-keeps = record {
    fuel = omega arith;
    copied = has-same shared.copied;
    published = refl;
    takes = refl;
    refusals = omega arith;
    lines = record { more = []; are = kept-lines ∙ sym (append-nil old.lines); plain = λ k d l. absurd (omega arith) };
    served = served-same instance old.lines new.lines kept-lines;
    segments = kept-segments;
    good = λ good. subst (λ segments. IsGoodLog instance (known shared) new.lines segments) (sym kept-segments) (subst (λ lines. IsGoodLog instance (known shared) lines old.segments) (sym kept-lines) good);
    began = o.offers.began;
    tells = omega (arith, o.offers.told);
    lowers = λ tag. (by-least bound.least after.least tag tag (code_of (cost instance o.plan)) refl o.offers.least).0;
    falls = (offers-falls bound after (code_of (cost instance o.plan)) o.offers).0;
    least = λ h. subst (IsLeastOffered new.best) (sym o.offers.least) (keeps-least (cost instance o.plan) (code_of (cost instance o.plan)) own-triple o.plan old new o.keeps bound.least h);
    right = keeps-right (cost instance o.plan) (code_of (cost instance o.plan)) own-triple o.plan old new o.keeps instance o.feasible refl;
    better = keeps-better (cost instance o.plan) (code_of (cost instance o.plan)) own-triple o.plan old new o.keeps;
  }

  pub offered-cost : length literals ≡ length instance.paths → (after.least ≡ bound.least) ⊎ OffersCost instance (literals ∷ []) (world fuel after shared new)
  offered-cost full = ⊎_elim
      (λ same. inl same)
      (λ e. inr (record {
        plan = o.plan;
        prefix = literals;
        ticked = at_front literals [];
        whole = record { full = full; feasible = o.feasible; extends = o.extends };
        offered = e;
        kept = keeps-this (cost instance o.plan) (code_of (cost instance o.plan)) own-triple o.plan old new o.keeps;
      }))
      (lower-or-same bound.least after.least (code_of (cost instance o.plan)) o.offers.least)

-- the line at the cost comes last
pub concluded : {E : Type 0} → (instance : Instance) (literals : List Literal) (bound after : BoundState) (old kept new : LogState) (tag : Tag) (o : OffersPlan instance literals bound after old kept) → tag.code ≡ code_of (cost instance o.plan) → (fewer : List Literal) → IsDeadPart instance tag.code literals fewer → (result : Result Found E) → IsLined instance fewer tag None [] kept new result → IsConcluded instance literals bound after old new result
concluded instance literals bound after old kept new tag o tag_is fewer part (Ok found) adds = record { kept = kept; tag = tag; offered = o; tag_is = tag_is; fewer = fewer; part = part; adds = adds }
concluded instance literals bound after old kept new tag o tag_is fewer part (Err e) same = inr (subst (λ l. OffersPlan instance literals bound after old l) (sym same) o)

pub cost-tag-code : (instance : Instance) (plan : List ℕ) (triple : Triple) → IsInstance instance → triple ≡ cost instance plan → IsTrue (is_tag MAX_LEVELS triple)
cost-tag-code instance plan triple valid e = subst (λ t. IsTrue (is_tag MAX_LEVELS t)) (sym e) (tag_within (levels_of instance) MAX_LEVELS (cost instance plan) (levels-few instance).1 (cost-tag instance plan valid))
