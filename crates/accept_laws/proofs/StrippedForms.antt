-- Lines stay well formed without the Delete lines.
use Rattle.std.proofs.Common.{◌≡◌, ◌⊎◌, ℕ, zero, suc, ◌+◌, ◌-◌, ◌<◌, ◌≤◌, Bool, true, false, List, length, map, filter, take, get_or, refl, ap, subst, ◌∙◌, inl, inr, arith, None, All, Contains, eqb, cond}
use Rattle.std.proofs.lemmas.Bool.{cases_Bool, cases_lt, eqb-false}
use Rattle.std.proofs.lemmas.List.{get_or-take, get_or_default, length-map, length-take}
use Rattle.std.proofs.lemmas.List.Sums.{count_by-le-length, count_by_more_no, count_by_more_yes}
use Rattle.std.proofs.lemmas.List.Elements.{All-contains, All-nil}
use Rattle.fapp_model.specs.declared.instance.Instance.{Instance}
use Rattle.fapp_model.specs.declared.literal.Literal.{Literal}
use Rattle.fapp_model.specs.declared.tag.Tag.{Tag}
use Rattle.fapp_model.specs.Instances.{IsNumber}
use Rattle.fapp_model.proofs.InOrder.{pairs-map, pairs-nil}
use Rattle.fapp_model.proofs.Members.{All-from_members, from-filter, from-map}
use Rattle.cert_lines.specs.declared.answer.Child.{Child}
use Rattle.cert_lines.specs.declared.answer.Line.{Line}
use Rattle.cert_lines.specs.declared.answer.Rule.{Rule}
use Rattle.cert_lines.specs.declared.answer.Rule.TheVariants.{Branch, Count, Delete}
use Rattle.cert_lines.specs.WellFormed.{IsChild, IsLineOrDelete, IsLine, IsRule}
use Rattle.cert_lines.specs.acceptance.Contained.{has_all_but_one}
use Rattle.cert_lines.specs.acceptance.Deleted.{deletes}
use Rattle.cert_lines.specs.acceptance.Excluded.{line_at, no_line}
use Rattle.cert_lines.specs.acceptance.LineFaults.{cite_fault, delete_fault, first_of, line_fault, rejected_at, rule_fault}
use Rattle.accept_laws.specs.Lines.{AreGood}
use Rattle.cert_lines.specs.Renumbering.{renumbered, renumbered_child, renumbered_rule}
use Rattle.cert_lines.specs.Stripping.{bare_rule, stays, stripped, stripped_from, stripped_line, stripped_number}
use Rattle.accept_laws.proofs.GoodLines.{good-cite}
use Rattle.accept_laws.proofs.Options.{first_of-none, mapped-none, neither}
use Rattle.accept_laws.proofs.Stripping.{above-stays, stays-line}

module _ (instance : Instance) (all : List Line) (formed : All (IsLineOrDelete instance) all) where
  abbrev number : ℕ → ℕ
  number = stripped_number all

  small-number : (n : ℕ) → IsNumber n → IsNumber (number n)
  small-number n known = let c = count_by-le-length stays (take n all) in let l = length-take n all in omega arith

  count-rises : (a b : ℕ) → a ≤ b → b ≤ length all → number a ≤ number b
  count-rises a zero most small = subst (λ k. number k ≤ number 0) (let e : 0 ≡ a = omega arith in e) (let z : number 0 ≤ number 0 = omega arith in z)
  count-rises a (suc b) most small = elim (cases_lt b a) [
    | inl over ↦ subst (λ k. number k ≤ number (suc b)) (let e : suc b ≡ a = omega arith in e) (let z : number (suc b) ≤ number (suc b) = omega arith in z)
    | inr within ↦ more (count-rises a b within (omega arith)) (cases_Bool (stays (get_or all b no_line)))
  ]
    where
      more : number a ≤ number b → (stays (get_or all b no_line) ≡ true) ⊎ (stays (get_or all b no_line) ≡ false) → number a ≤ number (suc b)
      more rest (inl e) = subst (λ m. number a ≤ number m) (let s : b + 1 ≡ suc b = omega arith in s) (let c = count_by_more_yes stays all b no_line (omega arith) e in omega arith)
      more rest (inr e) = subst (λ m. number a ≤ number m) (let s : b + 1 ≡ suc b = omega arith in s) (let c = count_by_more_no stays all b no_line (omega arith) e in omega arith)

  -- numbers rise up to a line that stays
  rises : (a b : ℕ) → a < b → b ≤ length all → stays (line_at all b) ≡ true → number a < number b
  rises a b less small e =
      let same : b - 1 + 1 ≡ b = omega arith in
      let before = count-rises a (b - 1) (omega arith) (omega arith) in
      subst (λ m. number a < number m) same (let c = count_by_more_yes stays all (b - 1) no_line (omega arith) e in omega arith)

  -- what is cited at a tag above (0, 0, 0) stays
  cited-stays : (n : ℕ) → n ≤ length all → (t : Tag) → 0 < t.code → (contains : List Literal → Bool) (k : ℕ) → cite_fault (take n all) t contains k ≡ None → (k ≤ length all) × (stays (line_at all k) ≡ true)
  cited-stays n most t some contains k clean =
      let g = good-cite (take n all) t contains k clean in
      let low = g.low in
      let high = g.high in
      let count = length-take n all in
      let at : line_at (take n all) k ≡ line_at all k = get_or-take n all (k - 1) no_line (omega arith) in
      (omega arith, above-stays instance all formed (line_at all k) (formed (k - 1) no_line (omega arith)) (let e = ap (λ (l : Line). l.tag.code) at in let r = g.tag in omega arith))

  bare-formed : (rule : Rule) → IsRule instance rule → IsRule instance (bare_rule rule)
  bare-formed (Count cites) h = record { each = All-nil IsNumber; ascending = pairs-nil (λ (a b : ℕ). a < b); few = omega arith }
  bare-formed (Branch path children) h = (h.0, record { each = All-nil (IsChild instance path); ascending = pairs-nil (λ (a b : Child). a.choice < b.choice) })
  bare-formed (Delete cites) h = absurd h

  rule-formed : (n : ℕ) → n ≤ length all → (t : Tag) → 0 < t.code → (lits : List Literal) (rule : Rule) → IsRule instance rule → rule_fault instance (take n all) t lits rule ≡ None → IsRule instance (renumbered_rule number rule)
  rule-formed n most t some lits (Count cites) h clean =
      let good = first_of-none (cite_fault (take n all) t (has_all_but_one lits)) cites (neither (first_of (cite_fault (take n all) t (has_all_but_one lits)) cites) _ clean).0 in
      record {
        each = All-from_members IsNumber (map number cites) (λ m c. let f = from-map number cites m c in subst IsNumber f.2 (small-number f.0 (All-contains IsNumber cites f.0 h.each f.1)));
        ascending = pairs-map (λ (a b : ℕ). a < b) number cites (λ i j d less small.
            let c = cited-stays n most t some (has_all_but_one lits) (get_or cites j d) (good j d small) in
            rises (get_or cites i d) (get_or cites j d) (h.ascending i j d less small) c.0 c.1);
        few = (let l = length-map cites number in let f = h.few in omega arith);
      }
  rule-formed n most t some lits (Branch path children) h clean = (
    h.0,
    record {
      each = All-from_members (IsChild instance path) (map (renumbered_child number) children) (λ z c. let f = from-map (renumbered_child number) children z c in
          let child = All-contains (IsChild instance path) children f.0 h.1.each f.1 in
          subst (IsChild instance path) f.2 (record { choice = child.choice; cite = small-number f.0.cite child.cite }));
      ascending = pairs-map (λ (a b : Child). a.choice < b.choice) (renumbered_child number) children h.1.ascending;
    },
  )
  rule-formed n most t some lits (Delete cites) h clean = absurd h

  line-formed : (n : ℕ) → n < length all → (line : Line) → IsLine instance line → line_fault instance (take n all) line ≡ None → IsLine instance (stripped_line all line)
  unfolding line_fault
  line-formed n small line is clean = by_zero (eqb line.tag.code 0) refl (neither (first_of (delete_fault (take n all)) (deletes line.rule)) (cond (eqb line.tag.code 0) None (rule_fault instance (take n all) line.tag line.lits line.rule)) clean).1
    where
      by_zero : (b : Bool) → eqb line.tag.code 0 ≡ b → cond b None (rule_fault instance (take n all) line.tag line.lits line.rule) ≡ None →
          IsLine instance (let l : Line = cond b (record { tag = line.tag; lits = line.lits; rule = bare_rule line.rule }) (renumbered number line) in l)
      by_zero true z g = record { tag = is.tag; lits = is.lits; rule = bare-formed line.rule is.rule }
      by_zero false z g = record { tag = is.tag; lits = is.lits; rule = rule-formed n (omega arith) line.tag (let apart = eqb-false line.tag.code 0 z in omega arith) line.lits line.rule is.rule g }

  pub stripped-formed : AreGood instance all → All (IsLine instance) (stripped all)
  unfolding stripped
  stripped-formed good = All-from_members (IsLine instance) (stripped_from all all) (λ x m.
      let f = from-map (stripped_line all) (filter stays all) x m in
      let passed = from-filter stays all f.0 f.1 in
      subst (IsLine instance) f.2 (at f.0 passed.0 passed.1))
    where
      at : (line : Line) → Contains all line → stays line ≡ true → IsLine instance (stripped_line all line)
      at line (i, small, e) stay =
          let same : i + 1 - 1 ≡ i = omega arith in
          let here : get_or all (i + 1 - 1) no_line ≡ line = ap (λ m. get_or all m no_line) same ∙ (get_or_default all i no_line line small ∙ e) in
          line-formed i small line (stays-line instance all formed line (All-contains (IsLineOrDelete instance) all line formed (i, small, e)) stay)
          (subst (λ l. line_fault instance (take i all) l ≡ None) here (mapped-none (rejected_at (i + 1)) (line_fault instance (take i all) (line_at all (i + 1))) (good i small)))
