-- Lines stay well formed with Delete lines for what is cited no more.
use Rattle.std.proofs.Common.{ℕ, zero, suc, ◌-◌, ◌<◌, ◌≤◌, Bool, true, false, ◌&&◌, not, List, [], ◌∷◌, length, map, refl, subst, inl, inr, arith, All, ltb, leb, cond}
use Rattle.std.specs.List.{range_with_len}
use Rattle.std.proofs.lemmas.Bool.{and_parts, ltb-true}
use Rattle.std.proofs.lemmas.List.{length-map}
use Rattle.std.proofs.lemmas.List.FromFn.{length-range_with_len}
use Rattle.std.proofs.lemmas.List.Sums.{count_by-le-length, length-filter}
use Rattle.std.proofs.lemmas.List.Elements.{All-append, All-cons, All-contains, All-nil}
use Rattle.fapp_model.specs.declared.instance.Instance.{Instance}
use Rattle.fapp_model.specs.Instances.{IsNumber}
use Rattle.fapp_model.proofs.InOrder.{pairs-filter, pairs-map, rising}
use Rattle.fapp_model.proofs.Members.{All-from_members, from-filter, from-map, from-range, in-map}
use Rattle.cert_lines.specs.declared.answer.Child.{Child}
use Rattle.cert_lines.specs.declared.answer.Line.{Line}
use Rattle.cert_lines.specs.declared.answer.Rule.{Rule}
use Rattle.cert_lines.specs.declared.answer.Rule.TheVariants.{Branch, Count, Delete}
use Rattle.cert_lines.specs.WellFormed.{IsChild, IsDelete, IsLineOrDelete, IsLine, IsRule}
use Rattle.cert_lines.specs.acceptance.Excluded.{line_at, no_line}
use Rattle.cert_lines.specs.Renumbering.{cited, renumbered, renumbered_child, renumbered_rule}
use Rattle.accept_laws.specs.Compacting.{IsCompactable, cites, compacted, compacted_at, compacted_number, compacted_to, delete_behind, delete_line, ended, is_cited_behind, is_empty, is_last_cite}
use Rattle.accept_laws.proofs.Compacting.{length-front, number-rises, within}

module _ (instance : Instance) (lines : List Line) (formed : All (IsLine instance) lines) (few : IsNumber (length (compacted_to lines (length lines)))) (ready : (n : ℕ) → 0 < n → n ≤ length lines → IsCompactable lines n) where
  abbrev number : ℕ → ℕ
  number = compacted_number lines

  small-number : (k : ℕ) → 0 < k → k ≤ length lines → IsNumber (number k)
  small-number k low high = let w = within lines (length lines) k low high in omega arith

  rule-formed : (n : ℕ) → n ≤ length lines → (rule : Rule) → All (λ k. (0 < k) × (k < n)) (cited rule) → IsRule instance rule → IsRule instance (renumbered_rule number rule)
  rule-formed n most (Count named) earlier h = record {
    each = All-from_members IsNumber (map number named) (λ m c.
        let f = from-map number named m c in
        let k = All-contains (λ k. (0 < k) × (k < n)) named f.0 earlier f.1 in
        let high = k.1 in subst IsNumber f.2 (small-number f.0 k.0 (omega arith)));
    ascending = pairs-map (λ (a b : ℕ). a < b) number named (λ i j d less small. number-rises lines _ _ (h.ascending i j d less small));
    few = (let l = length-map named number in let f = h.few in omega arith);
  }
  rule-formed n most (Branch path children) earlier h = (
    h.0,
    record {
      each = All-from_members (IsChild instance path) (map (renumbered_child number) children) (λ z c.
          let f = from-map (renumbered_child number) children z c in
          let k = All-contains (λ k. (0 < k) × (k < n)) (map (λ (c : Child). c.cite) children) f.0.cite earlier (in-map (λ (c : Child). c.cite) children f.0 f.1) in
          let high = k.1 in
          subst (IsChild instance path) f.2 (record { choice = (All-contains (IsChild instance path) children f.0 h.1.each f.1).choice; cite = small-number f.0.cite k.0 (omega arith) }));
      ascending = pairs-map (λ (a b : Child). a.choice < b.choice) (renumbered_child number) children h.1.ascending;
    },
  )
  rule-formed n most (Delete named) earlier h = absurd h

  line-formed : (n : ℕ) → n < length lines → IsLine instance (renumbered number (line_at lines (suc n)))
  line-formed n small =
      let is : IsLine instance (line_at lines (suc n)) = formed (suc n - 1) no_line (omega arith) in
      record { tag = is.tag; lits = is.lits; rule = rule-formed (suc n) (omega arith) (line_at lines (suc n)).rule (ready (suc n) (omega arith) (omega arith)).earlier is.rule }

  delete-formed : (n : ℕ) → n ≤ length lines → IsDelete (delete_line (map number (ended lines n)))
  delete-formed n most = record {
    tag = refl;
    lits = refl;
    cites = map number (ended lines n);
    rule = refl;
    cites_are = record {
      each = All-from_members IsNumber (map number (ended lines n)) (λ m c.
          let f = from-map number (ended lines n) m c in
          let passed = from-filter (is_last_cite lines n) (range_with_len 0 n) f.0 f.1 in
          let below = from-range n f.0 passed.0 in
          let parts = and_parts (ltb 0 f.0 && leb 2 (length (line_at lines f.0).lits)) (cites (line_at lines n) f.0 && not (is_cited_behind lines n f.0)) passed.1 in
          subst IsNumber f.2 (small-number f.0 (ltb-true 0 f.0 (and_parts (ltb 0 f.0) (leb 2 (length (line_at lines f.0).lits)) parts.0).0) (omega arith)));
      ascending = pairs-map (λ (a b : ℕ). a < b) number (ended lines n) (λ i j d less small.
          number-rises lines _ _ (pairs-filter (λ (a b : ℕ). a < b) (is_last_cite lines n) (range_with_len 0 n) (rising 0 n) i j d less small));
      few =
          (let l = length-map (ended lines n) number in
          let f = length-filter (is_last_cite lines n) (range_with_len 0 n) in
          let c = count_by-le-length (is_last_cite lines n) (range_with_len 0 n) in
          let r = length-range_with_len 0 n in
          let w = length-front lines (length lines) in omega arith);
    };
  }

  behind-formed : (n : ℕ) → n ≤ length lines → All (IsLineOrDelete instance) (delete_behind lines n)
  behind-formed n most = by_empty (is_empty (ended lines n))
    where
      by_empty : (b : Bool) → All (IsLineOrDelete instance) (cond b [] (delete_line (map number (ended lines n)) ∷ []))
      by_empty true = All-nil (IsLineOrDelete instance)
      by_empty false = All-cons (IsLineOrDelete instance) (delete_line (map number (ended lines n))) [] (inr (delete-formed n most)) (All-nil (IsLineOrDelete instance))

  fronts-formed : (n : ℕ) → n ≤ length lines → All (IsLineOrDelete instance) (compacted_to lines n)
  fronts-formed zero most = All-nil (IsLineOrDelete instance)
  fronts-formed (suc n) most = All-append (IsLineOrDelete instance) (compacted_to lines n) (compacted_at lines (suc n)) (fronts-formed n (omega arith))
      (All-cons (IsLineOrDelete instance) (renumbered number (line_at lines (suc n))) (delete_behind lines (suc n)) (inl (line-formed n (omega arith))) (behind-formed (suc n) (omega arith)))

pub compacted-formed : (instance : Instance) (lines : List Line) → All (IsLine instance) lines → IsNumber (length (compacted lines)) → ((n : ℕ) → 0 < n → n ≤ length lines → IsCompactable lines n) → All (IsLineOrDelete instance) (compacted lines)
unfolding compacted
compacted-formed instance lines formed few ready = fronts-formed instance lines formed few ready (length lines) (omega arith)
