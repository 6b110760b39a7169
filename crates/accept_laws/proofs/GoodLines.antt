-- A line without a fault is implied, where the lines before it are.
use Rattle.std.proofs.Common.{◌≡◌, ℕ, zero, suc, ◌+◌, ◌-◌, ◌<◌, ◌≤◌, Bool, true, false, ◌&&◌, not, List, [], ◌∷◌, length, get_or, take, refl, subst, inl, inr, arith, None, All, Contains, IsTrue, ltb, leb, eqb, cond}
use Rattle.std.specs.List.{list_any, list_all, range_with_len}
use Rattle.std.proofs.lemmas.Bool.{and_parts, or_cases, both_ways, not-true, ltb-true, leb-true, eqb-true}
use Rattle.std.proofs.lemmas.List.{take_all}
use Rattle.std.proofs.lemmas.List.Sums.{AllPass-from_list_all}
use Rattle.std.proofs.lemmas.List.Elements.{All-contains, All-cons, All-nil, All-more, Contains-get_or}
use Rattle.fapp_model.specs.declared.instance.Instance.{Instance}
use Rattle.fapp_model.specs.declared.literal.Literal.{Literal}
use Rattle.fapp_model.specs.declared.tag.Tag.{Tag}
use Rattle.fapp_model.specs.Assignments.{count_at}
use Rattle.fapp_model.specs.Costs.{cost}
use Rattle.fapp_model.specs.search.Implied.{Implied}
use Rattle.fapp_model.specs.Instances.{IsInstance}
use Rattle.fapp_model.specs.search.Partials.{literal, names, IsLiteral, IsPartial}
use Rattle.fapp_model.specs.InstanceTags.{IsTagFor}
use Rattle.fapp_model.specs.Tags.{triple_from}
use Rattle.fapp_model.specs.Triples.{IsBelow}
use Rattle.cert_lines.specs.declared.answer.Child.{Child}
use Rattle.cert_lines.specs.declared.answer.Line.{Line}
use Rattle.cert_lines.specs.declared.answer.Rule.{Rule}
use Rattle.cert_lines.specs.declared.answer.Rule.TheVariants.{Count, Branch, Delete}
use Rattle.cert_lines.specs.WellFormed.{IsLineOrDelete, IsRule}
use Rattle.fapp_model.specs.search.Implied.{RulesOut}
use Rattle.fapp_model.specs.search.Partials.{HasAll}
use Rattle.fapp_model.proofs.Anys.{none-member, passing}
use Rattle.fapp_model.proofs.Members.{in-range, All-range}
use Rattle.dead_laws.proofs.DeadImplied.{dead_by-implied}
use Rattle.dead_laws.proofs.DeadLower.{nothing_below}
use Rattle.dead_laws.proofs.ImpliedLemmas.{Implied-lower, Implied-more, Implied-branch}
use Rattle.cert_lines.specs.declared.reject.RejectCause.TheVariants.{CiteDeleted, CiteNotEarlier, CiteNotContained, CiteTagTooLow, NotDead, WrongPath}
use Rattle.cert_lines.specs.acceptance.Contained.{has_all, has_all_but_one}
use Rattle.cert_lines.specs.acceptance.Deleted.{deletes, is_deleted, kept}
use Rattle.cert_lines.specs.acceptance.Excluded.{no_line, line_at, is_only, is_marked, is_cited, is_excluded}
use Rattle.cert_lines.specs.acceptance.LineFaults.{first_of, cause_unless, cite_fault, child_fault, delete_fault, is_dead, is_settled, count_fault, branch_fault, rule_fault, line_fault, fault_at, lines_fault, rejected_at}
use Rattle.accept_laws.specs.Lines.{AreGood, IsLineImplied}
use Rattle.fapp_model.proofs.CodeOrder.{codes-at_most}
use Rattle.cert_lines.proofs.Deleting.{all-kept}
use Rattle.accept_laws.proofs.Having.{only-literal, formed-partial}
use Rattle.cert_lines.proofs.Having.{has_all-each}
use Rattle.accept_laws.proofs.Judging.{judged-dead}
use Rattle.accept_laws.proofs.Options.{neither, cause_unless-none, first_of-none, none-first_of, mapped-none}

-- what a cite without a fault has passed
pub record IsGoodCite (earlier : List Line) (t : Tag) (contains : List Literal → Bool) (n : ℕ) : Type 0 where
  pub low : 0 < n
  pub high : n ≤ length earlier
  pub stays : is_deleted earlier n ≡ false
  pub contained : contains (line_at earlier n).lits ≡ true
  pub tag : t.code ≤ (line_at earlier n).tag.code

pub good-cite : (earlier : List Line) (t : Tag) (contains : List Literal → Bool) (n : ℕ) → cite_fault earlier t contains n ≡ None → IsGoodCite earlier t contains n
good-cite earlier t contains n h =
    let place = neither (cause_unless (ltb 0 n && leb n (length earlier)) CiteNotEarlier) _ h in
    let kept = neither (cause_unless (not (is_deleted earlier n)) CiteDeleted) _ place.1 in
    let rest = neither (cause_unless (contains (line_at earlier n).lits) CiteNotContained) (cause_unless (leb t.code (line_at earlier n).tag.code) CiteTagTooLow) kept.1 in
    let range = and_parts (ltb 0 n) (leb n (length earlier)) (cause_unless-none _ _ place.0) in
    record {
      low = ltb-true _ _ range.0;
      high = leb-true _ _ range.1;
      stays = not-true (is_deleted earlier n) (cause_unless-none _ _ kept.0);
      contained = cause_unless-none _ _ rest.0;
      tag = leb-true _ _ (cause_unless-none _ _ rest.1);
    }

-- what is not empty of [a] is in a ∷ literals
one-of-more : (a : Literal) (literals : List Literal) → HasAll (a ∷ literals) (a ∷ [])
one-of-more a literals = All-cons (Contains (a ∷ literals)) a [] (0, omega arith, refl) (All-nil (Contains (a ∷ literals)))

module _ (instance : Instance) (valid : IsInstance instance) (earlier : List Line) (implied : All (IsLineImplied instance) earlier) (t : Tag) (own : IsTagFor instance t) where
  line-implied : (line : Line) → IsLineImplied instance line → t.code ≤ line.tag.code → Implied instance (triple_from t.code) line.lits
  line-implied line h most = Implied-lower instance (triple_from line.tag.code) (triple_from t.code) line.lits (codes-at_most t.code line.tag.code most) h

  pub cite-implied : (contains : List Literal → Bool) (n : ℕ) → IsGoodCite earlier t contains n → Implied instance (triple_from t.code) (line_at earlier n).lits
  cite-implied contains n good = line-implied (line_at earlier n) (implied (n - 1) no_line (omega (arith, good.low, good.high))) good.tag

  marked-implied : (a : Literal) (literals : List Literal) → is_marked (kept earlier) t a ≡ true → Implied instance (triple_from t.code) (a ∷ literals)
  marked-implied a literals h =
      let found = passing (λ line. is_only a line.lits && leb t.code line.tag.code) (kept earlier) h in
      let parts = and_parts (is_only a found.item.lits) (leb t.code found.item.tag.code) found.passes in
      let one = line-implied found.item (All-contains (IsLineImplied instance) (kept earlier) found.item (all-kept (IsLineImplied instance) earlier implied) found.member) (leb-true _ _ parts.1) in
      Implied-more instance (triple_from t.code) (a ∷ []) (a ∷ literals) (one-of-more a literals)
      (subst (Implied instance (triple_from t.code)) (only-literal a found.item.lits parts.0) one)

  cited-implied : (contains : List Literal → Bool) (cites : List ℕ) (a : Literal) (literals : List Literal) → All (λ n. cite_fault earlier t contains n ≡ None) cites → is_cited earlier cites literals a ≡ true → Implied instance (triple_from t.code) (a ∷ literals)
  cited-implied contains cites a literals good h =
      let found = passing (λ n. has_all (a ∷ literals) (line_at earlier n).lits) cites h in
      let passed = good-cite earlier t contains found.item (All-contains (λ n. cite_fault earlier t contains n ≡ None) cites found.item good found.member) in
      Implied-more instance (triple_from t.code) (line_at earlier found.item).lits (a ∷ literals) (has_all-each (a ∷ literals) (line_at earlier found.item).lits found.passes)
      (cite-implied contains found.item passed)

  rules-out : (contains : List Literal → Bool) (cites : List ℕ) (literals : List Literal) → All (λ n. cite_fault earlier t contains n ≡ None) cites → RulesOut instance (triple_from t.code) literals (λ a. IsTrue (is_excluded earlier t cites literals a))
  rules-out contains cites literals good a at_home h =
      elim (or_cases (is_marked (kept earlier) t a) (is_cited earlier cites literals a) h) [
        | inl marked ↦ marked-implied a literals marked
        | inr cited ↦ cited-implied contains cites a literals good cited
      ]

  dead-implied : (contains : List Literal → Bool) (cites : List ℕ) (literals : List Literal) → IsPartial instance literals → All (λ n. cite_fault earlier t contains n ≡ None) cites → is_dead instance earlier t cites literals ≡ true → Implied instance (triple_from t.code) literals
  dead-implied contains cites literals partial good h =
      dead_by-implied (λ a. IsTrue (is_excluded earlier t cites literals a)) instance (triple_from t.code) literals valid own partial (rules-out contains cites literals good)
      (judged-dead (is_excluded earlier t cites literals) instance (triple_from t.code) literals h)

  count-implied : (literals : List Literal) (cites : List ℕ) → IsPartial instance literals → count_fault instance earlier t literals cites ≡ None → Implied instance (triple_from t.code) literals
  count-implied literals cites partial h =
      let parts = neither (first_of (cite_fault earlier t (has_all_but_one literals)) cites) (cause_unless (is_dead instance earlier t cites literals) NotDead) h in
      dead-implied (has_all_but_one literals) cites literals partial (first_of-none (cite_fault earlier t (has_all_but_one literals)) cites parts.0) (cause_unless-none (is_dead instance earlier t cites literals) NotDead parts.1)

  -- one more literal, of a path that is not named
  more-partial : (literals : List Literal) (path index : ℕ) → IsPartial instance literals → names literals path ≡ false → path < length instance.paths → index < count_at instance path → IsPartial instance (literal path index ∷ literals)
  more-partial literals path index partial free small below = record {
    in_range = All-cons (IsLiteral instance) (literal path index) literals (record { path = small; choice = below }) partial.in_range;
    distinct = apart;
  }
    where
      other : (k : ℕ) (d : Literal) → k < length literals → path ≡ (get_or literals k d).path → ⊥
      other k d l same =
          let off = none-member (λ a. eqb a.path path) literals free (get_or literals k d) (Contains-get_or literals k d l) in
          both_ways (eqb (get_or literals k d).path path) off (rw (← same) (eqb-same path))
        where
          eqb-same : (p : ℕ) → eqb p p ≡ true
          eqb-same p = grind arith

      apart : (i j : ℕ) (d : Literal) → i < j → j < length (literal path index ∷ literals) → (get_or (literal path index ∷ literals) i d).path ≡ (get_or (literal path index ∷ literals) j d).path → ⊥
      apart zero zero d less l same = omega arith
      apart zero (suc j) d less l same = other j d (omega arith) same
      apart (suc i) zero d less l same = omega arith
      apart (suc i) (suc j) d less l same = partial.distinct i j d (omega arith) (omega arith) same

  branch-implied : (literals : List Literal) (path : ℕ) (children : List Child) → IsPartial instance literals → path < length instance.paths → branch_fault instance earlier t literals path children ≡ None → Implied instance (triple_from t.code) literals
  branch-implied literals path children partial small h = Implied-branch instance (triple_from t.code) literals path small each
    where
      parts : (names literals path ≡ false) × All (λ child. child_fault earlier t literals path child ≡ None) children × (list_all (is_settled instance earlier t literals path children) (range_with_len 0 (count_at instance path)) ≡ true)
      parts =
          let first = neither (cause_unless (not (names literals path)) WrongPath) _ h in
          let rest = neither (first_of (child_fault earlier t literals path) children) (cause_unless (list_all (is_settled instance earlier t literals path children) (range_with_len 0 (count_at instance path))) NotDead) first.1 in
          (not-true (names literals path) (cause_unless-none (not (names literals path)) WrongPath first.0), first_of-none (child_fault earlier t literals path) children rest.0, cause_unless-none (list_all (is_settled instance earlier t literals path children) (range_with_len 0 (count_at instance path))) NotDead rest.1)

      by_child : (index : ℕ) → list_any (λ child. eqb child.choice index) children ≡ true → Implied instance (triple_from t.code) (literal path index ∷ literals)
      by_child index h =
          let found = passing (λ child. eqb child.choice index) children h in
          let same = eqb-true found.item.choice index found.passes in
          let passed = good-cite earlier t (has_all (literal path found.item.choice ∷ literals)) found.item.cite (All-contains (λ child. child_fault earlier t literals path child ≡ None) children found.item parts.1 found.member) in
          subst (λ c. Implied instance (triple_from t.code) (literal path c ∷ literals)) same
          (Implied-more instance (triple_from t.code) (line_at earlier found.item.cite).lits (literal path found.item.choice ∷ literals)
          (has_all-each (literal path found.item.choice ∷ literals) (line_at earlier found.item.cite).lits passed.contained)
          (cite-implied (has_all (literal path found.item.choice ∷ literals)) found.item.cite passed))

      each : (index : ℕ) → index < count_at instance path → Implied instance (triple_from t.code) (literal path index ∷ literals)
      each index below =
          let settled = All-contains (λ k. is_settled instance earlier t literals path children k ≡ true) (range_with_len 0 (count_at instance path)) index (AllPass-from_list_all (is_settled instance earlier t literals path children) (range_with_len 0 (count_at instance path)) parts.2) (in-range (count_at instance path) index below) in
          elim (or_cases (list_any (λ child. eqb child.choice index) children) (is_dead instance earlier t [] (literal path index ∷ literals)) settled) [
            | inl listed ↦ by_child index listed
            | inr dead ↦ dead-implied (has_all literals) [] (literal path index ∷ literals) (more-partial literals path index partial parts.0 small below) (All-nil (λ n. cite_fault earlier t (has_all literals) n ≡ None)) dead
          ]

  rule-implied : (literals : List Literal) (rule : Rule) → IsPartial instance literals → IsRule instance rule → rule_fault instance earlier t literals rule ≡ None → Implied instance (triple_from t.code) literals
  rule-implied literals (Count cites) partial formed h = count-implied literals cites partial h
  rule-implied literals (Branch path children) partial formed h = branch-implied literals path children partial formed.0 h
  rule-implied literals (Delete cites) partial formed h = absurd formed

-- nothing costs less than (0, 0, 0)
zero-implied : (instance : Instance) (code : ℕ) (literals : List Literal) → code ≡ 0 → Implied instance (triple_from code) literals
zero-implied instance code literals e = λ plan feasible extends below. nothing_below (cost instance plan) (subst (λ c. IsBelow (cost instance plan) (triple_from c)) e below)

pub good-line : (instance : Instance) → IsInstance instance → (earlier : List Line) → All (IsLineImplied instance) earlier → (line : Line) → IsLineOrDelete instance line → line_fault instance earlier line ≡ None → IsLineImplied instance line
unfolding line_fault
good-line instance valid earlier implied line (inr deleting) h = zero-implied instance line.tag.code line.lits deleting.tag
good-line instance valid earlier implied line (inl formed) h =
    by_code (eqb line.tag.code 0) refl (neither (first_of (delete_fault earlier) (deletes line.rule)) (cond (eqb line.tag.code 0) None (rule_fault instance earlier line.tag line.lits line.rule)) h).1
  where
    by_code : (b : Bool) → eqb line.tag.code 0 ≡ b → cond b None (rule_fault instance earlier line.tag line.lits line.rule) ≡ None → IsLineImplied instance line
    by_code true e g = zero-implied instance line.tag.code line.lits (eqb-true _ _ e)
    by_code false e g = rule-implied instance valid earlier implied line.tag formed.tag line.lits line.rule (formed-partial instance line.lits formed.lits) formed.rule g

-- all of a list, by what holds of each where it holds before
All-by-earlier : {X : Type 0} (P : X → Type 0) (xs : List X) (d : X) → ((n : ℕ) → n < length xs → All P (take n xs) → P (get_or xs n d)) → (n : ℕ) → n ≤ length xs → All P (take n xs)
All-by-earlier P xs d step zero small = All-nil P
All-by-earlier P xs d step (suc n) small =
    let before = All-by-earlier P xs d step n (omega arith) in
    subst (λ m. All P (take m xs)) (one n) (All-more P xs n d (omega arith) before (step n (omega arith) before))
  where
    one : (n : ℕ) → n + 1 ≡ suc n
    one n = omega arith

-- where a list of lines has no fault, each line is good, and the other way round
pub clean-lines : (instance : Instance) (lines : List Line) → lines_fault instance lines ≡ None → AreGood instance lines
unfolding lines_fault
clean-lines instance lines h n small =
    All-contains (λ k. fault_at instance lines k ≡ None) (range_with_len 0 (length lines)) n (first_of-none (fault_at instance lines) (range_with_len 0 (length lines)) h) (in-range (length lines) n small)

pub good-none : (instance : Instance) (lines : List Line) → AreGood instance lines → lines_fault instance lines ≡ None
unfolding lines_fault
good-none instance lines good = none-first_of (fault_at instance lines) (range_with_len 0 (length lines)) (All-range (λ k. fault_at instance lines k ≡ None) (length lines) good)

pub good-lines : (instance : Instance) (lines : List Line) → IsInstance instance → All (IsLineOrDelete instance) lines → AreGood instance lines → All (IsLineImplied instance) lines
good-lines instance lines valid formed good =
    subst (All (IsLineImplied instance)) (take-whole lines)
    (All-by-earlier (IsLineImplied instance) lines no_line each (length lines) (omega arith))
  where
    take-whole : (xs : List Line) → take (length xs) xs ≡ xs
    take-whole xs = take_all (length xs) xs (omega arith)

    each : (n : ℕ) → n < length lines → All (IsLineImplied instance) (take n lines) → IsLineImplied instance (get_or lines n no_line)
    each n small before =
        let clean = mapped-none (rejected_at (n + 1)) (line_fault instance (take n lines) (line_at lines (n + 1))) (good n small) in
        let same : n + 1 - 1 ≡ n = omega arith in
        good-line instance valid (take n lines) before (get_or lines n no_line) (formed n no_line small)
        (subst (λ m. line_fault instance (take n lines) (get_or lines m no_line) ≡ None) same clean)
