-- Lines of removed choices, and why each is good.
use Rattle.std.proofs.Common.{◌≡◌, ◌≢◌, ◌⊎◌, ℕ, ◌+◌, ◌-◌, ◌<◌, ◌≤◌, Bool, true, false, cond, ◌&&◌, not, eqb, leb, List, [], ◌∷◌, ◌++◌, length, take, get_or, fold, refl, sym, ap, ◌∙◌, subst, inl, inr, arith, All, Contains, Option, Some, None, is_none}
use Rattle.std.specs.List.{list_any, range_with_len}
use Rattle.std.specs.Option.{option_map}
use Rattle.std.proofs.lemmas.List.{get_or_append_left, get_or_push, length_push, take-append-le, take_at}
use Rattle.std.proofs.lemmas.List.Elements.{All-contains, All-push, Contains-append_left, Contains-get_or, Contains-push}
use Rattle.std.proofs.lemmas.List.Quantifiers.{all_pairs_push}
use Rattle.std.proofs.lemmas.Bool.{and_cases, and_from, and_left, and_right, or_left, or_right, both_ways, cases_lt, le-leb, not-false, not_from_false, eq-eqb, ne_eqb, or_cases, or_from}
use Rattle.fapp_model.specs.declared.instance.Instance.{Instance}
use Rattle.fapp_model.specs.declared.literal.Literal.{Literal}
use Rattle.fapp_model.specs.declared.triple.Triple.{Triple}
use Rattle.fapp_model.specs.declared.tag.Tag.{Tag}
use Rattle.fapp_model.specs.Assignments.{count_at}
use Rattle.fapp_model.specs.Tags.{code_of, mode_level, triple_from}
use Rattle.fapp_model.specs.search.Clashes.{blocks, clashes, clashes_with}
use Rattle.fapp_model.specs.search.Pairs.{Pair}
use Rattle.fapp_model.specs.search.Partials.{literal, names, IsLiteral}
use Rattle.fapp_model.specs.search.Weights.{added_pair}
use Rattle.fapp_model.proofs.Anys.{any-member}
use Rattle.fapp_model.proofs.Members.{All-from_members, at_front, behind, from-range, in-range}
use Rattle.cert_lines.specs.declared.answer.Line.{Line}
use Rattle.cert_lines.specs.declared.answer.Rule.{Rule}
use Rattle.cert_lines.specs.declared.reject.RejectCause.TheVariants.{NotDead}
use Rattle.cert_lines.specs.acceptance.Deleted.{is_delete}
use Rattle.cert_lines.proofs.Deleting.{IsPlain, plain-excluded, plain-line}
use Rattle.cert_lines.specs.acceptance.Contained.{is_same}
use Rattle.cert_lines.specs.acceptance.Excluded.{line_at, no_line, is_excluded, is_marked, is_cited, is_only}
use Rattle.cert_lines.specs.acceptance.Judged.{has_clash, is_over, is_stuck, judged_dead, least_pair, lesser, remains, with_choice}
use Rattle.cert_lines.specs.acceptance.LineFaults.{IsGoodLine, line_fault, is_dead, rejected_at, rule_fault}
use Rattle.arc_levels.specs.Heights.{IsLonelyFrom, arc_of, is_partner, height_at}
use Rattle.arc_levels.specs.Removals.{AreLines, IsLineAt, IsLineHere, marked, plain_tag}
use Rattle.arc_levels.proofs.HeightLaws.{height_either, height_same}

-- ---- what the choices before a line exclude

same_itself : (a : Literal) → is_same a a ≡ true
same_itself a = and_from (eqb a.path a.path) (eqb a.choice a.choice) (eq-eqb a.path a.path refl) (eq-eqb a.choice a.choice refl)

codes_rise : (m n : ℕ) → m ≤ n → code_of (plain_tag m) ≤ code_of (plain_tag n)
codes_rise m n h = omega (arith, h)

-- a choice's line excludes it at its tag and at each lower one
pub line_excludes : (lines : List Line) (line : Line) (b : Literal) (m n : ℕ) (t : Tag) (literals : List Literal) → All IsPlain lines → Contains lines line → IsLineAt b m line → t.code ≡ code_of (plain_tag n) → n ≤ m →
    is_excluded lines t [] literals b ≡ true
line_excludes lines line b m n t literals plain member is code below =
    plain-excluded lines plain t [] literals b
    ∙ or_left (is_marked lines t b) (is_cited lines [] literals b)
    (any-member (λ l. is_only b l.lits && leb t.code l.tag.code) lines line member
    (and_from (is_only b line.lits) (leb t.code line.tag.code)
    (subst (λ xs. is_only b xs ≡ true) (sym is.lits) (same_itself b))
    (le-leb _ _ (omega (arith, code, is.code, codes_rise n m below)))))

lines-plain : (instance : Instance) (rows : List (List ℕ)) (lines : List Line) → AreLines instance rows lines → All IsPlain lines
lines-plain instance rows lines lined = λ i d small. ap is_delete (lined.formed i d small).is.rule

-- ---- a path without remaining choices

none_found : (excluded : Literal → Bool) (instance : Instance) (level : ℕ) (literals : List Literal) (path : ℕ) (xs : List ℕ) →
    ((x : ℕ) → Contains xs x → remains excluded instance level literals (literal path x) ≡ false) → fold (with_choice excluded instance level literals path) None xs ≡ None
none_found excluded instance level literals path [] none = refl
none_found excluded instance level literals path (x ∷ xs) none =
    let here : with_choice excluded instance level literals path None x ≡ None =
    ap (λ t. cond t (Some (lesser None (added_pair instance level literals (literal path x)))) None) (none x (at_front x xs)) in
    subst (λ (o : Option Pair). fold (with_choice excluded instance level literals path) o xs ≡ None) (sym here)
    (none_found excluded instance level literals path xs (λ y c. none y (behind x xs y c)))

pub no_least : (excluded : Literal → Bool) (instance : Instance) (level : ℕ) (literals : List Literal) (path : ℕ) →
    ((index : ℕ) → index < count_at instance path → remains excluded instance level literals (literal path index) ≡ false) → least_pair excluded instance level literals path ≡ None
unfolding least_pair
no_least excluded instance level literals path none =
    none_found excluded instance level literals path (range_with_len 0 (count_at instance path)) (λ x c. none x (from-range (count_at instance path) x c))

clashes_turned : (instance : Instance) (level : ℕ) (a b : Literal) → clashes instance level a b ≡ true → clashes_with instance level (a ∷ []) b ≡ true
clashes_turned instance level a b e = elim (or_cases (blocks instance level a b) (blocks instance level b a) e) [
  | inl front ↦ or_left (clashes instance level b a) false (or_right (blocks instance level b a) (blocks instance level a b) front)
  | inr back ↦ or_left (clashes instance level b a) false (or_left (blocks instance level b a) (blocks instance level a b) back)
]

-- a choice that is no partner is excluded, or clashes
gone : (instance : Instance) (level : ℕ) (rows : List (List ℕ)) (lines : List Line) (t : Tag) (a b : Literal) → AreLines instance rows lines → IsLiteral instance b → t.code ≡ code_of (plain_tag (level + 1)) →
    is_partner instance level rows a b ≡ false → remains (is_excluded lines t [] (a ∷ [])) instance level (a ∷ []) b ≡ false
gone instance level rows lines t a b lined home code lone =
    elim (and_cases (arc_of rows level b) (not (clashes instance level a b)) lone) [
      | inl out ↦ and_left (not (is_excluded lines t [] (a ∷ []) b)) _ (not_true (excluded (cases_lt level (height_at rows b.path b.choice)) out))
      | inr bad ↦ and_right (not (is_excluded lines t [] (a ∷ []) b)) (not (clashes_with instance level (a ∷ []) b)) (not_true (clashes_turned instance level a b (not-false _ bad)))
    ]
  where
    not_true : {x : Bool} → x ≡ true → not x ≡ false
    not_true e = ap not e

    excluded : (level < height_at rows b.path b.choice) ⊎ (height_at rows b.path b.choice ≤ level) → arc_of rows level b ≡ false → is_excluded lines t [] (a ∷ []) b ≡ true
    excluded (inl above) out =
        let line = lined.each b home (omega (arith, above)) in
        line_excludes lines line.0 b (height_at rows b.path b.choice) (level + 1) t (a ∷ []) (lines-plain instance rows lines lined) line.1 line.2 code (omega (arith, above))
    excluded (inr low) out = absurd (both_ways _ out (le-leb _ _ low))

-- ---- the line of a lonely choice

plain_level : (t : Triple) (level : ℕ) → t ≡ plain_tag (level + 1) → mode_level t ≡ level
plain_level t level e = ap mode_level e ∙ omega arith

pub judged : (instance : Instance) (level : ℕ) (rows : List (List ℕ)) (lines : List Line) (t : Tag) (a : Literal) (q : ℕ) → AreLines instance rows lines → q < length instance.paths → (q ≡ a.path → ⊥) →
    t.code ≡ code_of (plain_tag (level + 1)) → triple_from t.code ≡ plain_tag (level + 1) → IsLonelyFrom instance level rows a q 0 → is_dead instance lines t [] (a ∷ []) ≡ true
unfolding judged_dead
judged instance level rows lines t a q lined inside apart code triple lonely =
    or_right (has_clash instance (mode_level (triple_from t.code)) (a ∷ [])) _
    (or_right (list_any excluded (a ∷ [])) _
    (or_left (list_any (is_stuck excluded instance (mode_level (triple_from t.code)) (a ∷ [])) (range_with_len 0 (length instance.paths))) (is_over excluded instance (triple_from t.code) (a ∷ []))
    (any-member (is_stuck excluded instance (mode_level (triple_from t.code)) (a ∷ [])) (range_with_len 0 (length instance.paths)) q (in-range _ _ inside) stuck)))
  where
    excluded : Literal → Bool
    excluded = is_excluded lines t [] (a ∷ [])

    level_is : mode_level (triple_from t.code) ≡ level
    level_is = plain_level (triple_from t.code) level triple

    unnamed : names (a ∷ []) q ≡ false
    unnamed = or_from (eqb a.path q) false (ne_eqb _ _ (λ same. apart (sym same))) refl

    none : is_none (least_pair excluded instance level (a ∷ []) q) ≡ true
    none = ap is_none (no_least excluded instance level (a ∷ []) q (λ index small. gone instance level rows lines t a (literal q index) lined (record { path = inside; choice = small }) code (lonely index (omega arith) small)))

    stuck : is_stuck excluded instance (mode_level (triple_from t.code)) (a ∷ []) q ≡ true
    stuck = and_from (not (names (a ∷ []) q)) _ (not_from_false _ unnamed) (subst (λ l. is_none (least_pair excluded instance l (a ∷ []) q) ≡ true) (sym level_is) none)

either_none : {X : Type 0} (b : Bool) (x : Option X) → x ≡ None → cond b None x ≡ None
either_none true x e = refl
either_none false x e = e

pub no_fault : (instance : Instance) (level : ℕ) (rows : List (List ℕ)) (lines : List Line) (line : Line) (a : Literal) (q : ℕ) → AreLines instance rows lines → q < length instance.paths → (q ≡ a.path → ⊥) →
    IsLineAt a (level + 1) line → IsLonelyFrom instance level rows a q 0 → line_fault instance lines line ≡ None
unfolding line_fault
no_fault instance level rows lines line a q lined inside apart is lonely =
    plain-line instance lines line (ap is_delete is.rule)
    (either_none (eqb line.tag.code 0) (rule_fault instance lines line.tag line.lits line.rule)
    (subst (λ (xs : List Literal). rule_fault instance lines line.tag xs line.rule ≡ None) (sym is.lits)
    (subst (λ (r : Rule). rule_fault instance lines line.tag (a ∷ []) r ≡ None) (sym is.rule)
    (ap (λ t. cond t None (Some NotDead)) (judged instance level rows lines line.tag a q lined inside apart is.code is.triple lonely)))))

-- ---- one more line

good_from : (instance : Instance) (lines earlier : List Line) (line : Line) (n : ℕ) → take n lines ≡ earlier → get_or lines n no_line ≡ line → line_fault instance earlier line ≡ None → IsGoodLine instance lines n
good_from instance lines earlier line n before here fine =
    ap (λ x. option_map (rejected_at (n + 1)) (line_fault instance (take n lines) (get_or lines x no_line))) (back n)
    ∙ (ap (λ (xs : List Line). option_map (rejected_at (n + 1)) (line_fault instance xs (get_or lines n no_line))) before
    ∙ (ap (λ (l : Line). option_map (rejected_at (n + 1)) (line_fault instance earlier l)) here
    ∙ ap (option_map (rejected_at (n + 1))) fine))
  where
    back : (n : ℕ) → (n + 1) - 1 ≡ n
    back n = omega arith

mapped_none : {X Y : Type 0} (f : X → Y) (o : Option X) → option_map f o ≡ None → o ≡ None
mapped_none f None h = refl
mapped_none f (Some x) h = absurd (cc)

fine_from : (instance : Instance) (lines : List Line) (n : ℕ) → IsGoodLine instance lines n → line_fault instance (take n lines) (get_or lines n no_line) ≡ None
fine_from instance lines n good =
    ap (λ x. line_fault instance (take n lines) (get_or lines x no_line)) (sym (back n)) ∙ mapped_none (rejected_at (n + 1)) (line_fault instance (take n lines) (line_at lines (n + 1))) good
  where
    back : (n : ℕ) → (n + 1) - 1 ≡ n
    back n = omega arith

good_more : (instance : Instance) (lines : List Line) (line : Line) → ((n : ℕ) → n < length lines → IsGoodLine instance lines n) → line_fault instance lines line ≡ None →
    (n : ℕ) → n < length (lines ++ line ∷ []) → IsGoodLine instance (lines ++ line ∷ []) n
good_more instance lines line good fine n below = by_place (cases_lt n (length lines))
  where
    by_place : (n < length lines) ⊎ (length lines ≤ n) → IsGoodLine instance (lines ++ line ∷ []) n
    by_place (inl less) = good_from instance (lines ++ line ∷ []) (take n lines) (get_or lines n no_line) n
        (take-append-le n lines (line ∷ []) (omega arith)) (get_or_append_left lines (line ∷ []) no_line n less) (fine_from instance lines n (good n less))
    by_place (inr more) =
        let place : length lines ≡ n = omega (arith, length_push lines line) in
        good_from instance (lines ++ line ∷ []) lines line n (take_at lines (line ∷ []) n place) (get_or_push lines line no_line n place) fine

module _ (instance : Instance) (rows : List (List ℕ)) (p k level : ℕ) (h : p < length rows) (l : k < length (get_or rows p [])) (fresh : height_at rows p k ≡ 0) where
  abbrev after : List (List ℕ)
  after = marked rows p k (level + 1)

  -- a choice that was removed before is another one
  still : (b : Literal) → 0 < height_at rows b.path b.choice → height_at after b.path b.choice ≡ height_at rows b.path b.choice
  still b some = elim (height_either rows p k (level + 1) b.path b.choice h) [
    | inl (same, here) ↦ absurd (let e : height_at rows b.path b.choice ≡ 0 = subst (λ x. height_at rows x b.choice ≡ 0) (sym same) (subst (λ x. height_at rows p x ≡ 0) (sym here) fresh) in omega (arith, e, some))
    | inr stays ↦ stays
  ]

  here_still : (line : Line) → IsLineHere instance rows line → IsLineHere instance after line
  here_still line f = record {
    lit = f.lit;
    inside = f.inside;
    is = subst (λ x. IsLineAt f.lit x line) (sym (still f.lit f.removed)) f.is;
    removed = subst (λ x. 0 < x) (sym (still f.lit f.removed)) f.removed;
  }

  other_lits : (line new : Line) → IsLineHere instance rows line → new.lits ≡ literal p k ∷ [] → line.lits ≢ new.lits
  other_lits line new f is same =
      let lit : f.lit ≡ literal p k = ap (λ (xs : List Literal). get_or xs 0 (literal p k)) (sym f.is.lits ∙ (same ∙ is)) in
      let e : height_at rows f.lit.path f.lit.choice ≡ 0 = subst (λ (b : Literal). height_at rows b.path b.choice ≡ 0) (sym lit) fresh in
      omega (arith, e, f.removed)

  each_more : (lines : List Line) (line : Line) → AreLines instance rows lines → IsLineAt (literal p k) (level + 1) line → (a : Literal) → 0 < height_at after a.path a.choice → IsLiteral instance a →
      (other : Line) × Contains (lines ++ line ∷ []) other × IsLineAt a (height_at after a.path a.choice) other
  each_more lines line lined is a some home = elim (height_either rows p k (level + 1) a.path a.choice h) [
    | inl (same, here) ↦
        let lit : literal p k ≡ a = sym (ap (λ x. literal x a.choice) same ∙ ap (literal p) here) in
        let at : IsLineAt (literal p k) (height_at after p k) line = subst (λ x. IsLineAt (literal p k) x line) (sym (height_same rows p k (level + 1) h l)) is in
        (line, Contains-push lines line, subst (λ (b : Literal). IsLineAt b (height_at after b.path b.choice) line) lit at)
    | inr stays ↦
        let old = lined.each a home (subst (λ x. 0 < x) stays some) in
        (old.0, Contains-append_left lines (line ∷ []) old.0 old.1, subst (λ x. IsLineAt a x old.0) (sym stays) old.2)
  ]

  pub lines_more : (lines : List Line) (line : Line) → AreLines instance rows lines → IsLiteral instance (literal p k) → IsLineAt (literal p k) (level + 1) line → line_fault instance lines line ≡ None →
      AreLines instance after (lines ++ line ∷ [])
  lines_more lines line lined home is fine = record {
    formed = All-push (IsLineHere instance after) lines line
        (All-from_members (IsLineHere instance after) lines (λ x c. here_still x (All-contains (IsLineHere instance rows) lines x lined.formed c)))
        (record {
          lit = literal p k;
          inside = home;
          is = subst (λ x. IsLineAt (literal p k) x line) (sym (height_same rows p k (level + 1) h l)) is;
          removed = omega (arith, height_same rows p k (level + 1) h l);
        });
    each = λ a home some. each_more lines line lined is a some home;
    once = all_pairs_push (λ x y. x.lits ≢ y.lits) lines line lined.once (λ i d less.
        other_lits (get_or lines i d) line (All-contains (IsLineHere instance rows) lines (get_or lines i d) lined.formed (Contains-get_or lines i d less)) is.lits);
    good = good_more instance lines line lined.good fine;
  }
