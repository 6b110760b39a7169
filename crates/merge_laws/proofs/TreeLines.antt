-- The lines of the plan's tree, one by one.
use Rattle.std.proofs.Common.{◌≡◌, ℕ, zero, suc, ◌<◌, ◌≤◌, true, false, ◌||◌, not, List, [], ◌∷◌, length, count_by, refl, sym, subst, ◌∙◌, inl, inr, arith, None, All, Contains, eqb, leb}
use Rattle.std.specs.List.{list_any, list_all, range_with_len}
use Rattle.std.proofs.lemmas.Bool.{and_from, or_left, or_right, eq-eqb, ne_eqb, le-leb, not_from_false}
use Rattle.std.proofs.lemmas.List.Elements.{All-contains}
use Rattle.fapp_model.specs.declared.instance.Instance.{Instance}
use Rattle.fapp_model.specs.declared.literal.Literal.{Literal}
use Rattle.fapp_model.specs.declared.tag.Tag.{Tag}
use Rattle.fapp_model.specs.Assignments.{count_at}
use Rattle.fapp_model.specs.Instances.{IsInstance}
use Rattle.fapp_model.specs.InstanceTags.{IsTagFor}
use Rattle.fapp_model.specs.Tags.{triple_from}
use Rattle.fapp_model.specs.search.Dead.{Dead, DeadBy, outside_literal, no_choice_left}
use Rattle.fapp_model.specs.search.Partials.{HasAll, literal, names, IsPartial}
use Rattle.fapp_model.proofs.Anys.{any-member}
use Rattle.fapp_model.proofs.Members.{at_front, behind, from-range, front_or_behind, no_member}
use Rattle.cert_lines.specs.declared.answer.Child.{Child}
use Rattle.cert_lines.specs.declared.answer.Line.{Line}
use Rattle.cert_lines.specs.declared.answer.Rule.TheVariants.{Branch, Count}
use Rattle.cert_lines.specs.declared.reject.RejectCause.TheVariants.{NotDead, WrongPath}
use Rattle.cert_lines.specs.acceptance.Contained.{has, has_all, has_all_but_one}
use Rattle.cert_lines.specs.acceptance.Excluded.{is_cited, is_excluded, is_marked, line_at}
use Rattle.cert_lines.specs.acceptance.LineFaults.{first_of, cause_unless, child_fault, cite_fault, is_dead, is_settled, branch_fault, count_fault, line_fault}
use Rattle.dead_laws.proofs.DeadLower.{dead_lower}
use Rattle.dead_laws.proofs.DeadMore.{dead-more}
use Rattle.fapp_model.proofs.CodeOrder.{codes-at_most}
use Rattle.accept_laws.proofs.Judging.{judged-where-excluded}
use Rattle.accept_laws.proofs.Options.{both-none}
use Rattle.search_log.specs.Contents.{Content}
use Rattle.cert_lines.proofs.Deleting.{IsPlain, plain-excluded}
use Rattle.merge_laws.specs.Fates.{AreMarked, IsFate, StandsAt}
use Rattle.merge_laws.specs.Levels.{cites_of}
use Rattle.accept_laws.proofs.Renumbering.{above-least, passes-none}
use Rattle.merge_laws.proofs.Clean.{all-from, clean-cite, first_of-clean, has-from, has_all-from}
use Rattle.merge_laws.proofs.WrittenLines.{marked-judged}

-- what a line at a tag says
abbrev pub says : Tag → List Literal → Content
says t literals = record { tag = t.code; lits = literals }

-- a line of a tag above (0, 0, 0)
from-count : (instance : Instance) (out : List Line) (t : Tag) (literals : List Literal) (cites : List ℕ) → 0 < t.code → count_fault instance out t literals cites ≡ None → line_fault instance out (record { tag = t; lits = literals; rule = Count cites }) ≡ None
unfolding line_fault
from-count instance out t literals cites some h = rw (ne_eqb t.code 0 (omega (arith, some))) h

from-branch : (instance : Instance) (out : List Line) (t : Tag) (literals : List Literal) (path : ℕ) (children : List Child) → 0 < t.code → branch_fault instance out t literals path children ≡ None → line_fault instance out (record { tag = t; lits = literals; rule = Branch path children }) ≡ None
unfolding line_fault
from-branch instance out t literals path children some h = rw (ne_eqb t.code 0 (omega (arith, some))) h

-- without a cite
pub bare-good : (instance : Instance) (out : List Line) (t : Tag) (literals : List Literal) → AreMarked instance out → IsTagFor instance t → IsPartial instance literals → 0 < t.code → Dead instance (triple_from t.code) literals → line_fault instance out (record { tag = t; lits = literals; rule = Count [] }) ≡ None
bare-good instance out t literals marked own partial some dead =
    from-count instance out t literals [] some (passes-none (is_dead instance out t [] literals) NotDead (marked-judged instance out t [] literals marked own partial some dead))

-- none of those that are had is counted
none-counted : (literals cited : List Literal) → ((a : Literal) → Contains cited a → has literals a ≡ true) → count_by (λ a. not (has literals a)) cited ≡ 0
none-counted literals [] h = refl
none-counted literals (a ∷ cited) h = rw (h a (at_front a cited)) (none-counted literals cited (λ b m. h b (behind a cited b m)))

all-but-one : (literals cited : List Literal) → HasAll literals cited → has_all_but_one literals cited ≡ true
all-but-one literals cited h =
    let had : (a : Literal) → Contains cited a → has literals a ≡ true = λ a m. has-from literals a (All-contains (Contains literals) cited a h m) in
    and_from (list_all (λ a. has literals a || not (names literals a.path)) cited) (leb (count_by (λ a. not (has literals a)) cited) 1)
    (all-from (λ a. has literals a || not (names literals a.path)) cited (λ a m. or_left (has literals a) (not (names literals a.path)) (had a m)))
    (le-leb (count_by (λ a. not (has literals a)) cited) 1 (let e = none-counted literals cited had in omega arith))

-- where everything is outside
all-outside : (instance : Instance) (t : Tag) (literals : List Literal) → 0 < length instance.paths → DeadBy (λ _. Unit {0}) instance (triple_from t.code) literals
all-outside instance t [] some = no_choice_left 0 some refl (λ index below. inl tt)
all-outside instance t (a ∷ more) some = outside_literal a (at_front a more) tt

cited-good : (instance : Instance) (out : List Line) → All IsPlain out → (t : Tag) (literals : List Literal) (content : Content) (n : ℕ) → IsPartial instance literals → 0 < length instance.paths → 0 < t.code → t.code ≤ content.tag → HasAll literals content.lits → StandsAt out content n →
    line_fault instance out (record { tag = t; lits = literals; rule = Count (n ∷ []) }) ≡ None
cited-good instance out plain t literals content n partial paths some most within stands =
    from-count instance out t literals (n ∷ []) some
    (both-none (first_of (cite_fault out t (has_all_but_one literals)) (n ∷ [])) _
    (first_of-clean (cite_fault out t (has_all_but_one literals)) (n ∷ []) one)
    (passes-none (is_dead instance out t (n ∷ []) literals) NotDead dead))
  where
    within-cited : HasAll literals (line_at out n).lits
    within-cited = subst (HasAll literals) (sym stands.lits_are) within

    clean : cite_fault out t (has_all_but_one literals) n ≡ None
    clean = clean-cite out plain t (has_all_but_one literals) n stands.low stands.high (all-but-one literals (line_at out n).lits within-cited) (let e = stands.tag_is in omega arith)

    one : (m : ℕ) → Contains (n ∷ []) m → cite_fault out t (has_all_but_one literals) m ≡ None
    one m c = elim (front_or_behind n [] m c) [ inl here ↦ subst (λ k. cite_fault out t (has_all_but_one literals) k ≡ None) here clean | inr later ↦ absurd (no_member m later) ]

    more : (a : Literal) → HasAll (a ∷ literals) (line_at out n).lits
    more a = λ k d l. behind a literals _ (within-cited k d l)

    dead : is_dead instance out t (n ∷ []) literals ≡ true
    dead = judged-where-excluded (λ _. Unit {0}) (is_excluded out t (n ∷ []) literals) instance (triple_from t.code) literals partial
        (λ a _ _. plain-excluded out plain t (n ∷ []) literals a ∙ or_right (is_marked out t a) (is_cited out (n ∷ []) literals a)
        (any-member (λ m. has_all (a ∷ literals) (line_at out m).lits) (n ∷ []) n (at_front n []) (has_all-from (a ∷ literals) (line_at out n).lits (more a))))
        (above-least t.code some) (all-outside instance t literals paths)

-- a prefix, by the line that settles it, or without where that was left out
pub prefix-good : (instance : Instance) (out : List Line) (t : Tag) (literals : List Literal) (content : Content) (n : ℕ) → IsInstance instance → AreMarked instance out → IsTagFor instance t → IsPartial instance literals → 0 < length instance.paths → 0 < t.code →
    t.code ≤ content.tag → HasAll literals content.lits → IsFate instance out content n → line_fault instance out (record { tag = t; lits = literals; rule = Count (cites_of n) }) ≡ None
prefix-good instance out t literals content zero valid marked own partial paths some most within (inl left) =
    bare-good instance out t literals marked own partial some
    (dead-more instance (triple_from t.code) content.lits literals valid left.partial partial within
    (dead_lower instance (triple_from content.tag) (triple_from t.code) content.lits valid left.tag_of own (codes-at_most t.code content.tag most) left.dead))
prefix-good instance out t literals content zero valid marked own partial paths some most within (inr stands) = absurd (let l = stands.low in omega arith)
prefix-good instance out t literals content (suc n) valid marked own partial paths some most within (inl left) = absurd (let e = left.none in omega arith)
prefix-good instance out t literals content (suc n) valid marked own partial paths some most within (inr stands) = cited-good instance out marked.plain t literals content (suc n) partial paths some most within stands

-- a child stands for literals that lie within those of the line with its choice
pub record Serves (out : List Line) (t : Tag) (literals : List Literal) (path : ℕ) (child : Child) : Type 0 where
  pub lits : List Literal
  pub stands : StandsAt out (says t lits) child.cite
  pub within : HasAll (literal path child.choice ∷ literals) lits

-- a line with a child for each choice
pub whole-branch-good : (instance : Instance) (out : List Line) → All IsPlain out → (t : Tag) (literals : List Literal) (path : ℕ) (children : List Child) →
    names literals path ≡ false → ((child : Child) → Contains children child → Serves out t literals path child) →
    ((index : ℕ) → index < count_at instance path → (child : Child) × Contains children child × (child.choice ≡ index)) → 0 < t.code →
    line_fault instance out (record { tag = t; lits = literals; rule = Branch path children }) ≡ None
whole-branch-good instance out plain t literals path children free each whole some = from-branch instance out t literals path children some
    (both-none (cause_unless (not (names literals path)) WrongPath) _ (passes-none (not (names literals path)) WrongPath (not_from_false (names literals path) free))
    (both-none (first_of (child_fault out t literals path) children) _ (first_of-clean (child_fault out t literals path) children clean)
    (passes-none (list_all (is_settled instance out t literals path children) (range_with_len 0 (count_at instance path))) NotDead
    (all-from (is_settled instance out t literals path children) (range_with_len 0 (count_at instance path)) (λ index m. settled index (from-range (count_at instance path) index m))))))
  where
    clean : (child : Child) → Contains children child → child_fault out t literals path child ≡ None
    clean child m =
        let c = each child m in
        clean-cite out plain t (has_all (literal path child.choice ∷ literals)) child.cite c.stands.low c.stands.high
        (subst (λ l. has_all (literal path child.choice ∷ literals) l ≡ true) (sym c.stands.lits_are) (has_all-from (literal path child.choice ∷ literals) c.lits c.within))
        (let e = c.stands.tag_is in omega arith)

    settled : (index : ℕ) → index < count_at instance path → is_settled instance out t literals path children index ≡ true
    settled index below =
        let found = whole index below in
        or_left (list_any (λ child. eqb child.choice index) children) (is_dead instance out t [] (literal path index ∷ literals))
        (any-member (λ child. eqb child.choice index) children found.0 found.1 (eq-eqb found.0.choice index found.2))
