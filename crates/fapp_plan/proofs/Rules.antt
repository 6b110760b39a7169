-- Tags of outcomes, and what a verdict rests on.
use Rattle.std.proofs.Common.{◌≡◌, ◌≢◌, ℕ, ◌+◌, ◌*◌, ◌/◌, ◌%◌, ◌<◌, ◌≤◌, max, ◌||◌, eqb, List, [], ◌∷◌, length, map, get_or, All, IsTrue, Some, None, refl, sym, ap, ◌∙◌, subst, ⊎_elim, arith}
use Rattle.std.specs.List.{fold}
use Rattle.std.proofs.lemmas.Bool.{and_parts, and_from, or_cases, or_left, or_right, cases_lt, eqb-true, eq-eqb, cases_Bool, both_ways}
use Rattle.std.proofs.lemmas.List.Elements.{All-contains, All-head, All-tail, All-take, All-drop, Contains-get_or}
use Rattle.fapp_model.specs.declared.instance.Instance.{Instance}
use Rattle.fapp_model.specs.declared.limits.TheConstants.{S_SPAN}
use Rattle.fapp_model.specs.declared.literal.Literal.{Literal}
use Rattle.fapp_model.specs.declared.triple.Triple.{Triple}
use Rattle.fapp_model.specs.Levels.{levels_of}
use Rattle.fapp_model.specs.Tags.{IsTagOf, code_of, has_limit, is_tag, triple_from}
use Rattle.fapp_model.specs.search.Jobs.{prefixes}
use Rattle.fapp_model.specs.search.Partials.{AreLiterals, IsLiteral, IsPartial}
use Rattle.fapp_model.proofs.Members.{All-from_members}
use Rattle.fapp_model.proofs.TagParts.{TagShape, limited, plain, shape, tag_from_plain}
use Rattle.std.proofs.lemmas.Nat.{div-add-mod'}
use Rattle.fapp_model.specs.declared.tag.Tag.{Tag}
use Rattle.fapp_model.specs.Instances.{IsInstance}
use Rattle.cert_lines.specs.declared.answer.Verdict.TheVariants.{Open}
use Rattle.cert_lines.specs.WellFormed.{IsVerdict, is_cost, is_shown}
use Rattle.tries_laws.proofs.ListPlaces.{some_ways}
use Rattle.fapp_plan.specs.NamedPaths.{prefix_paths}
use Rattle.fapp_plan.proofs.Depths.{prefix_paths-in, prefixes-count}
use Rattle.search_log.specs.declared.job.Outcome.TheVariants.{Refuted, Moot, Spent}
use Rattle.tries_laws.proofs.JobParts.{prefixes-all}
use Rattle.tries_laws.proofs.PrefixParts.{prefix-is_partial}
use Rattle.fapp_plan.specs.Outcomes.{IsPlacedFor, Placed, outcomes_at, refuted_at, refuted_code, refuted_everywhere}
use Rattle.fapp_plan.specs.Sorting.{by_path}
use Rattle.fapp_plan.specs.VerdictRule.{IsFirstOpen, IsVerdictOf, lower_code, open_level, settled, top_code}
use Rattle.fapp_plan.proofs.ByPath.{from-by_path, ordered-by_path}
use Rattle.fapp_plan.proofs.Refuted.{least-reached}

pub code-again : (code : ℕ) → code_of (triple_from code) ≡ code
code-again code =
    let w : ℕ = S_SPAN in
    ap (λ (n : ℕ). n * w + code % w) (div-add-mod' (code / w) w) ∙ div-add-mod' code w

abbrev IsCodeFor : Instance → ℕ → Type 0
IsCodeFor instance code = IsTagOf instance (triple_from code)

least-is_code : (instance : Instance) → IsCodeFor instance 0
least-is_code instance = tag_from_plain (levels_of instance) (triple_from 0) refl refl (omega arith)

refuted-is_code : (instance : Instance) (o : Placed) → IsPlacedFor instance o → IsCodeFor instance (refuted_code o)
refuted-is_code instance None h = least-is_code instance
refuted-is_code instance (Some (log, Refuted line tag)) h = h
refuted-is_code instance (Some (log, Moot seen)) h = least-is_code instance
refuted-is_code instance (Some (log, Spent)) h = least-is_code instance

max-is_code : (instance : Instance) (a b : ℕ) → IsCodeFor instance a → IsCodeFor instance b → IsCodeFor instance (max a b)
max-is_code instance a b h k = ⊎_elim
    (λ (l : a < b). let e : b ≡ max a b = omega arith in subst (IsCodeFor instance) e k)
    (λ l. let e : a ≡ max a b = omega arith in subst (IsCodeFor instance) e h)
    (cases_lt a b)

greatest-is_code : (instance : Instance) (a : ℕ) (outcomes : List Placed) → IsCodeFor instance a → All (IsPlacedFor instance) outcomes → IsCodeFor instance (fold max a (map refuted_code outcomes))
greatest-is_code instance a [] h k = h
greatest-is_code instance a (o ∷ outcomes) h k =
    greatest-is_code instance (max a (refuted_code o)) outcomes
    (max-is_code instance a (refuted_code o) h (refuted-is_code instance o (All-head (IsPlacedFor instance) o outcomes k)))
    (All-tail (IsPlacedFor instance) o outcomes k)

pub refuted_at-is_code : (instance : Instance) (outcomes : List Placed) (place : ℕ) → All (IsPlacedFor instance) outcomes → IsCodeFor instance (refuted_at instance outcomes place)
unfolding refuted_at
refuted_at-is_code instance outcomes place h =
    greatest-is_code instance 0 (outcomes_at instance outcomes place) (least-is_code instance)
    (All-take (IsPlacedFor instance) _ _ (All-drop (IsPlacedFor instance) _ outcomes h))

pub everywhere-is_code : (instance : Instance) (split : ℕ) (outcomes : List Placed) → 0 < length (prefixes instance split) → All (IsPlacedFor instance) outcomes → IsCodeFor instance (refuted_everywhere instance split outcomes)
unfolding refuted_everywhere
everywhere-is_code instance split outcomes some h =
    let least = least-reached (refuted_at instance outcomes) (length (prefixes instance split)) some in
    subst (IsCodeFor instance) (sym least.2) (refuted_at-is_code instance outcomes least.0 h)

pub lower-is_code : (instance : Instance) (split : ℕ) (outcomes : List Placed) (arcs : ℕ) → 0 < length (prefixes instance split) → All (IsPlacedFor instance) outcomes → IsCodeFor instance arcs → IsCodeFor instance (lower_code instance split outcomes arcs)
unfolding lower_code
lower-is_code instance split outcomes arcs some h k = max-is_code instance arcs (refuted_everywhere instance split outcomes) k (everywhere-is_code instance split outcomes some h)

-- ---- tags and the top

below_top : (levels : ℕ) (t : Triple) → TagShape levels t → code_of t ≤ code_of (record { k = levels + 1; v = 0; s = 0 })
below_top levels t (limited some low high v s) = omega arith
below_top levels t (plain none nothing high) = omega arith

pub code-most : (instance : Instance) (code : ℕ) → IsCodeFor instance code → code ≤ top_code instance
code-most instance code h =
    let most = below_top (levels_of instance) (triple_from code) (shape (levels_of instance) (triple_from code) h) in
    omega (arith, code-again code, most)

-- a bound of the top's level is the top
top_by : (levels : ℕ) (t : Triple) → t.k ≡ levels + 1 → TagShape levels t → code_of t ≡ code_of (record { k = levels + 1; v = 0; s = 0 })
top_by levels t e (limited some low high v s) = absurd (omega arith)
top_by levels t e (plain none nothing high) = omega arith

pub top-is : (instance : Instance) (code : ℕ) → IsCodeFor instance code → (triple_from code).k ≡ levels_of instance + 1 → code ≡ top_code instance
top-is instance code h e =
    sym (code-again code) ∙ top_by (levels_of instance) (triple_from code) e (shape (levels_of instance) (triple_from code) h)

lower_level : (levels : ℕ) (t : Triple) → t.k ≢ levels + 1 → TagShape levels t → code_of t < code_of (record { k = levels + 1; v = 0; s = 0 })
lower_level levels t e (limited some low high v s) = omega arith
lower_level levels t e (plain none nothing high) = omega arith

pub below-top : (instance : Instance) (code : ℕ) → IsCodeFor instance code → (triple_from code).k ≢ levels_of instance + 1 → code < top_code instance
below-top instance code h e =
    let less = lower_level (levels_of instance) (triple_from code) e (shape (levels_of instance) (triple_from code) h) in
    omega (arith, code-again code, less)

-- ---- what may be shown

pub shown-is_tag : (levels : ℕ) (t : Triple) → IsTrue (is_shown levels t) → IsTrue (is_tag levels t)
shown-is_tag levels t h = (and_parts (is_tag levels t) (has_limit t || (eqb t.k 0 || eqb t.k (levels + 1))) h).0

pub shown-is_cost : (levels : ℕ) (t : Triple) → IsTrue (is_shown levels t) → t.k ≢ levels + 1 → IsTrue (is_cost levels t)
shown-is_cost levels t h e =
    let parts = and_parts (is_tag levels t) (has_limit t || (eqb t.k 0 || eqb t.k (levels + 1))) h in
    and_from (is_tag levels t) (has_limit t || eqb t.k 0) parts.0 (⊎_elim
    (λ some. or_left (has_limit t) (eqb t.k 0) some)
    (λ level. ⊎_elim
    (λ none. or_right (has_limit t) (eqb t.k 0) none)
    (λ top. absurd (e (eqb-true t.k (levels + 1) top)))
    (or_cases (eqb t.k 0) (eqb t.k (levels + 1)) level))
    (or_cases (has_limit t) (eqb t.k 0 || eqb t.k (levels + 1)) parts.1))

pub level-small : (levels : ℕ) (t : Triple) → IsTrue (is_tag levels t) → t.k ≢ levels + 1 → t.k ≤ levels
level-small levels t h e = by_shape (shape levels t h)
  where
    by_shape : TagShape levels t → t.k ≤ levels
    by_shape (limited some low high v s) = high
    by_shape (plain none nothing high) = omega arith

-- ---- the prefix of an open verdict

pub prefix-partial : (instance : Instance) (split place : ℕ) → place < length (prefixes instance split) → IsPartial instance (get_or (prefixes instance split) place [])
prefix-partial instance split place l =
    prefix-is_partial instance (get_or (prefixes instance split) place [])
    ((prefixes-all instance split (get_or (prefixes instance split) place [])).0 (Contains-get_or (prefixes instance split) place [] l)).0

pub by_path-literals : (instance : Instance) (literals : List Literal) → IsPartial instance literals → AreLiterals instance (by_path literals)
by_path-literals instance literals h = record {
  in_range = All-from_members (IsLiteral instance) (by_path literals) (λ a m. All-contains (IsLiteral instance) literals a h.in_range (from-by_path literals a m));
  ascending = ordered-by_path literals h.distinct;
}

-- ---- verdicts

pub some-prefix : (instance : Instance) (split : ℕ) → IsInstance instance → 0 < length (prefixes instance split)
some-prefix instance split valid =
    omega (arith, some_ways instance valid (prefix_paths instance split) (prefix_paths-in instance split), prefixes-count instance split)

pub record IsReady (instance : Instance) (split : ℕ) (outcomes : List Placed) (word arcs : ℕ) : Type 0 where
  pub valid : IsInstance instance
  pub outcomes_for : All (IsPlacedFor instance) outcomes
  pub shown : IsTrue (is_shown (levels_of instance) (triple_from word))
  pub arcs_for : IsTagOf instance (triple_from arcs)

module _ (instance : Instance) (split : ℕ) (outcomes : List Placed) (word arcs : ℕ) (ready : IsReady instance split outcomes word arcs) where
  is_tag_word : IsTagOf instance (triple_from word)
  is_tag_word = shown-is_tag (levels_of instance) (triple_from word) ready.shown

  lower-most : lower_code instance split outcomes arcs ≤ top_code instance
  lower-most = code-most instance (lower_code instance split outcomes arcs)
      (lower-is_code instance split outcomes arcs (some-prefix instance split ready.valid) ready.outcomes_for ready.arcs_for)

  pub settled-rule : word ≤ lower_code instance split outcomes arcs →
      IsVerdictOf instance split outcomes word arcs (settled instance (triple_from word)) × IsVerdict instance (settled instance (triple_from word))
  settled-rule l = ⊎_elim
      (λ top. rw top (
      let is : word ≡ top_code instance = top-is instance word is_tag_word (eqb-true (triple_from word).k (levels_of instance + 1) top) in
      let most = lower-most in
      let other : lower_code instance split outcomes arcs ≡ top_code instance = omega arith in
      ((is, other), tt)))
      (λ low. rw low (
      let apart : (triple_from word).k ≢ levels_of instance + 1 = λ e. both_ways (eqb (triple_from word).k (levels_of instance + 1)) low (eq-eqb _ _ e) in
      ((below-top instance word is_tag_word apart, l, refl), shown-is_cost (levels_of instance) (triple_from word) ready.shown apart)))
      (cases_Bool (eqb (triple_from word).k (levels_of instance + 1)))

  open-level_small : open_level instance (triple_from word) ≤ levels_of instance
  open-level_small = ⊎_elim
      (λ top. rw top (omega arith))
      (λ low. rw low (level-small (levels_of instance) (triple_from word) is_tag_word
      (λ e. both_ways (eqb (triple_from word).k (levels_of instance + 1)) low (eq-eqb _ _ e))))
      (cases_Bool (eqb (triple_from word).k (levels_of instance + 1)))

  pub open-rule : (best : Triple) (lower : Tag) (level place : ℕ) (prefix sorted : List Literal) → best ≡ triple_from word →
      lower.code ≡ lower_code instance split outcomes arcs → lower.code < word → level ≡ open_level instance best →
      IsFirstOpen instance split outcomes word place → prefix ≡ get_or (prefixes instance split) place [] → sorted ≡ by_path prefix →
      IsVerdictOf instance split outcomes word arcs (Open best lower level sorted) × IsVerdict instance (Open best lower level sorted)
  open-rule best lower level place prefix sorted shown bound below at_level open_at named in_order = (
    record {
      unsettled = omega arith;
      shown = shown;
      bound = bound;
      at_level = at_level ∙ ap (open_level instance) shown;
      place = place;
      open_at = open_at;
      named = in_order ∙ ap by_path named;
    },
    (
      subst (λ t. IsTrue (is_shown (levels_of instance) t)) (sym shown) ready.shown,
      subst (λ n. IsTagOf instance (triple_from n)) (sym bound)
          (lower-is_code instance split outcomes arcs (some-prefix instance split ready.valid) ready.outcomes_for ready.arcs_for),
      (let small = open-level_small in let at : level ≡ open_level instance (triple_from word) = at_level ∙ ap (open_level instance) shown in omega arith),
      subst (AreLiterals instance) (sym (in_order ∙ ap by_path named)) (by_path-literals instance (get_or (prefixes instance split) place []) (prefix-partial instance split place open_at.inside)),
    ),
  )
