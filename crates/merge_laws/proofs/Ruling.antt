-- What the verdict's rule gives: a tag of the instance, and where it is above the arcs' root tag, something that settles
-- each prefix at it.
use Rattle.std.proofs.Common.{◌≡◌, ◌⊎◌, ℕ, zero, suc, ◌+◌, ◌-◌, ◌*◌, ◌<◌, ◌≤◌, max, Bool, true, false, List, [], ◌∷◌, length, map, take, drop, get_or, refl, ap, sym, subst, ◌∙◌, inl, inr, ⊎_elim, arith, None, Some, All, Contains, IsTrue, leb}
use Rattle.std.specs.List.{fold}
use Rattle.std.proofs.lemmas.Bool.{cases_lt, le-leb, leb-true}
use Rattle.std.proofs.lemmas.List.{get_or-take, get_or-drop, get_or_default, length-take, length-drop}
use Rattle.std.proofs.lemmas.Nat.{div-mul-add}
use Rattle.fapp_model.specs.declared.instance.Instance.{Instance}
use Rattle.fapp_model.specs.declared.tag.Tag.{Tag}
use Rattle.fapp_model.specs.declared.triple.Triple.{Triple}
use Rattle.fapp_model.specs.Instances.{IsInstance}
use Rattle.fapp_model.specs.InstanceTags.{IsTagFor}
use Rattle.fapp_model.specs.Levels.{levels_of}
use Rattle.fapp_model.specs.Tags.{IsTagOf, code_of, top_tag, triple_from}
use Rattle.fapp_model.specs.search.Jobs.{job_count, job_prefix, prefixes}
use Rattle.fapp_model.proofs.LevelNumbers.{levels-few}
use Rattle.fapp_model.proofs.Members.{at_front, behind}
use Rattle.fapp_model.proofs.TagParts.{tag_from_plain}
use Rattle.cert_lines.specs.declared.answer.Verdict.{Verdict}
use Rattle.cert_lines.specs.declared.answer.Verdict.TheVariants.{Best, NoneFeasible, Open}
use Rattle.cert_lines.specs.WellFormed.{is_shown}
use Rattle.cert_lines.specs.acceptance.LineFaults.{first_of}
use Rattle.cert_lines.specs.acceptance.RootFaults.{tag_for, verdict_tag}
use Rattle.accept_laws.proofs.Accepting.{tag_for-code, tag_for-triple}
use Rattle.arc_levels.specs.Outside.{IsRootTag}
use Rattle.search_log.specs.declared.line.Ref.{Ref}
use Rattle.search_log.specs.declared.job.Outcome.TheVariants.{Refuted, Moot, Spent}
use Rattle.fapp_plan.specs.Outcomes.{IsPlacedFor, Placed, outcomes_at, refuted_at, refuted_code, refuted_everywhere, settling}
use Rattle.fapp_plan.specs.VerdictRule.{IsVerdictOf, lower_code, top_code}
use Rattle.fapp_plan.proofs.Refuted.{least-low}
use Rattle.fapp_plan.proofs.Rules.{code-again, lower-is_code, shown-is_tag, some-prefix}

-- ---- the arcs' root tag is one

same-below : (most a b : ℕ) → a ≤ most + 1 → b ≤ most + 1 → ((level : ℕ) → level ≤ most → level < a → level < b) → a ≤ b
same-below most zero b few other up = omega arith
same-below most (suc a) b few other up = let less = up a (omega arith) (omega arith) in omega arith

pub one-root : (instance : Instance) (a b : ℕ) → IsRootTag instance (triple_from a) → IsRootTag instance (triple_from b) → a ≡ b
one-root instance a b h g =
    let t = triple_from a in
    let u = triple_from b in
    let up = same-below (levels_of instance) t.k u.k h.few g.few (λ level small less. (g.levels level small).0 ((h.levels level small).1 less)) in
    let down = same-below (levels_of instance) u.k t.k g.few h.few (λ level small less. (h.levels level small).0 ((g.levels level small).1 less)) in
    let k : t.k ≡ u.k = omega arith in
    sym (code-again a) ∙ (codes t.k t.v t.s u.k u.v u.s k (h.limit ∙ sym g.limit) (h.further ∙ sym g.further) ∙ code-again b)
  where
    made : ℕ → ℕ → ℕ → ℕ
    made k v s = code_of (record { k = k; v = v; s = s })

    codes : (k v s l w r : ℕ) → k ≡ l → v ≡ w → s ≡ r → code_of (record { k = k; v = v; s = s }) ≡ code_of (record { k = l; v = w; s = r })
    codes k v s l w r e f g = rw (e, f, g) refl

pub root-is_tag : (instance : Instance) (code : ℕ) → IsRootTag instance (triple_from code) → IsTagOf instance (triple_from code)
root-is_tag instance code h = tag_from_plain (levels_of instance) (triple_from code) h.limit h.further h.few

-- ---- the verdict's tag

-- the tag of a code of the instance's tags
tag-of-code : (instance : Instance) (code : ℕ) → IsTagOf instance (triple_from code) → (tag_for (triple_from code)).code ≡ code
tag-of-code instance code h = tag_for-code (levels_of instance) (triple_from code) (levels-few instance).1 h ∙ code-again code

pub record IsRuledTag (instance : Instance) (split : ℕ) (outcomes : List Placed) (arcs : ℕ) (t : Tag) : Type 0 where
  pub own : IsTagFor instance t
  pub most : t.code ≤ lower_code instance split outcomes arcs

top-is_tag : (instance : Instance) → IsTagOf instance (top_tag instance)
top-is_tag instance = tag_from_plain (levels_of instance) (top_tag instance) refl refl (omega arith)

pub ruled-tag : (instance : Instance) (split : ℕ) (outcomes : List Placed) (word arcs : ℕ) (verdict : Verdict) → IsInstance instance → All (IsPlacedFor instance) outcomes →
    IsTrue (is_shown (levels_of instance) (triple_from word)) → IsTagOf instance (triple_from arcs) → IsVerdictOf instance split outcomes word arcs verdict → IsRuledTag instance split outcomes arcs (verdict_tag instance verdict)
ruled-tag instance split outcomes word arcs (Best t) valid tags shown root rule =
    let word_is = shown-is_tag (levels_of instance) (triple_from word) shown in
    let e : (tag_for t).code ≡ word = ap (λ (u : Triple). (tag_for u).code) rule.2 ∙ tag-of-code instance word word_is in
    record { own = subst (λ c. IsTagOf instance (triple_from c)) (sym e) word_is; most = (let l = rule.1 in omega arith) }
ruled-tag instance split outcomes word arcs NoneFeasible valid tags shown root rule =
    let few = (levels-few instance).1 in
    let e : (tag_for (top_tag instance)).code ≡ top_code instance = tag_for-code (levels_of instance) (top_tag instance) few (top-is_tag instance) in
    let same : triple_from (tag_for (top_tag instance)).code ≡ top_tag instance = tag_for-triple (levels_of instance) (top_tag instance) few (top-is_tag instance) in
    record { own = subst (IsTagOf instance) (sym same) (top-is_tag instance); most = (let l = rule.1 in omega arith) }
ruled-tag instance split outcomes word arcs (Open best lower level prefix) valid tags shown root rule =
    let e : lower.code ≡ lower_code instance split outcomes arcs = rule.bound in
    record {
      own = subst (λ c. IsTagOf instance (triple_from c)) (sym e) (lower-is_code instance split outcomes arcs (some-prefix instance split valid) tags root);
      most = omega arith;
    }

-- ---- what settles a prefix

-- the first of some outcomes that is Refuted with a tag of at least so much
pub record IsFound (code : ℕ) (outcomes : List Placed) : Type 0 where
  pub log : ℕ
  pub ref : Ref
  pub tag : Tag
  pub member : Contains outcomes (Some (log, Refuted ref tag))
  pub reaches : code ≤ tag.code
  pub first : first_of (settling code) outcomes ≡ Some (log, ref)

module _ (code : ℕ) (some : 0 < code) where
  found-here : (log : ℕ) (ref : Ref) (tag : Tag) (outcomes : List Placed) → code ≤ tag.code → IsFound code (Some (log, Refuted ref tag) ∷ outcomes)
  found-here log ref tag outcomes most = record {
    log = log;
    ref = ref;
    tag = tag;
    member = at_front (Some (log, Refuted ref tag)) outcomes;
    reaches = most;
    first = rw (le-leb code tag.code most) refl;
  }

  found-behind : (o : Placed) (outcomes : List Placed) → settling code o ≡ None → IsFound code outcomes → IsFound code (o ∷ outcomes)
  found-behind o outcomes none h = record { log = h.log; ref = h.ref; tag = h.tag; member = behind o outcomes (Some (h.log, Refuted h.ref h.tag)) h.member; reaches = h.reaches; first = rw none h.first }

  one-more : (o : Placed) (outcomes : List Placed) → IsFound code outcomes → IsFound code (o ∷ outcomes)
  one-more None outcomes h = found-behind None outcomes refl h
  one-more (Some (log, Moot seen)) outcomes h = found-behind (Some (log, Moot seen)) outcomes refl h
  one-more (Some (log, Spent)) outcomes h = found-behind (Some (log, Spent)) outcomes refl h
  one-more (Some (log, Refuted ref tag)) outcomes h = by_tag (leb code tag.code) refl
    where
      by_tag : (b : Bool) → leb code tag.code ≡ b → IsFound code (Some (log, Refuted ref tag) ∷ outcomes)
      by_tag true e = found-here log ref tag outcomes (leb-true code tag.code e)
      by_tag false e = found-behind (Some (log, Refuted ref tag)) outcomes (rw e refl) h

  here-by-code : (o : Placed) (outcomes : List Placed) → code ≤ refuted_code o → IsFound code (o ∷ outcomes)
  here-by-code None outcomes most = absurd (omega arith)
  here-by-code (Some (log, Moot seen)) outcomes most = absurd (omega arith)
  here-by-code (Some (log, Spent)) outcomes most = absurd (omega arith)
  here-by-code (Some (log, Refuted ref tag)) outcomes most = found-here log ref tag outcomes most

  found-by-greatest : (a : ℕ) (outcomes : List Placed) → code ≤ fold max a (map refuted_code outcomes) → (code ≤ a) ⊎ IsFound code outcomes
  found-by-greatest a [] most = inl most
  found-by-greatest a (o ∷ outcomes) most = ⊎_elim
      (λ (low : code ≤ max a (refuted_code o)). ⊎_elim
      (λ (less : a < code). inr (here-by-code o outcomes (omega arith)))
      (λ l. inl l)
      (cases_lt a code))
      (λ found. inr (one-more o outcomes found))
      (found-by-greatest (max a (refuted_code o)) outcomes most)

  pub found-at : (instance : Instance) (outcomes : List Placed) (place : ℕ) → code ≤ refuted_at instance outcomes place → IsFound code (outcomes_at instance outcomes place)
  unfolding refuted_at
  found-at instance outcomes place most = ⊎_elim
      (λ low. absurd (omega arith))
      (λ found. found)
      (found-by-greatest 0 (outcomes_at instance outcomes place) most)

  pub found-everywhere : (instance : Instance) (split : ℕ) (outcomes : List Placed) (arcs place : ℕ) → arcs < code → code ≤ lower_code instance split outcomes arcs → place < length (prefixes instance split) → IsFound code (outcomes_at instance outcomes place)
  unfolding lower_code refuted_everywhere
  found-everywhere instance split outcomes arcs place above most small =
      found-at instance outcomes place (let low = least-low (refuted_at instance outcomes) (length (prefixes instance split)) place small in omega arith)

-- ---- the job of an outcome

-- the number of an outcome of a prefix's jobs
pub record IsJobOf (instance : Instance) (split : ℕ) (outcomes : List Placed) (place : ℕ) (o : Placed) : Type 0 where
  pub id : ℕ
  pub below : id < job_count instance split
  pub at : get_or outcomes id None ≡ o
  pub prefix : job_prefix instance split id ≡ get_or (prefixes instance split) place []

from-part : {X : Type 0} (xs : List X) (from many : ℕ) (x d : X) → Contains (take many (drop from xs)) x → (k : ℕ) × (k < many) × (from + k < length xs) × (get_or xs (from + k) d ≡ x)
from-part xs from many x d (k, small, e) =
    let few : k < many = omega (arith, small, length-take many (drop from xs)) in
    let inside : from + k < length xs = omega (arith, small, length-take many (drop from xs), length-drop from xs) in
    (k, few, inside, get_or_default xs (from + k) d x inside ∙ (sym (get_or-drop from xs k x) ∙ (sym (get_or-take many (drop from xs) k x few) ∙ e)))

pub job-of : (instance : Instance) (split : ℕ) (outcomes : List Placed) (place : ℕ) (o : Placed) → length outcomes ≡ job_count instance split → Contains (outcomes_at instance outcomes place) o → IsJobOf instance split outcomes place o
job-of instance split outcomes place o count m =
    let jobs = levels_of instance + 1 in
    let r = from-part outcomes (place * jobs) (place * jobs + jobs - place * jobs) o None m in
    let few : r.0 < jobs = (let l = r.1 in omega arith) in
    record {
      id = place * jobs + r.0;
      below = (let l = r.2 in omega arith);
      at = r.3;
      prefix = ap (λ n. get_or (prefixes instance split) n []) (div-mul-add place jobs r.0 few);
    }
