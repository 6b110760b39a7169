-- What a tag's test says, as facts on numbers.
use Rattle.std.proofs.Common.{◌≡◌, ℕ, ◌+◌, ◌-◌, ◌<◌, ◌≤◌, Bool, true, false, ◌&&◌, cond, IsTrue, arith, refl, ◌∙◌, ltb, leb, eqb}
use Rattle.std.proofs.lemmas.Bool.Decides.{nat_tests}
use Rattle.std.proofs.lemmas.Bool.{and_parts, and_from, cond-true, cond-false, ltb-true, leb-true, eqb-true, lt-ltb, le-ltb, le-leb, eq-eqb}
use Rattle.fapp_model.specs.declared.instance.Instance.{Instance}
use Rattle.fapp_model.specs.declared.triple.Triple.{Triple}
use Rattle.fapp_model.specs.declared.limits.TheConstants.{S_SPAN, V_SPAN}
use Rattle.fapp_model.specs.Levels.{levels_of}
use Rattle.fapp_model.specs.Tags.{IsTagOf, is_tag, mode_level}

-- a tag has a limit, or only a level
pub data TagShape (levels : ℕ) (t : Triple) : Type 0 where
  limited : 0 < t.v → 0 < t.k → t.k ≤ levels → t.v < V_SPAN → t.s < S_SPAN → TagShape levels t
  plain : t.v ≡ 0 → t.s ≡ 0 → t.k ≤ levels + 1 → TagShape levels t

limited_of : (levels k v s : ℕ) → 0 < v → ((ltb 0 k && leb k levels) && (ltb v V_SPAN && ltb s S_SPAN)) ≡ true → (0 < k) × (k ≤ levels) × (v < V_SPAN) × (s < S_SPAN)
limited_of levels k v s some h =
    let front = and_parts (ltb 0 k && leb k levels) (ltb v V_SPAN && ltb s S_SPAN) h in
    let low = and_parts (ltb 0 k) (leb k levels) front.0 in
    let high = and_parts (ltb v V_SPAN) (ltb s S_SPAN) front.1 in
    (ltb-true _ _ low.0, leb-true _ _ low.1, ltb-true _ _ high.0, ltb-true _ _ high.1)

plain_of : (levels k s : ℕ) → (eqb s 0 && leb k (levels + 1)) ≡ true → (s ≡ 0) × (k ≤ levels + 1)
plain_of levels k s h =
    let parts = and_parts (eqb s 0) (leb k (levels + 1)) h in
    (eqb-true _ _ parts.0, leb-true _ _ parts.1)

shape_by : (levels : ℕ) (t : Triple) (b : Bool) → ltb 0 t.v ≡ b → cond b ((ltb 0 t.k && leb t.k levels) && (ltb t.v V_SPAN && ltb t.s S_SPAN)) (eqb t.s 0 && leb t.k (levels + 1)) ≡ true → TagShape levels t
shape_by levels t true e h =
    let some = ltb-true 0 t.v e in
    let parts = limited_of levels t.k t.v t.s some h in
    limited some parts.0 parts.1 parts.2 parts.3
shape_by levels t false e h =
    let parts = plain_of levels t.k t.s h in
    let none : t.v ≡ 0 = grind (arith, nat_tests) in
    plain none parts.0 parts.1

pub shape : (levels : ℕ) (t : Triple) → IsTrue (is_tag levels t) → TagShape levels t
shape levels t h = shape_by levels t (ltb 0 t.v) refl h

pub shape_of : (instance : Instance) (t : Triple) → IsTagOf instance t → TagShape (levels_of instance) t
shape_of instance t h = shape (levels_of instance) t h

pub mode-limited : (t : Triple) → 0 < t.v → mode_level t ≡ t.k
mode-limited t h = cond-true (ltb 0 t.v) t.k (t.k - 1) (lt-ltb 0 t.v h)

pub mode-plain : (t : Triple) → t.v ≡ 0 → mode_level t ≡ t.k - 1
mode-plain t h = cond-false (ltb 0 t.v) t.k (t.k - 1) (le-ltb 0 t.v (omega arith))

-- a triple in these bounds is a tag
pub tag_from_limited : (levels : ℕ) (t : Triple) → 0 < t.v → 0 < t.k → t.k ≤ levels → t.v < V_SPAN → t.s < S_SPAN → IsTrue (is_tag levels t)
tag_from_limited levels t some low high v s =
    let front = and_from (ltb 0 t.k) (leb t.k levels) (lt-ltb 0 t.k low) (le-leb t.k levels high) in
    let back = and_from (ltb t.v V_SPAN) (ltb t.s S_SPAN) (lt-ltb _ _ v) (lt-ltb _ _ s) in
    cond-true (ltb 0 t.v) ((ltb 0 t.k && leb t.k levels) && (ltb t.v V_SPAN && ltb t.s S_SPAN)) (eqb t.s 0 && leb t.k (levels + 1)) (lt-ltb 0 t.v some) ∙ and_from _ _ front back

pub tag_from_plain : (levels : ℕ) (t : Triple) → t.v ≡ 0 → t.s ≡ 0 → t.k ≤ levels + 1 → IsTrue (is_tag levels t)
tag_from_plain levels t none nothing high =
    cond-false (ltb 0 t.v) ((ltb 0 t.k && leb t.k levels) && (ltb t.v V_SPAN && ltb t.s S_SPAN)) (eqb t.s 0 && leb t.k (levels + 1)) (le-ltb 0 t.v (omega arith)) ∙ and_from (eqb t.s 0) (leb t.k (levels + 1)) (eq-eqb t.s 0 nothing) (le-leb t.k (levels + 1) high)
