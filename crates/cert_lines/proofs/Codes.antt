-- A triple that is a tag is that of its code.
use Rattle.std.proofs.Common.{◌≡◌, ℕ, ◌+◌, ◌*◌, ◌/◌, ◌%◌, ◌<◌, ◌≤◌, IsTrue, refl, ap, ◌∙◌, arith}
use Rattle.std.proofs.lemmas.Nat.{div-mul-add, mod-mul-add}
use Rattle.fapp_model.specs.declared.level.TheConstants.{MAX_LEVELS}
use Rattle.fapp_model.specs.declared.limits.TheConstants.{V_SPAN, S_SPAN}
use Rattle.fapp_model.specs.declared.triple.Triple.{Triple}
use Rattle.fapp_model.specs.Tags.{code_of, triple_from, is_tag, is_code}
use Rattle.fapp_model.proofs.TagParts.{TagShape, limited, plain, shape, tag_from_limited, tag_from_plain}

-- the numbers of a tag are small
pub record IsSmall (t : Triple) : Type 0 where
  pub k : t.k ≤ MAX_LEVELS + 1
  pub v : t.v < V_SPAN
  pub s : t.s < S_SPAN

pub small_tag : (levels : ℕ) (t : Triple) → levels ≤ MAX_LEVELS → IsTrue (is_tag levels t) → IsSmall t
small_tag levels t few h = by_shape (shape levels t h)
  where
    by_shape : TagShape levels t → IsSmall t
    by_shape (limited some low high v s) = record { k = omega arith; v = v; s = s }
    by_shape (plain none nothing high) = record { k = omega arith; v = omega arith; s = omega arith }

-- a tag for some levels is one for more
pub tag_within : (levels more : ℕ) (t : Triple) → levels ≤ more → IsTrue (is_tag levels t) → IsTrue (is_tag more t)
tag_within levels more t few h = by_shape (shape levels t h)
  where
    by_shape : TagShape levels t → IsTrue (is_tag more t)
    by_shape (limited some low high v s) = tag_from_limited more t some low (omega arith) v s
    by_shape (plain none nothing high) = tag_from_plain more t none nothing (omega arith)

made : ℕ → ℕ → ℕ → Triple
made k v s = record { k = k; v = v; s = s }

made_same : (k v s l w u : ℕ) → k ≡ l → v ≡ w → s ≡ u → made k v s ≡ made l w u
made_same k v s l w u e f g = rw (e, f, g) refl

pub triple_from-code_of : (t : Triple) → IsSmall t → triple_from (code_of t) ≡ t
unfolding made
triple_from-code_of t small =
    let w : ℕ = S_SPAN in
    let above : ((t.k * w + t.v) * w + t.s) / w ≡ t.k * w + t.v = div-mul-add (t.k * w + t.v) w t.s small.s in
    made_same _ _ _ t.k t.v t.s (ap (λ (n : ℕ). n / w) above ∙ div-mul-add t.k w t.v small.v) (ap (λ (n : ℕ). n % w) above ∙ mod-mul-add t.k w t.v small.v) (mod-mul-add (t.k * w + t.v) w t.s small.s)

pub is_tag-code : (levels : ℕ) (t : Triple) → levels ≤ MAX_LEVELS → IsTrue (is_tag levels t) → IsTrue (is_code (code_of t))
is_tag-code levels t few h = ap (is_tag MAX_LEVELS) (triple_from-code_of t (small_tag levels t few h)) ∙ tag_within levels MAX_LEVELS t few h
