-- Tags of one code are one.
use Rattle.std.proofs.Common.{◌≡◌, ℕ, ap, subst, IsTrue, Bool, true}
use mathlib.Core.Bool.{Bool-set}
use Rattle.fapp_model.specs.declared.tag.Tag.{Tag}
use Rattle.fapp_model.specs.Tags.{is_code}

made : (code : ℕ) → IsTrue (is_code code) → Tag
made code h = record { code = code; of_tag = h }

prop : (b : Bool) → IsProp (b ≡ true)
prop b = hlevel (Bool-set)

same_made : (code other : ℕ) → code ≡ other → (h : IsTrue (is_code code)) (k : IsTrue (is_code other)) → made code h ≡ made other k
unfolding made
same_made code other e h = subst (λ (d : ℕ). (k : IsTrue (is_code d)) → made code h ≡ made d k) e (λ k. ap (made code) (prop (is_code code) h k))

pub same_tag : (t u : Tag) → t.code ≡ u.code → t ≡ u
unfolding made
same_tag t u e = same_made t.code u.code e t.of_tag u.of_tag
