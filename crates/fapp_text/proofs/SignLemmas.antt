-- Signs in fields, both ways.
use Rattle.std.proofs.Common.{◌≡◌, ℕ, Bool, true, false, cond, List, ◌∷◌, decimal, codes, ℤ, pos, negsuc, Option, Some, None, refl, sym, ap, ◌∙◌, inl, inr, arith}
use Rattle.std.specs.Str.{bytes_eq}
use Rattle.std.specs.Fmt.{signed_decimal}
use Rattle.std.proofs.lemmas.Fmt.{decimal_digit}
use Rattle.std.proofs.lemmas.Slice.Eq.{bytes_eq-Decides}
use Rattle.fapp_text.specs.Signs.{IsSign, sign_of}

-- a field that is a word
pub is_word : (field word : List ℕ) → bytes_eq field word ≡ true → field ≡ word
is_word field word h = (bytes_eq-Decides field word).0 h

one_text : decimal 1 ≡ codes "1"
one_text = decimal_digit 1 (omega arith)

taken : (field : List ℕ) (one less : Bool) (z : ℤ) → bytes_eq field (codes "1") ≡ one → bytes_eq field (codes "-1") ≡ less
    → ◌≡◌ {A = Option ℤ} (cond one (Some (pos 1)) (cond less (Some (negsuc 0)) None)) (Some z) → (field ≡ signed_decimal z) × IsSign z
taken field true less z e f h =
    let at : pos 1 ≡ z = cc in
    (rw (← at) (is_word field (codes "1") e ∙ sym one_text), inr (sym at))
taken field false true z e f h =
    let at : negsuc 0 ≡ z = cc in
    (rw (← at) (is_word field (codes "-1") f ∙ ap (λ (word : List ℕ). 45 ∷ word) (sym one_text)), inl (sym at))
taken field false false z e f h = absurd cc

-- a field that is read as a sign is its decimal
pub sign_taken : (field : List ℕ) (z : ℤ) → sign_of field ≡ Some z → (field ≡ signed_decimal z) × IsSign z
sign_taken field z h = taken field (bytes_eq field (codes "1")) (bytes_eq field (codes "-1")) z refl refl h

-- which is read as this sign
pub sign_again : (z : ℤ) → IsSign z → sign_of (signed_decimal z) ≡ Some z
sign_again z (inl e) = rw (e, one_text) refl
sign_again z (inr e) = rw (e, one_text) refl
