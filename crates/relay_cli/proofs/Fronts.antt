-- What a relay wrote before a piece is a front of the whole text.
use Rattle.std.proofs.Common.{◌≡◌, ℕ, zero, suc, ◌+◌, ◌<◌, ◌≤◌, ◌==◌, true, false, List, [], ◌∷◌, ◌++◌, length, take, codes, Option, refl, sym, ap, ◌∙◌, subst, ⊎_elim, arith, append_assoc, length-append}
use Rattle.std.specs.Int.{div_ceil}
use Rattle.std.proofs.lemmas.List.{take_all, append-nil, take-append-le}
use Rattle.std.proofs.lemmas.Bool.{cases_lt}
use Rattle.std.proofs.lemmas.Bool.Decides.{nat_tests}
use Rattle.fapp_io.specs.Known.{BytesGrow}
use Rattle.fapp_io.specs.Whole.{GrowsByFront}
use Rattle.fapp_model.specs.declared.instance.Instance.{Instance}
use Rattle.cert_lines.specs.declared.answer.Answer.{Answer}
use Rattle.cert_lines.specs.Spelling.{answer_text, line_text}
use Rattle.cert_relay.specs.Pieces.{piece_count, piece_text, text_before}
use Rattle.cert_relay.proofs.Texts.{whole_text}

module _ (instance : Instance) (answer : Answer) where
  -- more pieces have a longer text
  longer : (n m : ℕ) → n ≤ m → (more : List ℕ) × (text_before instance answer m ≡ text_before instance answer n ++ more)
  longer n zero le =
      let none : n ≡ 0 = omega (arith, le) in
      ([], subst (λ k. [] ≡ text_before instance answer k ++ []) (sym none) refl)
  longer n (suc m) le = ⊎_elim
      (λ (below : n < suc m).
      let before = longer n m (omega (arith, below)) in
      let piece = piece_text instance answer m in
      (before.0 ++ piece, ap (λ text. text ++ piece) before.1 ∙ append_assoc (text_before instance answer n) before.0 piece))
      (λ (high : suc m ≤ n).
      let same : n ≡ suc m = omega (arith, high, le) in
      ([], subst (λ k. text_before instance answer (suc m) ≡ text_before instance answer k ++ []) (sym same) (sym (append-nil (text_before instance answer (suc m))))))
      (cases_lt n (suc m))

  last_piece : (n : ℕ) → suc n ≡ piece_count answer → 1 ≤ length (piece_text instance answer n)
  last_piece n e =
      let first : (n == 0) ≡ false = grind (arith, nat_tests, e) in
      let last : (n + 1 == piece_count answer) ≡ true = grind (arith, nat_tests, e) in
      let is : piece_text instance answer n ≡ line_text (codes "END" ∷ []) = rw (first, last) refl in
      omega (arith, ap length is)

  -- the text of the pieces before one is a front of the whole, short of it
  pub cut_text : (n : ℕ) (old new : Option (List ℕ)) → n < piece_count answer → BytesGrow old new (text_before instance answer n) → GrowsByFront old new (answer_text instance answer)
  cut_text n old new lt h =
      let q : ℕ = 1 + div_ceil (length answer.lines) 4096 in
      let count : suc q ≡ piece_count answer = omega arith in
      let head = text_before instance answer n in
      let longer_by = longer n q (omega (arith, lt, count)) in
      let piece = piece_text instance answer q in
      let rest = longer_by.0 ++ piece in
      let whole : answer_text instance answer ≡ head ++ rest =
      sym (ap (text_before instance answer) count ∙ whole_text instance answer)
      ∙ ap (λ text. text ++ piece) longer_by.1 ∙ append_assoc head longer_by.0 piece in
      let some : 1 ≤ length piece = last_piece q count in
      let front : take (length head) (answer_text instance answer) ≡ head =
      ap (take (length head)) whole ∙ take-append-le (length head) head rest (omega arith) ∙ take_all (length head) head (omega arith) in
      (length head, omega (arith, some, ap length whole, length-append head rest, length-append longer_by.0 piece), subst (BytesGrow old new) (sym front) h)
