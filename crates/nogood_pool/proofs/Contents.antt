-- A row holds one content.
use Rattle.std.proofs.Common.{◌≡◌, ℕ, zero, suc, ◌<◌, ◌≤◌, List, [], ◌∷◌, length, sym, refl, ap, ◌∙◌, arith}
use Rattle.std.specs.List.{All}
use Rattle.std.proofs.lemmas.List.Elements.{All-head, All-tail}
use Rattle.fapp_model.specs.declared.instance.Instance.{Instance}
use Rattle.fapp_model.specs.declared.literal.Literal.{Literal}
use Rattle.nogood_pool.specs.declared.view.Content.{Content}
use Rattle.nogood_pool.specs.declared.view.HeldRow.{HeldRow}
use Rattle.nogood_pool.specs.Pool.{IsHeld, held_row, pool_word_at, literal_word}

-- two lists of literals with the same words are one
same_literals : (xs ys : List Literal) → All (λ a. (a.path < 65536) × (a.choice < 65536)) xs → All (λ a. (a.path < 65536) × (a.choice < 65536)) ys → (n : ℕ) → length xs ≤ n → length ys ≤ n
    → ((k : ℕ) → k < n → pool_word_at xs k ≡ pool_word_at ys k) → xs ≡ ys
same_literals [] [] p q n a c same = refl
same_literals [] (y ∷ ys) p q zero a c same = absurd (omega arith)
same_literals [] (y ∷ ys) p q (suc n) a c same = let e : 0 ≡ literal_word y = same 0 (omega arith) in absurd (omega arith)
same_literals (x ∷ xs) [] p q zero a c same = absurd (omega arith)
same_literals (x ∷ xs) [] p q (suc n) a c same = let e : literal_word x ≡ 0 = same 0 (omega arith) in absurd (omega arith)
same_literals (x ∷ xs) (y ∷ ys) p q zero a c same = absurd (omega arith)
same_literals (x ∷ xs) (y ∷ ys) p q (suc n) a c same =
    let narrow : Literal → Type 0 = λ z. (z.path < 65536) × (z.choice < 65536) in
    let nx = All-head narrow x xs p in
    let ny = All-head narrow y ys q in
    let e : literal_word x ≡ literal_word y = same 0 (omega arith) in
    let path : x.path ≡ y.path = omega arith in
    let choice : x.choice ≡ y.choice = omega arith in
    let head : x ≡ y = λ i. record { path = path i; choice = choice i } in
    let tail : xs ≡ ys = same_literals xs ys (All-tail narrow x xs p) (All-tail narrow y ys q) n (omega arith) (omega arith) (λ k h. same (suc k) (omega arith)) in
    ap (λ (z : Literal). z ∷ xs) head ∙ ap (λ (zs : List Literal). y ∷ zs) tail

-- a row holds one content
pub one_content : (instance : Instance) (ws : List ℕ) (h : HeldRow) (c : Content) → IsHeld instance ws h → IsHeld instance ws (held_row h.row c) → held_row h.row c ≡ h
one_content instance ws h c a d =
    let tag : c.tag ≡ h.content.tag = sym d.tag ∙ a.tag in
    let lits : c.lits ≡ h.content.lits = same_literals c.lits h.content.lits d.short.narrow a.short.narrow 8 d.short.most a.short.most (λ k lt. sym (d.lits k lt) ∙ a.lits k lt) in
    λ i. record { row = h.row; content = record { lits = lits i; tag = tag i } }
