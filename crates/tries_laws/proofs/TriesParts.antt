-- A number of tries is one, and is at most the number of lists along the paths to come.
use Rattle.std.proofs.Common.{◌≡◌, ◌⊎◌, ℕ, ◌+◌, ◌*◌, ◌<◌, ◌≤◌, List, [], ◌∷◌, ◌++◌, length, sum_by, refl, sym, ap, subst, ◌∙◌, inl, inr, ⊎_elim, arith, append-nil, append_assoc}
use Rattle.std.specs.List.{range_with_len}
use Rattle.std.proofs.lemmas.Bool.{cases_lt}
use Rattle.fapp_model.specs.declared.instance.Instance.{Instance}
use Rattle.fapp_model.specs.declared.literal.Literal.{Literal}
use Rattle.fapp_model.specs.Assignments.{count_at}
use Rattle.fapp_model.specs.search.Partials.{literal}
use Rattle.fapp_model.specs.search.Prefixes.{IsAlong, lists_along}
use Rattle.fapp_model.specs.search.Tries.{IsSumOver, IsOneAndBelow, IsTriesBy}
use Rattle.tries_laws.proofs.Lists.{length-lists_along}
use Rattle.fapp_model.proofs.Sums.{range-sum-same, range-sum-most}

-- ---- at most one number

pub sum_over-one : (count : ℕ) (IsPart : ℕ → ℕ → Type 0) → ((index a b : ℕ) → index < count → IsPart index a → IsPart index b → a ≡ b) → (m n : ℕ) → IsSumOver count IsPart m → IsSumOver count IsPart n → m ≡ n
sum_over-one count IsPart one m n h k =
    let same = range-sum-same h.part k.part count (λ i l. one i (h.part i) (k.part i) l (h.each i l) (k.each i l)) in
    h.sum ∙ (same ∙ sym k.sum)

pub one_and_below-one : (dead : Type 0) (IsBelow : ℕ → Type 0) → ((a b : ℕ) → IsBelow a → IsBelow b → a ≡ b) → (m n : ℕ) → IsOneAndBelow dead IsBelow m → IsOneAndBelow dead IsBelow n → m ≡ n
one_and_below-one dead IsBelow one m n (inl h) (inl k) = h.1 ∙ sym k.1
one_and_below-one dead IsBelow one m n (inl h) (inr k) = absurd (k.0 h.0)
one_and_below-one dead IsBelow one m n (inr h) (inl k) = absurd (h.0 k.0)
one_and_below-one dead IsBelow one m n (inr h) (inr k) =
    let p = h.1 in
    let q = k.1 in
    let same = one p.0 q.0 p.2 q.2 in
    p.1 ∙ (ap (λ z. 1 + z) same ∙ sym q.1)

module _ (IsDead : List Literal → Type 0) (choices : ℕ → ℕ) where
  pub tries-one : (paths : List ℕ) (literals : List Literal) (m n : ℕ) → IsTriesBy IsDead choices paths literals m → IsTriesBy IsDead choices paths literals n → m ≡ n
  tries-one [] literals m n h k = one_and_below-one (IsDead literals) (λ below. below ≡ 0) (λ a b e f. e ∙ sym f) m n h k
  tries-one (path ∷ paths) literals m n h k =
      let IsPart : ℕ → ℕ → Type 0 = λ index. IsTriesBy IsDead choices paths (literals ++ literal path index ∷ []) in
      one_and_below-one (IsDead literals) (IsSumOver (choices path) IsPart)
      (sum_over-one (choices path) IsPart (λ index a b l. tries-one paths (literals ++ literal path index ∷ []) a b))
      m n h k

-- ---- at most the lists

pub one_and_below-le : (dead : Type 0) (IsBelow : ℕ → Type 0) (most n : ℕ) → ((b : ℕ) → IsBelow b → b ≤ most) → IsOneAndBelow dead IsBelow n → n ≤ 1 + most
one_and_below-le dead IsBelow most n small (inl h) = let e = h.1 in omega arith
one_and_below-le dead IsBelow most n small (inr h) =
    let p = h.1 in
    let l = small p.0 p.2 in
    let e = p.1 in
    omega arith

pub tries-le : (instance : Instance) (IsDead : List Literal → Type 0) (paths : List ℕ) (literals : List Literal) (n : ℕ) → IsTriesBy IsDead (count_at instance) paths literals n → n ≤ length (lists_along instance paths)
tries-le instance IsDead [] literals n h = one_and_below-le (IsDead literals) (λ below. below ≡ 0) 0 n (λ b e. omega arith) h
tries-le instance IsDead (path ∷ paths) literals n h =
    let IsPart : ℕ → ℕ → Type 0 = λ index. IsTriesBy IsDead (count_at instance) paths (literals ++ literal path index ∷ []) in
    let most : ℕ = length (lists_along instance paths) in
    let small = one_and_below-le (IsDead literals) (IsSumOver (count_at instance path) IsPart) (count_at instance path * most) n
    (λ b s. let all = range-sum-most s.part (count_at instance path) most (λ i l. tries-le instance IsDead paths (literals ++ literal path i ∷ []) (s.part i) (s.each i l)) in let e = s.sum in omega arith) h in
    omega (arith, length-lists_along instance path paths)

-- ---- some number, where it is decided of each list on the way whether it is dead

pick : (count : ℕ) (IsPart : ℕ → ℕ → Type 0) → ((index : ℕ) → index < count → (n : ℕ) × IsPart index n) → (index : ℕ) → (index < count) ⊎ (count ≤ index) → ℕ
pick count IsPart some index (inl l) = (some index l).0
pick count IsPart some index (inr l) = 0

pick-is : (count : ℕ) (IsPart : ℕ → ℕ → Type 0) (some : (index : ℕ) → index < count → (n : ℕ) × IsPart index n) (index : ℕ) → index < count → (c : (index < count) ⊎ (count ≤ index)) → IsPart index (pick count IsPart some index c)
unfolding pick
pick-is count IsPart some index l (inl small) = (some index small).1
pick-is count IsPart some index l (inr large) = absurd (omega arith)

pub sum_over-some : (count : ℕ) (IsPart : ℕ → ℕ → Type 0) → ((index : ℕ) → index < count → (n : ℕ) × IsPart index n) → (total : ℕ) × IsSumOver count IsPart total
sum_over-some count IsPart some =
    let part : ℕ → ℕ = λ index. pick count IsPart some index (cases_lt index count) in (
      sum_by part (range_with_len 0 count),
      record {
        part = part;
        each = λ index l. pick-is count IsPart some index l (cases_lt index count);
        sum = refl;
      },
    )

pub tries-some : (instance : Instance) (IsDead : List Literal → Type 0) (paths : List ℕ) (literals : List Literal) → ((more : List Literal) → IsAlong instance paths more → IsDead (literals ++ more) ⊎ (IsDead (literals ++ more) → ⊥)) → (n : ℕ) × IsTriesBy IsDead (count_at instance) paths literals n
tries-some instance IsDead [] literals decided = ⊎_elim
    (λ dead. (0, inl (dead, refl)))
    (λ alive. (1, inr (alive, (0, refl, refl))))
    (subst (λ z. IsDead z ⊎ (IsDead z → ⊥)) (append-nil literals) (decided [] tt))
tries-some instance IsDead (path ∷ paths) literals decided =
    let IsPart : ℕ → ℕ → Type 0 = λ index. IsTriesBy IsDead (count_at instance) paths (literals ++ literal path index ∷ []) in
    ⊎_elim
    (λ dead. (0, inl (dead, refl)))
    (λ alive.
    let below = sum_over-some (count_at instance path) IsPart (λ index l.
    tries-some instance IsDead paths (literals ++ literal path index ∷ []) (λ more along.
    subst (λ z. IsDead z ⊎ (IsDead z → ⊥)) (sym (append_assoc literals (literal path index ∷ []) more))
    (decided (literal path index ∷ more) (refl, l, along)))) in
    (1 + below.0, inr (alive, (below.0, refl, below.1))))
    (subst (λ z. IsDead z ⊎ (IsDead z → ⊥)) (append-nil literals) (decided [] tt))
