-- Lists in the midst of a line, both ways, whatever each element is.
use Rattle.std.proofs.Common.{◌≡◌, ℕ, zero, suc, ◌+◌, ◌<◌, ◌≤◌, List, [], ◌∷◌, ◌++◌, length, map, All, AllPairs, decimal, Result, Ok, refl, sym, ap, subst, ◌∙◌, arith}
use Rattle.std.specs.List.{flat_map, AllByRecursion}
use Rattle.std.proofs.lemmas.List.Elements.{All-from_recursion, recursion_from_All}
use Rattle.fapp_model.specs.Instances.{IsNumber}
use Rattle.cert_lines.specs.declared.fault.CertCause.{CertCause}
use Rattle.fapp_text.specs.Reading.{◌>>=◌}
use Rattle.cert_lines.specs.FieldReading.{number_at}
use Rattle.cert_lines.specs.ListReading.{State, many, counted, list_at}
use Rattle.cert_lines.proofs.Ascending.{AscendsFrom, pairs_from, ascends}
use Rattle.fapp_text.proofs.ReadingSteps.{bind_ok, ok_is}
use Rattle.cert_lines.proofs.FieldLaws.{Takes, split_numbers, takes_both, number_takes, number_again}

-- a step reads an element that is written as these numbers, and its key is at least the least that may come
pub record IsStep {A : Type 0} (numbers : A → List ℕ) (key : A → ℕ) (Valid : A → Type 0) (step : State → Result (A × State) CertCause) : Type 0 where
  pub takes : (s : State) (x : A × State) → step s ≡ Ok x → Takes s.1 (numbers x.0) x.1.1 × Valid x.0 × (s.0 ≤ key x.0) × (x.1.0 ≡ key x.0 + 1)
  pub again : (low : ℕ) (x : A) (rest : List (List ℕ)) → low ≤ key x → Valid x → step (low, map decimal (numbers x) ++ rest) ≡ Ok (x, (key x + 1, rest))

-- what a list that was read is
abbrev pub AreTaken : {A : Type 0} → (A → List ℕ) → (A → ℕ) → (A → Type 0) → ℕ → State → List A × State → Type 0
AreTaken numbers key Valid n s x = Takes s.1 (flat_map numbers x.0) x.1.1 × (length x.0 ≡ n) × AllByRecursion Valid x.0 × AscendsFrom s.0 (map key x.0)

pub many_takes : {A : Type 0} (numbers : A → List ℕ) (key : A → ℕ) (Valid : A → Type 0) (step : State → Result (A × State) CertCause) → IsStep numbers key Valid step
    → (n : ℕ) (s : State) (x : List A × State) → many step n s ≡ Ok x → AreTaken numbers key Valid n s x
many_takes {A} numbers key Valid step law zero s x e =
    let made : List A × State = ([], s) in
    subst (AreTaken numbers key Valid 0 s) (ok_is {E = CertCause} made x e) (refl, refl, tt, tt)
many_takes {A} numbers key Valid step law (suc n) s x e =
    let a = bind_ok (step s) (λ first. many step n first.1 >>= λ others. Ok (first.0 ∷ others.0, others.1)) x e in
    let b = bind_ok (many step n a.0.1) (λ others. Ok (a.0.0 ∷ others.0, others.1)) x a.2 in
    let first = law.takes s a.0 a.1 in
    let others = many_takes numbers key Valid step law n a.0.1 b.0 b.1 in
    let made : List A × State = (a.0.0 ∷ b.0.0, b.0.1) in
    let low : AscendsFrom (key a.0.0 + 1) (map key b.0.0) = subst (λ (k : ℕ). AscendsFrom k (map key b.0.0)) first.3 others.3 in
    subst (AreTaken numbers key Valid (suc n) s) (ok_is {E = CertCause} made x b.2) (takes_both s.1 a.0.1.1 b.0.1.1 (numbers a.0.0) (flat_map numbers b.0.0) first.0 others.0, ap suc others.1, (first.1, others.2), (first.2, low))

pub many_again : {A : Type 0} (numbers : A → List ℕ) (key : A → ℕ) (Valid : A → Type 0) (step : State → Result (A × State) CertCause) → IsStep numbers key Valid step
    → (xs : List A) (low : ℕ) (rest : List (List ℕ)) → AllByRecursion Valid xs → AscendsFrom low (map key xs)
    → (last : ℕ) × (many step (length xs) (low, map decimal (flat_map numbers xs) ++ rest) ≡ Ok (xs, (last, rest)))
many_again numbers key Valid step law [] low rest valid up = (low, refl)
many_again {A} numbers key Valid step law (x ∷ xs) low rest valid up =
    let others = many_again numbers key Valid step law xs (key x + 1) rest valid.1 up.1 in
    let behind : List (List ℕ) = map decimal (flat_map numbers xs) ++ rest in
    let cut : map decimal (flat_map numbers (x ∷ xs)) ++ rest ≡ map decimal (numbers x) ++ behind = split_numbers (numbers x) (flat_map numbers xs) rest in
    let one = law.again low x behind up.0 valid.0 in
    let goes : Result (A × State) CertCause → Result (List A × State) CertCause = λ r. r >>= λ first. many step (length xs) first.1 >>= λ more. Ok (first.0 ∷ more.0, more.1) in (
      others.0,
      ap (λ (fields : List (List ℕ)). many step (suc (length xs)) (low, fields)) cut
          ∙ ap goes one
          ∙ ap (λ (r : Result (List A × State) CertCause). r >>= λ more. Ok (x ∷ more.0, more.1)) others.1,
    )

-- a list with its length before it
pub record AreListed {A : Type 0} (numbers : A → List ℕ) (key : A → ℕ) (Valid : A → Type 0) (fields : List (List ℕ)) (x : List A × List (List ℕ)) : Type 0 where
  pub text : Takes fields (length x.0 ∷ flat_map numbers x.0) x.1
  pub few : IsNumber (length x.0)
  pub each : All Valid x.0
  pub up : AllPairs (λ a b. key a < key b) x.0

pub list_takes : {A : Type 0} (numbers : A → List ℕ) (key : A → ℕ) (Valid : A → Type 0) (step : State → Result (A × State) CertCause) → IsStep numbers key Valid step
    → (fields : List (List ℕ)) (x : List A × List (List ℕ)) → list_at step fields ≡ Ok x → AreListed numbers key Valid fields x
unfolding list_at
list_takes {A} numbers key Valid step law fields x e =
    let a = bind_ok (number_at fields) (λ count. counted step count.0 count.1) x e in
    let b = bind_ok (many step a.0.0 (0, a.0.1)) (λ items. Ok (items.0, items.1.1)) x a.2 in
    let count = number_takes fields a.0 a.1 in
    let items = many_takes numbers key Valid step law a.0.0 (0, a.0.1) b.0 b.1 in
    let made : List A × List (List ℕ) = (b.0.0, b.0.1.1) in
    let text : Takes fields (a.0.0 ∷ flat_map numbers b.0.0) b.0.1.1 = takes_both fields a.0.1 b.0.1.1 (a.0.0 ∷ []) (flat_map numbers b.0.0) count.0 items.0 in
    subst (AreListed numbers key Valid fields) (ok_is {E = CertCause} made x b.2) (record {
      text = subst (λ (n : ℕ). Takes fields (n ∷ flat_map numbers b.0.0) b.0.1.1) (sym items.1) text;
      few = subst IsNumber (sym items.1) count.1;
      each = All-from_recursion Valid b.0.0 items.2;
      up = pairs_from key 0 b.0.0 items.3;
    })

pub list_again : {A : Type 0} (numbers : A → List ℕ) (key : A → ℕ) (Valid : A → Type 0) (step : State → Result (A × State) CertCause) → IsStep numbers key Valid step
    → (xs : List A) (rest : List (List ℕ)) → IsNumber (length xs) → All Valid xs → AllPairs (λ a b. key a < key b) xs
    → list_at step (map decimal (length xs ∷ flat_map numbers xs) ++ rest) ≡ Ok (xs, rest)
unfolding list_at
list_again {A} numbers key Valid step law xs rest few valid up =
    let all = many_again numbers key Valid step law xs 0 rest (recursion_from_All Valid xs valid) (ascends key 0 xs (λ k d l. omega arith) up) in
    ap (λ (r : Result (ℕ × List (List ℕ)) CertCause). r >>= λ count. counted step count.0 count.1) (number_again (length xs) (map decimal (flat_map numbers xs) ++ rest) few)
    ∙ ap (λ (r : Result (List A × State) CertCause). r >>= λ items. Ok (items.0, items.1.1)) all.1
