-- The faults of the slices of a round, by place.
use Rattle.std.proofs.Common.{◌≡◌, ℕ, suc, zero, ◌+◌, ◌<◌, List, [], ◌∷◌, length, get_or, Result, Ok, IfOk, sym, ◌∙◌, subst, arith}
use Rattle.std.specs.List.{AllZip, range_with_len}
use Rattle.std.proofs.lemmas.List.FromFn.{get_or-range_with_len, length-range_with_len}
use Rattle.std.proofs.lemmas.Slice.Zip.{AllZip-long}

zip_at : {A B : Type 0} (R : A → B → Type 0) (xs : List A) (ys : List B) (k : ℕ) (d : A) (e : B) → AllZip R xs ys → k < length xs → R (get_or xs k d) (get_or ys k e)
zip_at R [] [] k d e h lt = absurd (omega (arith, lt))
zip_at R [] (y ∷ ys) k d e h lt = elim h [ ]
zip_at R (x ∷ xs) [] k d e h lt = elim h [ ]
zip_at R (x ∷ xs) (y ∷ ys) zero d e h lt = h.0
zip_at R (x ∷ xs) (y ∷ ys) (suc k) d e h lt = zip_at R xs ys k d e h.1 (omega (arith, lt))

module _ {F E : Type 0} (f : ℕ → F) where
  abbrev pub AreJudged : ℕ → List (Result F E) → Type 0
  AreJudged n faults = AllZip (λ k fault. IfOk fault (λ x. x ≡ f k)) (range_with_len 0 n) faults

  pub judged_length : (n : ℕ) (faults : List (Result F E)) → AreJudged n faults → length faults ≡ n
  judged_length n faults h = AllZip-long _ (range_with_len 0 n) faults h ∙ length-range_with_len 0 n

  -- the fault at a place is that of its slice
  pub fault_is : (n k : ℕ) (faults : List (Result F E)) (answer : Result F E) (fault : F) → AreJudged n faults → k < length faults → answer ≡ get_or faults k answer → answer ≡ Ok fault → fault ≡ f k
  fault_is n k faults answer fault h lt is ok =
      let size = judged_length n faults h in
      let at = zip_at (λ n a. IfOk a (λ x. x ≡ f n)) (range_with_len 0 n) faults k 0 answer h (omega (arith, lt, size, length-range_with_len 0 n)) in
      let place : 0 + k ≡ k = omega arith in
      let line : get_or (range_with_len 0 n) k 0 ≡ k = get_or-range_with_len 0 n k 0 (omega (arith, lt, size)) ∙ place in
      subst (λ a. IfOk a (λ x. x ≡ f k)) (sym is ∙ ok) (subst (λ i. IfOk (get_or faults k answer) (λ x. x ≡ f i)) line at)
