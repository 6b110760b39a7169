-- Lists that grow in a loop.
use Rattle.std.proofs.Common.{◌≡◌, ℕ, suc, ◌+◌, ◌-◌, ◌<◌, ◌≤◌, List, [], ◌∷◌, ◌++◌, map, take, drop, zero-add, sym, ap, ◌∙◌, append_assoc, arith}
use Rattle.std.specs.List.{range_with_len}
use Rattle.std.proofs.lemmas.List.{drop_all, take_all}
use Rattle.std.proofs.lemmas.List.FromFn.{map-range_with_len_more}
use Rattle.search_log.specs.declared.line.LogLine.{LogLine}
use Rattle.merge_laws.specs.Stages.{Merged, emit, emit_all}

-- one number more
pub mapped-more : {X : Type 0} (f : ℕ → X) (start before after : List X) (n : ℕ) → before ≡ start ++ map f (range_with_len 0 n) → after ≡ before ++ f n ∷ [] →
    after ≡ start ++ map f (range_with_len 0 (n + 1))
mapped-more f start before after n was is =
    is ∙ (ap (λ xs. xs ++ f n ∷ []) was
    ∙ (append_assoc start (map f (range_with_len 0 n)) (f n ∷ [])
    ∙ ap (λ xs. start ++ xs) (sym (map-range_with_len_more f 0 n n (zero-add n)))))

-- what is left to be written of the next lines of a log leads to the same end
pub record IsOnTheWay (log count counter : ℕ) (first : List LogLine) (start : Merged) (rest : List LogLine) (s : Merged) : Type 0 where
  pub lines : emit_all log (take count first) start ≡ emit_all log (take (count - counter) rest) s
  pub rest_is : drop count first ≡ drop (count - counter) rest

module _ (log count counter : ℕ) (first : List LogLine) (start : Merged) (rest : List LogLine) (s : Merged) (way : IsOnTheWay log count counter first start rest s) where
  pub way-more : (line : LogLine) (more : List LogLine) (t : Merged) → counter < count → rest ≡ line ∷ more → t ≡ emit log line s → IsOnTheWay log count (counter + 1) first start more t
  way-more line more t l is next =
      let one : count - counter ≡ suc (count - (counter + 1)) = omega arith in
      record {
        lines = way.lines ∙ (ap (λ n. emit_all log (take n rest) s) one ∙ (ap (λ xs. emit_all log (take (suc (count - (counter + 1))) xs) s) is
            ∙ ap (λ u. emit_all log (take (count - (counter + 1)) more) u) (sym next)));
        rest_is = way.rest_is ∙ (ap (λ n. drop n rest) one ∙ ap (λ xs. drop (suc (count - (counter + 1))) xs) is);
      }

  pub way-short : rest ≡ [] → (s ≡ emit_all log (take count first) start) × ([] ≡ drop count first)
  way-short none = (
    sym (way.lines ∙ (ap (λ xs. emit_all log (take (count - counter) xs) s) none ∙ ap (λ xs. emit_all log xs s) (take_all (count - counter) [] (omega arith)))),
    sym (way.rest_is ∙ (ap (λ xs. drop (count - counter) xs) none ∙ drop_all (count - counter) [] (omega arith))),
  )

  pub way-end : count ≤ counter → (s ≡ emit_all log (take count first) start) × (rest ≡ drop count first)
  way-end l =
      let zero_left : count - counter ≡ 0 = omega arith in
      (sym (way.lines ∙ ap (λ n. emit_all log (take n rest) s) zero_left), sym (way.rest_is ∙ ap (λ n. drop n rest) zero_left))

pub way-start : (log count : ℕ) (first : List LogLine) (start : Merged) → IsOnTheWay log count 0 first start first start
way-start log count first start =
    let same : count ≡ count - 0 = omega arith in
    record { lines = ap (λ n. emit_all log (take n first) start) same; rest_is = ap (λ n. drop n first) same }
