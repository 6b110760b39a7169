-- No plan meets a crowded instance, so everything is implied there.
use Rattle.std.proofs.Common.{◌≡◌, ℕ, zero, suc, ◌<◌, Bool, true, false, not, List, [], ◌∷◌, refl, sym, arith}
use Rattle.std.specs.List.{range_with_len}
use Rattle.std.proofs.lemmas.Bool.{and_parts, true≢false}
use Rattle.std.proofs.lemmas.List.Elements.{All-map}
use Rattle.fapp_model.specs.declared.choice.Choice.{Choice}
use Rattle.fapp_model.specs.declared.instance.Instance.{Instance}
use Rattle.fapp_model.specs.declared.literal.Literal.{Literal}
use Rattle.fapp_model.specs.declared.record.Record.TheVariants.{Freq}
use Rattle.fapp_model.specs.Choices.{choice}
use Rattle.fapp_model.specs.Least.{IsFeasible}
use Rattle.fapp_model.specs.Levels.{levels_of}
use Rattle.fapp_model.specs.Records.{is_broken}
use Rattle.fapp_model.specs.search.Partials.{literal, AreLiterals, IsLiteral}
use Rattle.fapp_model.proofs.Members.{All-range}
use Rattle.fapp_model.proofs.InOrder.{pairs-map, rising}
use Rattle.nogood_pool.specs.Examples.{narrow_path, crowded, first_choices, top_code}
use Rattle.nogood_pool.specs.Pool.{IsPoolRow, content}

-- a choice of a path of two frequencies
abbrev pick : ℕ → Choice
pick index = choice (narrow_path 1) index

-- two of the paths have one choice
abbrev breaks-two : ℕ → ℕ → Bool
breaks-two a b = is_broken (Freq 0 1 false 0) (pick a) (pick b)

one-breaks : (a b c : ℕ) → a < 2 → b < 2 → c < 2 → breaks-two a b ≡ false → breaks-two a c ≡ false → breaks-two b c ≡ false → ⊥
one-breaks zero zero c la lb lc ab ac bc = true≢false ab
one-breaks (suc zero) (suc zero) c la lb lc ab ac bc = true≢false ab
one-breaks zero (suc zero) zero la lb lc ab ac bc = true≢false ac
one-breaks zero (suc zero) (suc zero) la lb lc ab ac bc = true≢false bc
one-breaks (suc zero) zero zero la lb lc ab ac bc = true≢false bc
one-breaks (suc zero) zero (suc zero) la lb lc ab ac bc = true≢false ac
one-breaks (suc (suc a)) b c la lb lc ab ac bc = absurd (omega arith)
one-breaks a (suc (suc b)) c la lb lc ab ac bc = absurd (omega arith)
one-breaks a b (suc (suc c)) la lb lc ab ac bc = absurd (omega arith)

kept-off : (b : Bool) → not b ≡ true → b ≡ false
kept-off true h = absurd (true≢false (sym h))
kept-off false h = refl

pub nobody-meets : (more plan : List ℕ) → IsFeasible (crowded more) plan → ⊥
unfolding crowded
nobody-meets more plan feasible =
    let small = feasible.assignment.in_range in
    let first = and_parts _ _ feasible.met in
    let second = and_parts _ _ first.1 in
    let third = and_parts _ _ second.1 in
    one-breaks _ _ _ (small 0 (omega arith)) (small 1 (omega arith)) (small 2 (omega arith))
    (kept-off _ first.0) (kept-off _ second.0) (kept-off _ third.0)

-- literals of a crowded instance may be published at its top tag
pub crowded-row : (more : List ℕ) (lits : List Literal) → AreLiterals (crowded more) lits → IsPoolRow (crowded more) (content lits top_code)
unfolding levels_of
crowded-row more lits are = record {
  literals = are;
  code = refl;
  tag = refl;
  above = omega arith;
  implied = λ plan feasible extends below. absurd (nobody-meets more plan feasible);
}

pub no-literals : (more : List ℕ) → AreLiterals (crowded more) []
no-literals more = record { in_range = λ k d l. absurd (omega arith); ascending = λ i j d l m. absurd (omega arith) }

pub nine-first : AreLiterals (crowded (4 ∷ 5 ∷ 6 ∷ 7 ∷ 8 ∷ 9 ∷ [])) (first_choices 9)
unfolding crowded
nine-first = record {
  in_range = All-map (IsLiteral (crowded (4 ∷ 5 ∷ 6 ∷ 7 ∷ 8 ∷ 9 ∷ []))) (λ path. literal path 0) (range_with_len 0 9)
      (All-range (λ path. IsLiteral (crowded (4 ∷ 5 ∷ 6 ∷ 7 ∷ 8 ∷ 9 ∷ [])) (literal path 0)) 9 at-path);
  ascending = pairs-map (λ (a b : Literal). a.path < b.path) (λ path. literal path 0) (range_with_len 0 9) (rising 0 9);
}
  where
    at-path : (path : ℕ) → path < 9 → IsLiteral (crowded (4 ∷ 5 ∷ 6 ∷ 7 ∷ 8 ∷ 9 ∷ [])) (literal path 0)
    at-path zero l = record { path = l; choice = omega arith }
    at-path (suc zero) l = record { path = l; choice = omega arith }
    at-path (suc (suc zero)) l = record { path = l; choice = omega arith }
    at-path (suc (suc (suc zero))) l = record { path = l; choice = omega arith }
    at-path (suc (suc (suc (suc zero)))) l = record { path = l; choice = omega arith }
    at-path (suc (suc (suc (suc (suc zero))))) l = record { path = l; choice = omega arith }
    at-path (suc (suc (suc (suc (suc (suc zero)))))) l = record { path = l; choice = omega arith }
    at-path (suc (suc (suc (suc (suc (suc (suc zero))))))) l = record { path = l; choice = omega arith }
    at-path (suc (suc (suc (suc (suc (suc (suc (suc zero)))))))) l = record { path = l; choice = omega arith }
    at-path (suc (suc (suc (suc (suc (suc (suc (suc (suc path))))))))) l = absurd (omega arith)

-- the same of an instance, literals and a code that are these
pub crowded-row-by : (instance : Instance) (more : List ℕ) (lits are : List Literal) (code : ℕ) → instance ≡ crowded more → lits ≡ are → code ≡ top_code → AreLiterals (crowded more) are → IsPoolRow instance (content lits code)
crowded-row-by instance more lits are code i l c formed = rw (i, l, c) (crowded-row more are formed)
