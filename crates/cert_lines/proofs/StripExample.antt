-- Some lines that may be stripped.
use Rattle.std.proofs.Common.{ℕ, zero, suc, ◌<◌, ◌≤◌, List, [], ◌∷◌, refl, arith, All, IsTrue}
use Rattle.std.proofs.lemmas.List.Elements.{All-cons, All-nil}
use Rattle.fapp_model.specs.declared.tag.Tag.{Tag}
use Rattle.cert_lines.specs.declared.answer.Line.{Line}
use Rattle.cert_lines.specs.declared.answer.Rule.TheVariants.{Count, Delete}
use Rattle.cert_lines.specs.Stripping.{IsStrippable, stays}
use Rattle.cert_lines.specs.acceptance.Excluded.{line_at}

abbrev pub count_line : Tag → List ℕ → Line
count_line tag cites = record { tag = tag; lits = []; rule = Count cites }

abbrev pub lines : Tag → Tag → List Line
lines t u = count_line t [] ∷ count_line t (1 ∷ []) ∷ record { tag = u; lits = []; rule = Delete (1 ∷ []) } ∷ count_line t (2 ∷ []) ∷ count_line t (2 ∷ 4 ∷ []) ∷ []

abbrev Passes : Tag → Tag → ℕ → ℕ → Type 0
Passes t u n k = (0 < k) × ((k < n) × IsTrue (stays (line_at (lines t u) k)))

pub ready : (t u : Tag) (n : ℕ) → 0 < n → n ≤ 5 → IsStrippable (lines t u) n
ready t u zero low most = absurd (omega arith)
ready t u (suc zero) low most = λ some. All-nil (Passes t u 1)
ready t u (suc (suc zero)) low most = λ some. All-cons (Passes t u 2) 1 [] (omega arith, (omega arith, refl)) (All-nil (Passes t u 2))
ready t u (suc (suc (suc zero))) low most = λ some. All-nil (Passes t u 3)
ready t u (suc (suc (suc (suc zero)))) low most = λ some. All-cons (Passes t u 4) 2 [] (omega arith, (omega arith, refl)) (All-nil (Passes t u 4))
ready t u (suc (suc (suc (suc (suc zero))))) low most =
    λ some. All-cons (Passes t u 5) 2 (4 ∷ []) (omega arith, (omega arith, refl)) (All-cons (Passes t u 5) 4 [] (omega arith, (omega arith, refl)) (All-nil (Passes t u 5)))
ready t u (suc (suc (suc (suc (suc (suc n)))))) low most = absurd (omega arith)
