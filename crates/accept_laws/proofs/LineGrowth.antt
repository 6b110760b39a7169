-- Good lines with one more.
use Rattle.std.proofs.Common.{◌≡◌, ◌⊎◌, ℕ, ◌+◌, ◌-◌, ◌<◌, ◌≤◌, List, [], ◌∷◌, ◌++◌, length, take, refl, subst, inl, inr, arith, Option, None}
use Rattle.std.specs.Option.{option_map}
use Rattle.std.proofs.lemmas.Bool.{cases_lt}
use Rattle.std.proofs.lemmas.List.{length_push, get_or_append_left, get_or_push, take-append-le, take_all}
use Rattle.fapp_model.specs.declared.instance.Instance.{Instance}
use Rattle.cert_lines.specs.declared.answer.Line.{Line}
use Rattle.cert_lines.specs.acceptance.Excluded.{line_at, no_line}
use Rattle.cert_lines.specs.acceptance.LineFaults.{line_fault, rejected_at}
use Rattle.accept_laws.specs.Lines.{AreGood}
use Rattle.accept_laws.proofs.Options.{mapped-none}

pub at-front : (out more : List Line) (n : ℕ) → 0 < n → n ≤ length out → line_at (out ++ more) n ≡ line_at out n
at-front out more n low high = get_or_append_left out more no_line (n - 1) (omega (arith, low, high))

pub at-end : (out : List Line) (line : Line) → line_at (out ++ line ∷ []) (length out + 1) ≡ line
at-end out line = get_or_push out line no_line (length out + 1 - 1) (omega arith)

pub none-mapped : {X Y : Type 0} (f : X → Y) (o : Option X) → o ≡ None → option_map f o ≡ None
none-mapped f o e = rw e refl

pub good-more : (instance : Instance) (out : List Line) (line : Line) → AreGood instance out → line_fault instance out line ≡ None → AreGood instance (out ++ line ∷ [])
good-more instance out line good clean n small =
    none-mapped (rejected_at (n + 1)) (line_fault instance (take n (out ++ line ∷ [])) (line_at (out ++ line ∷ []) (n + 1))) (here (cases_lt n (length out)))
  where
    before : n < length out → line_fault instance (take n out) (line_at out (n + 1)) ≡ None
    before less = mapped-none (rejected_at (n + 1)) (line_fault instance (take n out) (line_at out (n + 1))) (good n less)

    here : (n < length out) ⊎ (length out ≤ n) → line_fault instance (take n (out ++ line ∷ [])) (line_at (out ++ line ∷ []) (n + 1)) ≡ None
    here (inl less) = rw (take-append-le n out (line ∷ []) (omega (arith, less))) (rw (at-front out (line ∷ []) (n + 1) (omega arith) (omega (arith, less))) (before less))
    here (inr last) =
        let same : length out ≡ n = omega (arith, small, length_push out line) in
        subst (λ k. line_fault instance (take k (out ++ line ∷ [])) (line_at (out ++ line ∷ []) (k + 1)) ≡ None) same
        (rw (take-append-le (length out) out (line ∷ []) (omega arith)) (rw (take_all (length out) out (omega arith)) (rw (at-end out line) clean)))
