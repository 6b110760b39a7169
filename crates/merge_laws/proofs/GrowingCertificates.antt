-- What stays as a certificate grows.
use Rattle.std.proofs.Common.{◌≡◌, ◌⊎◌, ℕ, ◌+◌, ◌-◌, ◌<◌, ◌≤◌, false, List, [], ◌∷◌, ◌++◌, length, take, ap, subst, ◌∙◌, inl, inr, arith, None, All}
use Rattle.std.proofs.lemmas.Bool.{or_left, cases_lt}
use Rattle.std.proofs.lemmas.List.{length-append, length_push, take-append-le, take_all}
use Rattle.std.proofs.lemmas.List.Elements.{All-push}
use Rattle.std.proofs.lemmas.List.Folds.{list_any-append}
use Rattle.fapp_model.specs.declared.instance.Instance.{Instance}
use Rattle.fapp_model.specs.Instances.{IsNumber}
use Rattle.cert_lines.specs.declared.answer.Line.{Line}
use Rattle.cert_lines.specs.WellFormed.{IsLine}
use Rattle.cert_lines.specs.acceptance.Deleted.{is_delete}
use Rattle.cert_lines.specs.acceptance.Excluded.{is_marked, line_at}
use Rattle.cert_lines.specs.acceptance.LineFaults.{line_fault, rejected_at}
use Rattle.accept_laws.specs.Lines.{AreGood}
use Rattle.accept_laws.proofs.Options.{mapped-none}
use Rattle.search_log.specs.Contents.{Content}
use Rattle.merge_laws.specs.Fates.{AreMarked, IsFate, StandsAt}
use Rattle.accept_laws.proofs.LineGrowth.{at-end, at-front, none-mapped}

pub marked-grows : (instance : Instance) (out : List Line) (line : Line) → is_delete line.rule ≡ false → AreMarked instance out → AreMarked instance (out ++ line ∷ [])
marked-grows instance out line plain h = record {
  plain = All-push (λ (line : Line). is_delete line.rule ≡ false) out line h.plain plain;
  marks = λ t a own home outside. list_any-append _ out (line ∷ []) ∙ or_left (is_marked out t a) (is_marked (line ∷ []) t a) (h.marks t a own home outside);
}

pub stands-grows : (out more : List Line) (content : Content) (n : ℕ) → StandsAt out content n → StandsAt (out ++ more) content n
stands-grows out more content n h = record {
  low = h.low;
  high = omega (arith, h.high, length-append out more);
  tag_is = ap (λ (line : Line). line.tag.code) (at-front out more n h.low h.high) ∙ h.tag_is;
  lits_are = ap (λ (line : Line). line.lits) (at-front out more n h.low h.high) ∙ h.lits_are;
}

pub fate-grows : (instance : Instance) (out more : List Line) (content : Content) (n : ℕ) → IsFate instance out content n → IsFate instance (out ++ more) content n
fate-grows instance out more content n (inl left) = inl left
fate-grows instance out more content n (inr stands) = inr (stands-grows out more content n stands)

pub stands-last : (out : List Line) (line : Line) → StandsAt (out ++ line ∷ []) (record { tag = line.tag.code; lits = line.lits }) (length out + 1)
stands-last out line = record {
  low = omega arith;
  high = omega (arith, length_push out line);
  tag_is = ap (λ (l : Line). l.tag.code) (at-end out line);
  lits_are = ap (λ (l : Line). l.lits) (at-end out line);
}

pub good-grows : (instance : Instance) (out : List Line) (line : Line) → AreGood instance out → line_fault instance out line ≡ None → AreGood instance (out ++ line ∷ [])
good-grows instance out line good clean n small =
    none-mapped (rejected_at (n + 1)) (line_fault instance (take n (out ++ line ∷ [])) (line_at (out ++ line ∷ []) (n + 1))) (here (cases_lt n (length out)))
  where
    before : n < length out → line_fault instance (take n out) (line_at out (n + 1)) ≡ None
    before less = mapped-none (rejected_at (n + 1)) (line_fault instance (take n out) (line_at out (n + 1))) (good n less)

    here : (n < length out) ⊎ (length out ≤ n) → line_fault instance (take n (out ++ line ∷ [])) (line_at (out ++ line ∷ []) (n + 1)) ≡ None
    here (inl less) = rw (take-append-le n out (line ∷ []) (omega (arith, less))) (rw (at-front out (line ∷ []) (n + 1) (omega arith) (omega (arith, less))) (before less))
    here (inr last) =
        let same : length out ≡ n = omega (arith, small, length_push out line) in
        subst (λ k. line_fault instance (take k (out ++ line ∷ [])) (line_at (out ++ line ∷ []) (k + 1)) ≡ None) same
        (rw (take-append-le (length out) out (line ∷ []) (omega arith)) (rw (take_all (length out) out (omega arith)) (rw (at-end out line) clean)))

-- the lines are well formed, while their numbers are numbers of a text
abbrev pub AreFormed : Instance → List Line → Type 0
AreFormed instance out = IsNumber (length out) → All (IsLine instance) out

pub formed-grows : (instance : Instance) (out : List Line) (line : Line) → AreFormed instance out → (IsNumber (length out) → IsLine instance line) → AreFormed instance (out ++ line ∷ [])
formed-grows instance out line before new few =
    let fewer : IsNumber (length out) = (let l = length_push out line in omega arith) in
    All-push (IsLine instance) out line (before fewer) (new fewer)
