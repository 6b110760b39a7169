-- Lines of a version, both ways.
use Rattle.std.proofs.Common.{◌≡◌, ℕ, cond, List, [], ◌∷◌, codes, Option, Some, None, Ok, refl, sym, ap, subst, ◌∙◌, inl, inr}
use Rattle.std.specs.Str.{bytes_eq}
use Rattle.fapp_text.proofs.SignLemmas.{is_word}
use Rattle.fapp_text.proofs.ReadingSteps.{bind_ok, allowed_ok, chosen, ok_is}
use Rattle.fapp_text.specs.Reading.{◌>>=◌, allowed}
use Rattle.cert_lines.specs.declared.answer.Rule.{Rule}
use Rattle.cert_lines.specs.declared.answer.Rule.TheVariants.{Count, Branch, Delete}
use Rattle.cert_lines.specs.declared.fault.CertCause.{CertCause}
use Rattle.cert_lines.specs.declared.fault.CertCause.TheVariants.{BadNumber}
use Rattle.cert_lines.specs.Spelling.{rule_word}
use Rattle.cert_lines.specs.FieldReading.{field_at, ended}
use Rattle.cert_lines.specs.VersionReading.{second_version, version_line}
use Rattle.cert_lines.proofs.FieldLaws.{field_takes, ended_takes}

second_takes : (fields : List (List ℕ)) (version : ℕ) → second_version fields ≡ Ok version → (fields ≡ codes "2" ∷ []) × (version ≡ 2)
unfolding second_version
second_takes fields version e =
    let a = bind_ok (field_at fields) (λ number. allowed (bytes_eq number.0 (codes "2")) BadNumber number.1 >>= λ rest. ended rest >>= λ end. Ok 2) version e in
    let b = bind_ok (allowed (bytes_eq a.0.0 (codes "2")) BadNumber a.0.1) (λ rest. ended rest >>= λ end. Ok 2) version a.2 in
    let c = bind_ok (ended b.0) (λ end. Ok 2) version b.2 in
    let g = allowed_ok (bytes_eq a.0.0 (codes "2")) BadNumber a.0.1 b.0 b.1 in
    let text = field_takes fields a.0 a.1 ∙ ap (λ (w : List ℕ). w ∷ a.0.1) (is_word a.0.0 (codes "2") g.0) ∙ ap (λ (t : List (List ℕ)). codes "2" ∷ t) (g.1 ∙ ended_takes b.0 c.0 c.1) in
    (text, sym (ok_is {E = CertCause} 2 version c.2))

-- what a line says of the version
abbrev pub SaysVersion : List (List ℕ) → Option ℕ → Type 0
SaysVersion fields None = Unit {0}
SaysVersion fields (Some version) = (fields ≡ codes "V" ∷ codes "2" ∷ []) × (version ≡ 2)

pub version_takes : (fields : List (List ℕ)) (found : Option ℕ) → version_line fields ≡ Ok found → SaysVersion fields found
unfolding version_line
version_takes fields found e =
    let a = bind_ok (field_at fields) (λ word. cond (bytes_eq word.0 (codes "V")) (second_version word.1 >>= λ version. Ok (Some version)) (Ok None)) found e in
    let none : Option ℕ = None in
    elim (chosen (bytes_eq a.0.0 (codes "V")) (second_version a.0.1 >>= λ version. Ok (Some version)) (Ok none) (Ok found) a.2) [
      | inl h ↦
          let b = bind_ok (second_version a.0.1) (λ version. Ok (Some version)) found h.1 in
          let said = second_takes a.0.1 b.0 b.1 in
          let text = field_takes fields a.0 a.1 ∙ ap (λ (w : List ℕ). w ∷ a.0.1) (is_word a.0.0 (codes "V") h.0) ∙ ap (λ (t : List (List ℕ)). codes "V" ∷ t) said.0 in
          subst (SaysVersion fields) (ok_is {E = CertCause} (Some b.0) found b.2) (text, said.1)
      | inr h ↦ subst (SaysVersion fields) (ok_is {E = CertCause} none found h.1) tt
    ]

pub version_again : version_line (codes "V" ∷ codes "2" ∷ []) ≡ Ok (Some 2)
unfolding version_line second_version
version_again = refl

-- certificate lines say none
pub no_version : (rule : Rule) (fields : List (List ℕ)) → version_line (rule_word rule ∷ fields) ≡ Ok None
unfolding version_line
no_version (Count cites) fields = refl
no_version (Branch path children) fields = refl
no_version (Delete cites) fields = refl

pub no_version_at_end : (fields : List (List ℕ)) → version_line (codes "END" ∷ fields) ≡ Ok None
unfolding version_line
no_version_at_end fields = refl
