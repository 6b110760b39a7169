-- Lines of a plan, both ways.
use Rattle.std.proofs.Common.{◌≡◌, ℕ, ◌+◌, ◌<◌, true, cond, eqb, ltb, List, [], ◌∷◌, length, drop, decimal, codes, ℤ, Option, Some, None, Result, Ok, Err, refl, sym, ap, subst, ◌∙◌, inl, inr, arith, length-drop}
use Rattle.std.specs.Fmt.{signed_decimal}
use Rattle.std.specs.Option.{ok_or}
use Rattle.std.specs.Str.{bytes_eq}
use Rattle.std.proofs.lemmas.Bool.{and_parts, eqb-true, ltb-true, lt-ltb}
use Rattle.std.proofs.lemmas.Bool.Decides.{nat_tests}
use Rattle.std.proofs.lemmas.List.{drop_more}
use Rattle.fapp_model.specs.declared.choice.Choice.{Choice}
use Rattle.fapp_model.specs.declared.instance.Instance.{Instance}
use Rattle.fapp_model.specs.declared.instance.Path.{Path}
use Rattle.fapp_model.specs.Assignments.{path_at, no_path}
use Rattle.fapp_model.specs.Instances.{IsNumber}
use Rattle.cert_lines.specs.declared.fault.CertCause.{CertCause}
use Rattle.cert_lines.specs.declared.fault.CertCause.TheVariants.{BadKind, BadNumber}
use Rattle.fapp_text.specs.Reading.{◌>>=◌, allowed}
use Rattle.cert_lines.specs.Spelling.{choice_fields}
use Rattle.cert_lines.specs.WellFormed.{IsShownChoice}
use Rattle.cert_lines.specs.FieldReading.{field_at, ended, number_at}
use Rattle.cert_lines.specs.PlanReading.{polarization_at, misplaced, is_turn, choice_line, plan_line}
use Rattle.fapp_text.proofs.ReadingSteps.{bind_ok, allowed_ok, chosen, ok_is}
use Rattle.cert_lines.proofs.FieldLaws.{field_takes, ended_takes, number_takes, number_again}
use Rattle.fapp_text.specs.Signs.{IsSign, sign_of}
use Rattle.fapp_text.proofs.SignLemmas.{is_word, sign_taken, sign_again}

abbrev SignTaken : List (List ℕ) → ℤ × List (List ℕ) → Type 0
SignTaken fields x = (fields ≡ signed_decimal x.0 ∷ x.1) × IsSign x.0

ok_or_ok : (found : Option ℤ) (z : ℤ) → ok_or found BadNumber ≡ Ok z → found ≡ Some z
ok_or_ok None z e = absurd cc
ok_or_ok (Some y) z e = ap (λ (x : ℤ). Some x) (ok_is {E = CertCause} y z e)

polarization_takes : (fields : List (List ℕ)) (x : ℤ × List (List ℕ)) → polarization_at fields ≡ Ok x → SignTaken fields x
unfolding polarization_at
polarization_takes fields x e =
    let a = bind_ok (field_at fields) (λ field. ok_or (sign_of field.0) BadNumber >>= λ pol. Ok (pol, field.1)) x e in
    let b = bind_ok (ok_or (sign_of a.0.0) BadNumber) (λ pol. Ok (pol, a.0.1)) x a.2 in
    let sign = sign_taken a.0.0 b.0 (ok_or_ok (sign_of a.0.0) b.0 b.1) in
    let made : ℤ × List (List ℕ) = (b.0, a.0.1) in
    subst (SignTaken fields) (ok_is {E = CertCause} made x b.2) (field_takes fields a.0 a.1 ∙ ap (λ (field : List ℕ). field ∷ a.0.1) sign.0, sign.1)

polarization_again : (z : ℤ) (rest : List (List ℕ)) → IsSign z → polarization_at (signed_decimal z ∷ rest) ≡ Ok (z, rest)
unfolding polarization_at
polarization_again z rest h = ap (λ (found : Option ℤ). ok_or found BadNumber >>= λ pol. Ok (pol, rest)) (sign_again z h)

-- a path whose turn it is
abbrev IsNext : Instance → ℕ → ℕ → Type 0
IsNext instance place number = (path : Path) × (drop place instance.paths ≡ path ∷ drop (place + 1) instance.paths) × (path.number ≡ number)

turn_takes : (instance : Instance) (place number : ℕ) → is_turn instance place number ≡ true → IsNext instance place number
turn_takes instance place number e =
    let h = and_parts (ltb place (length instance.paths)) (eqb (path_at instance place).number number) e in
    (path_at instance place, drop_more instance.paths place no_path (ltb-true place (length instance.paths) h.0), eqb-true _ _ h.1)

same_number : (n : ℕ) → eqb n n ≡ true
same_number n = grind (arith, nat_tests)

-- the path at a place, and those behind it
pub turn_again : (instance : Instance) (place : ℕ) (path : Path) (others : List Path) → drop place instance.paths ≡ path ∷ others → (is_turn instance place path.number ≡ true) × (drop (place + 1) instance.paths ≡ others)
turn_again instance place path others e =
    let some : place < length instance.paths = omega (arith, length-drop place instance.paths, ap length e) in
    let cut : path_at instance place ∷ drop (place + 1) instance.paths ≡ path ∷ others = sym (drop_more instance.paths place no_path some) ∙ e in
    let same : path_at instance place ≡ path = cc in
    let number : eqb (path_at instance place).number path.number ≡ true = rw same (same_number path.number) in
    (rw (lt-ltb place (length instance.paths) some, number) refl, cc)

-- fields that are those of a path's choice
abbrev pub IsChoiceOf : Instance → ℕ → List (List ℕ) → Choice → Type 0
IsChoiceOf instance place fields choice = (path : Path) × (drop place instance.paths ≡ path ∷ drop (place + 1) instance.paths) × (fields ≡ choice_fields path choice) × IsShownChoice choice

choice_takes : (instance : Instance) (place : ℕ) (fields : List (List ℕ)) (x : Choice) → choice_line instance place fields ≡ Ok x → IsChoiceOf instance place (codes "AL" ∷ fields) x
unfolding choice_line
choice_takes instance place fields x e =
    let a = bind_ok (number_at fields) (λ number. allowed (is_turn instance place number.0) (misplaced instance number.0) number.1 >>= λ rest. number_at rest >>= λ freq. polarization_at freq.1 >>= λ pol. ended pol.1 >>= λ end. Ok (record { freq = freq.0; pol = pol.0 })) x e in
    let b = bind_ok (allowed (is_turn instance place a.0.0) (misplaced instance a.0.0) a.0.1) (λ rest. number_at rest >>= λ freq. polarization_at freq.1 >>= λ pol. ended pol.1 >>= λ end. Ok (record { freq = freq.0; pol = pol.0 })) x a.2 in
    let c = bind_ok (number_at b.0) (λ freq. polarization_at freq.1 >>= λ pol. ended pol.1 >>= λ end. Ok (record { freq = freq.0; pol = pol.0 })) x b.2 in
    let d = bind_ok (polarization_at c.0.1) (λ pol. ended pol.1 >>= λ end. Ok (record { freq = c.0.0; pol = pol.0 })) x c.2 in
    let f = bind_ok (ended d.0.1) (λ end. Ok (record { freq = c.0.0; pol = d.0.0 })) x d.2 in
    let g = allowed_ok (is_turn instance place a.0.0) (misplaced instance a.0.0) a.0.1 b.0 b.1 in
    let number = number_takes fields a.0 a.1 in
    let next = turn_takes instance place a.0.0 g.0 in
    let freq = number_takes b.0 c.0 c.1 in
    let sign = polarization_takes c.0.1 d.0 d.1 in
    let end = ended_takes d.0.1 f.0 f.1 in
    let made : Choice = record { freq = c.0.0; pol = d.0.0 } in
    let last : c.0.1 ≡ signed_decimal d.0.0 ∷ [] = sign.0 ∙ ap (λ (t : List (List ℕ)). signed_decimal d.0.0 ∷ t) end in
    let later : a.0.1 ≡ decimal c.0.0 ∷ signed_decimal d.0.0 ∷ [] = g.1 ∙ freq.0 ∙ ap (λ (t : List (List ℕ)). decimal c.0.0 ∷ t) last in
    let text : fields ≡ decimal next.0.number ∷ decimal c.0.0 ∷ signed_decimal d.0.0 ∷ [] = number.0 ∙ ap (λ (t : List (List ℕ)). decimal a.0.0 ∷ t) later ∙ ap (λ (n : ℕ). decimal n ∷ decimal c.0.0 ∷ signed_decimal d.0.0 ∷ []) (sym next.2) in
    subst (IsChoiceOf instance place (codes "AL" ∷ fields)) (ok_is {E = CertCause} made x f.2) (next.0, next.1, ap (λ (t : List (List ℕ)). codes "AL" ∷ t) text, record { freq = freq.1; pol = sign.1 })

choice_again : (instance : Instance) (place : ℕ) (path : Path) (others : List Path) (choice : Choice) → drop place instance.paths ≡ path ∷ others → IsNumber path.number → IsShownChoice choice
    → choice_line instance place (decimal path.number ∷ decimal choice.freq ∷ signed_decimal choice.pol ∷ []) ≡ Ok choice
unfolding choice_line
choice_again instance place path others choice next number shown =
    let turn : is_turn instance place path.number ≡ true = (turn_again instance place path others next).0 in
    rw (number_again path.number (decimal choice.freq ∷ signed_decimal choice.pol ∷ []) number, turn, number_again choice.freq (signed_decimal choice.pol ∷ []) shown.freq, polarization_again choice.pol [] shown.pol) refl

-- what a line of a plan says
abbrev pub IsPlanned : Instance → ℕ → List (List ℕ) → Option Choice → Type 0
IsPlanned instance place fields None = fields ≡ codes "--" ∷ []
IsPlanned instance place fields (Some choice) = IsChoiceOf instance place fields choice

no_kind : {A : Type 0} (x : A) → ◌≡◌ {A = Result A CertCause} (Err BadKind) (Ok x) → ⊥
no_kind x e = cc

pub plan_takes : (instance : Instance) (place : ℕ) (fields : List (List ℕ)) (found : Option Choice) → plan_line instance place fields ≡ Ok found → IsPlanned instance place fields found
unfolding plan_line
plan_takes instance place fields found e =
    let kinds : List ℕ → List (List ℕ) → Result (Option Choice) CertCause = λ word rest. cond (bytes_eq word (codes "AL")) (choice_line instance place rest >>= λ x. Ok (Some x)) (Err BadKind) in
    let a = bind_ok (field_at fields) (λ word. cond (bytes_eq word.0 (codes "--")) (ended word.1 >>= λ end. Ok None) (kinds word.0 word.1)) found e in
    let none : Option Choice = None in
    rw (field_takes fields a.0 a.1) (elim (chosen (bytes_eq a.0.0 (codes "--")) (ended a.0.1 >>= λ end. Ok None) (kinds a.0.0 a.0.1) (Ok found) a.2) [
      | inl h ↦
          let b = bind_ok (ended a.0.1) (λ end. Ok None) found h.1 in
          let taken : IsPlanned instance place (a.0.0 ∷ a.0.1) none = rw (is_word a.0.0 (codes "--") h.0, ended_takes a.0.1 b.0 b.1) refl in
          subst (IsPlanned instance place (a.0.0 ∷ a.0.1)) (ok_is {E = CertCause} none found b.2) taken
      | inr h ↦ elim (chosen (bytes_eq a.0.0 (codes "AL")) (choice_line instance place a.0.1 >>= λ x. Ok (Some x)) (Err BadKind) (Ok found) h.1) [
        | inl g ↦
            let b = bind_ok (choice_line instance place a.0.1) (λ x. Ok (Some x)) found g.1 in
            let some : Option Choice = Some b.0 in
            let taken : IsPlanned instance place (a.0.0 ∷ a.0.1) some = rw (is_word a.0.0 (codes "AL") g.0) (choice_takes instance place a.0.1 b.0 b.1) in
            subst (IsPlanned instance place (a.0.0 ∷ a.0.1)) (ok_is {E = CertCause} some found b.2) taken
        | inr g ↦ absurd (no_kind found g.1)
      ]
    ])

pub plan_again : (instance : Instance) (place : ℕ) (path : Path) (others : List Path) (choice : Choice) → drop place instance.paths ≡ path ∷ others → IsNumber path.number → IsShownChoice choice → plan_line instance place (choice_fields path choice) ≡ Ok (Some choice)
unfolding plan_line
plan_again instance place path others choice next number shown = ap (λ (r : Result Choice CertCause). r >>= λ x. Ok (Some x)) (choice_again instance place path others choice next number shown)

pub plan_ends : (instance : Instance) (place : ℕ) → plan_line instance place (codes "--" ∷ []) ≡ Ok None
unfolding plan_line
plan_ends instance place = refl
