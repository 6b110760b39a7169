-- Literals, cites and children, both ways.
use Rattle.std.proofs.Common.{◌≡◌, ℕ, ◌+◌, ◌*◌, ◌<◌, ◌≤◌, Bool, ltb, leb, List, [], ◌∷◌, ◌++◌, length, map, decimal, Result, Ok, refl, ap, subst, ◌∙◌, inl, inr, arith}
use Rattle.std.proofs.lemmas.Bool.{ltb-true, leb-true, lt-ltb, le-leb}
use Rattle.fapp_model.specs.declared.instance.Instance.{Instance}
use Rattle.fapp_model.specs.declared.instance.Path.{Path}
use Rattle.fapp_model.specs.declared.literal.Literal.{Literal}
use Rattle.fapp_model.specs.declared.limits.TheConstants.{MAX_DOMAIN_FREQUENCIES}
use Rattle.fapp_model.specs.search.Partials.{IsLiteral}
use Rattle.fapp_model.specs.Assignments.{count_at, path_at, no_path}
use Rattle.fapp_model.specs.Choices.{choices}
use Rattle.fapp_model.specs.Instances.{IsNumber, IsPolarization, IsPath, IsInstance}
use Rattle.fapp_model.proofs.ChoiceLemmas.{free_count, fixed_count}
use Rattle.cert_lines.specs.declared.answer.Child.{Child}
use Rattle.cert_lines.specs.declared.fault.CertCause.{CertCause}
use Rattle.cert_lines.specs.declared.fault.CertCause.TheVariants.{BadOrder, UnknownPath, UnknownChoice}
use Rattle.fapp_text.specs.Reading.{◌>>=◌, allowed}
use Rattle.cert_lines.specs.Spelling.{literal_numbers, child_numbers}
use Rattle.cert_lines.specs.WellFormed.{IsChild}
use Rattle.cert_lines.specs.FieldReading.{number_at}
use Rattle.cert_lines.specs.ListReading.{State, position_at, index_at, literal_at, cite_at, child_at}
use Rattle.fapp_text.proofs.ReadingSteps.{bind_ok, allowed_ok, ok_is}
use Rattle.cert_lines.proofs.FieldLaws.{Takes, takes_both, number_takes, number_again}
use Rattle.cert_lines.proofs.StepLaws.{IsStep}

few_of : (path : Path) → IsPolarization path.pol → length path.freqs ≤ MAX_DOMAIN_FREQUENCIES → length (choices path) ≤ 2 * MAX_DOMAIN_FREQUENCIES
few_of path (inl e) h = omega (arith, fixed_count path (inl e))
few_of path (inr (inl e)) h = omega (arith, free_count path e)
few_of path (inr (inr e)) h = omega (arith, fixed_count path (inr e))

-- a path has few choices
pub few_choices : (instance : Instance) → IsInstance instance → (path : ℕ) → path < length instance.paths → count_at instance path ≤ 2 * MAX_DOMAIN_FREQUENCIES
few_choices instance valid path lt =
    let h : IsPath (path_at instance path) = valid.paths path no_path lt in
    few_of (path_at instance path) h.polarization h.few

pub position_takes : (instance : Instance) (fields : List (List ℕ)) (x : ℕ × List (List ℕ)) → position_at instance fields ≡ Ok x → Takes fields (x.0 ∷ []) x.1 × (x.0 < length instance.paths)
unfolding position_at
position_takes instance fields x e =
    let a = bind_ok (number_at fields) (λ path. allowed (ltb path.0 (length instance.paths)) UnknownPath path) x e in
    let g = allowed_ok (ltb a.0.0 (length instance.paths)) UnknownPath a.0 x a.2 in
    subst (λ (y : ℕ × List (List ℕ)). Takes fields (y.0 ∷ []) y.1 × (y.0 < length instance.paths)) g.1 ((number_takes fields a.0 a.1).0, ltb-true a.0.0 (length instance.paths) g.0)

pub position_again : (instance : Instance) → IsInstance instance → (path : ℕ) (rest : List (List ℕ)) → path < length instance.paths → position_at instance (decimal path ∷ rest) ≡ Ok (path, rest)
unfolding position_at
position_again instance valid path rest lt =
    let found : ℕ × List (List ℕ) = (path, rest) in
    ap (λ (r : Result (ℕ × List (List ℕ)) CertCause). r >>= λ p. allowed (ltb p.0 (length instance.paths)) UnknownPath p) (number_again path rest (omega (arith, valid.few_paths)))
    ∙ ap (λ (b : Bool). allowed b UnknownPath found) (lt-ltb path (length instance.paths) lt)

index_takes : (instance : Instance) (path : ℕ) (fields : List (List ℕ)) (x : ℕ × List (List ℕ)) → index_at instance path fields ≡ Ok x → Takes fields (x.0 ∷ []) x.1 × (x.0 < count_at instance path)
unfolding index_at
index_takes instance path fields x e =
    let a = bind_ok (number_at fields) (λ choice. allowed (ltb choice.0 (count_at instance path)) UnknownChoice choice) x e in
    let g = allowed_ok (ltb a.0.0 (count_at instance path)) UnknownChoice a.0 x a.2 in
    subst (λ (y : ℕ × List (List ℕ)). Takes fields (y.0 ∷ []) y.1 × (y.0 < count_at instance path)) g.1 ((number_takes fields a.0 a.1).0, ltb-true a.0.0 (count_at instance path) g.0)

index_again : (instance : Instance) → IsInstance instance → (path choice : ℕ) (rest : List (List ℕ)) → path < length instance.paths → choice < count_at instance path → index_at instance path (decimal choice ∷ rest) ≡ Ok (choice, rest)
unfolding index_at
index_again instance valid path choice rest in_paths lt =
    let found : ℕ × List (List ℕ) = (choice, rest) in
    ap (λ (r : Result (ℕ × List (List ℕ)) CertCause). r >>= λ p. allowed (ltb p.0 (count_at instance path)) UnknownChoice p) (number_again choice rest (omega (arith, few_choices instance valid path in_paths)))
    ∙ ap (λ (b : Bool). allowed b UnknownChoice found) (lt-ltb choice (count_at instance path) lt)

abbrev pub path_of : Literal → ℕ
path_of literal = literal.path

literal_takes : (instance : Instance) (s : State) (x : Literal × State) → literal_at instance s ≡ Ok x → Takes s.1 (literal_numbers x.0) x.1.1 × IsLiteral instance x.0 × (s.0 ≤ path_of x.0) × (x.1.0 ≡ path_of x.0 + 1)
unfolding literal_at
literal_takes instance s x e =
    let a = bind_ok (position_at instance s.1) (λ found. allowed (leb s.0 found.0) BadOrder found >>= λ path. index_at instance path.0 path.1 >>= λ choice. Ok (record { path = path.0; choice = choice.0 }, (path.0 + 1, choice.1))) x e in
    let b = bind_ok (allowed (leb s.0 a.0.0) BadOrder a.0) (λ path. index_at instance path.0 path.1 >>= λ choice. Ok (record { path = path.0; choice = choice.0 }, (path.0 + 1, choice.1))) x a.2 in
    let c = bind_ok (index_at instance b.0.0 b.0.1) (λ choice. Ok (record { path = b.0.0; choice = choice.0 }, (b.0.0 + 1, choice.1))) x b.2 in
    let g = allowed_ok (leb s.0 a.0.0) BadOrder a.0 b.0 b.1 in
    let found = position_takes instance s.1 a.0 a.1 in
    let first : Takes s.1 (b.0.0 ∷ []) b.0.1 × (b.0.0 < length instance.paths) × (s.0 ≤ b.0.0) = subst (λ (y : ℕ × List (List ℕ)). Takes s.1 (y.0 ∷ []) y.1 × (y.0 < length instance.paths) × (s.0 ≤ y.0)) g.1 (found.0, found.1, leb-true s.0 a.0.0 g.0) in
    let second = index_takes instance b.0.0 b.0.1 c.0 c.1 in
    let made : Literal × State = (record { path = b.0.0; choice = c.0.0 }, (b.0.0 + 1, c.0.1)) in
    subst (λ (y : Literal × State). Takes s.1 (literal_numbers y.0) y.1.1 × IsLiteral instance y.0 × (s.0 ≤ path_of y.0) × (y.1.0 ≡ path_of y.0 + 1)) (ok_is {E = CertCause} made x c.2) (takes_both s.1 b.0.1 c.0.1 (b.0.0 ∷ []) (c.0.0 ∷ []) first.0 second.0, record { path = first.1; choice = second.1 }, first.2, refl)

literal_again : (instance : Instance) → IsInstance instance → (low : ℕ) (x : Literal) (rest : List (List ℕ)) → low ≤ path_of x → IsLiteral instance x → literal_at instance (low, map decimal (literal_numbers x) ++ rest) ≡ Ok (x, (path_of x + 1, rest))
unfolding literal_at
literal_again instance valid low x rest le h =
    rw (position_again instance valid x.path (decimal x.choice ∷ rest) h.path, le-leb low x.path le, index_again instance valid x.path x.choice rest h.path h.choice) refl

pub literal_step : (instance : Instance) → IsInstance instance → IsStep literal_numbers path_of (IsLiteral instance) (literal_at instance)
literal_step instance valid = record { takes = literal_takes instance; again = literal_again instance valid }

abbrev pub one_number : ℕ → List ℕ
one_number n = n ∷ []

abbrev pub itself : ℕ → ℕ
itself n = n

cite_takes : (s : State) (x : ℕ × State) → cite_at s ≡ Ok x → Takes s.1 (one_number x.0) x.1.1 × IsNumber x.0 × (s.0 ≤ itself x.0) × (x.1.0 ≡ itself x.0 + 1)
unfolding cite_at
cite_takes s x e =
    let a = bind_ok (number_at s.1) (λ found. allowed (leb s.0 found.0) BadOrder found >>= λ cite. Ok (cite.0, (cite.0 + 1, cite.1))) x e in
    let b = bind_ok (allowed (leb s.0 a.0.0) BadOrder a.0) (λ cite. Ok (cite.0, (cite.0 + 1, cite.1))) x a.2 in
    let g = allowed_ok (leb s.0 a.0.0) BadOrder a.0 b.0 b.1 in
    let found = number_takes s.1 a.0 a.1 in
    let first : Takes s.1 (b.0.0 ∷ []) b.0.1 × IsNumber b.0.0 × (s.0 ≤ b.0.0) = subst (λ (y : ℕ × List (List ℕ)). Takes s.1 (y.0 ∷ []) y.1 × IsNumber y.0 × (s.0 ≤ y.0)) g.1 (found.0, found.1, leb-true s.0 a.0.0 g.0) in
    let made : ℕ × State = (b.0.0, (b.0.0 + 1, b.0.1)) in
    subst (λ (y : ℕ × State). Takes s.1 (one_number y.0) y.1.1 × IsNumber y.0 × (s.0 ≤ itself y.0) × (y.1.0 ≡ itself y.0 + 1)) (ok_is {E = CertCause} made x b.2) (first.0, first.1, first.2, refl)

cite_again : (low : ℕ) (x : ℕ) (rest : List (List ℕ)) → low ≤ itself x → IsNumber x → cite_at (low, map decimal (one_number x) ++ rest) ≡ Ok (x, (itself x + 1, rest))
unfolding cite_at
cite_again low x rest le h = rw (number_again x rest h, le-leb low x le) refl

pub cite_step : IsStep one_number itself IsNumber cite_at
cite_step = record { takes = cite_takes; again = cite_again }

abbrev pub choice_of : Child → ℕ
choice_of child = child.choice

child_takes : (instance : Instance) (path : ℕ) (s : State) (x : Child × State) → child_at instance path s ≡ Ok x → Takes s.1 (child_numbers x.0) x.1.1 × IsChild instance path x.0 × (s.0 ≤ choice_of x.0) × (x.1.0 ≡ choice_of x.0 + 1)
unfolding child_at
child_takes instance path s x e =
    let a = bind_ok (index_at instance path s.1) (λ found. allowed (leb s.0 found.0) BadOrder found >>= λ choice. number_at choice.1 >>= λ cite. Ok (record { choice = choice.0; cite = cite.0 }, (choice.0 + 1, cite.1))) x e in
    let b = bind_ok (allowed (leb s.0 a.0.0) BadOrder a.0) (λ choice. number_at choice.1 >>= λ cite. Ok (record { choice = choice.0; cite = cite.0 }, (choice.0 + 1, cite.1))) x a.2 in
    let c = bind_ok (number_at b.0.1) (λ cite. Ok (record { choice = b.0.0; cite = cite.0 }, (b.0.0 + 1, cite.1))) x b.2 in
    let g = allowed_ok (leb s.0 a.0.0) BadOrder a.0 b.0 b.1 in
    let found = index_takes instance path s.1 a.0 a.1 in
    let first : Takes s.1 (b.0.0 ∷ []) b.0.1 × (b.0.0 < count_at instance path) × (s.0 ≤ b.0.0) = subst (λ (y : ℕ × List (List ℕ)). Takes s.1 (y.0 ∷ []) y.1 × (y.0 < count_at instance path) × (s.0 ≤ y.0)) g.1 (found.0, found.1, leb-true s.0 a.0.0 g.0) in
    let second = number_takes b.0.1 c.0 c.1 in
    let made : Child × State = (record { choice = b.0.0; cite = c.0.0 }, (b.0.0 + 1, c.0.1)) in
    subst (λ (y : Child × State). Takes s.1 (child_numbers y.0) y.1.1 × IsChild instance path y.0 × (s.0 ≤ choice_of y.0) × (y.1.0 ≡ choice_of y.0 + 1)) (ok_is {E = CertCause} made x c.2) (takes_both s.1 b.0.1 c.0.1 (b.0.0 ∷ []) (c.0.0 ∷ []) first.0 second.0, record { choice = first.1; cite = second.1 }, first.2, refl)

child_again : (instance : Instance) → IsInstance instance → (path : ℕ) → path < length instance.paths → (low : ℕ) (x : Child) (rest : List (List ℕ)) → low ≤ choice_of x → IsChild instance path x → child_at instance path (low, map decimal (child_numbers x) ++ rest) ≡ Ok (x, (choice_of x + 1, rest))
unfolding child_at
child_again instance valid path in_paths low x rest le h =
    rw (index_again instance valid path x.choice (decimal x.cite ∷ rest) in_paths h.choice, le-leb low x.choice le, number_again x.cite rest h.cite) refl

pub child_step : (instance : Instance) → IsInstance instance → (path : ℕ) → path < length instance.paths → IsStep child_numbers choice_of (IsChild instance path) (child_at instance path)
child_step instance valid path in_paths = record { takes = child_takes instance path; again = child_again instance valid path in_paths }
