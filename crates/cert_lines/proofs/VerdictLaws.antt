-- Verdicts, both ways.
use Rattle.std.proofs.Common.{◌≡◌, ℕ, ◌+◌, ◌≤◌, Bool, true, cond, ◌&&◌, ◌||◌, eqb, leb, List, [], ◌∷◌, ◌++◌, map, decimal, codes, Result, Ok, Err, refl, sym, ap, subst, ◌∙◌, inl, inr, arith}
use Rattle.std.proofs.lemmas.Bool.{and_parts, leb-true, le-leb}
use Rattle.std.specs.Str.{bytes_eq}
use Rattle.std.proofs.lemmas.List.{append-nil}
use Rattle.fapp_model.specs.declared.instance.Instance.{Instance}
use Rattle.fapp_model.specs.declared.triple.Triple.{Triple}
use Rattle.fapp_model.specs.Instances.{IsInstance}
use Rattle.fapp_model.specs.Levels.{levels_of}
use Rattle.fapp_model.specs.Tags.{is_tag, has_limit}
use Rattle.fapp_model.proofs.LevelNumbers.{levels-few}
use Rattle.cert_lines.specs.declared.answer.Verdict.{Verdict}
use Rattle.cert_lines.specs.declared.answer.Verdict.TheVariants.{Best, NoneFeasible, Open}
use Rattle.cert_lines.specs.declared.fault.CertCause.{CertCause}
use Rattle.cert_lines.specs.declared.fault.CertCause.TheVariants.{BadKind, BadNumber, BadTag}
use Rattle.fapp_text.specs.Reading.{◌>>=◌, allowed}
use Rattle.cert_lines.specs.Spelling.{triple_numbers, tag_numbers, list_numbers, verdict_fields}
use Rattle.cert_lines.specs.WellFormed.{IsVerdict, is_cost, is_shown}
use Rattle.cert_lines.specs.FieldReading.{field_at, ended, number_at, triple_at, tag_at}
use Rattle.cert_lines.specs.ListReading.{literal_at, list_at}
use Rattle.cert_lines.specs.VerdictReading.{word_at, judged, best_line, level_at, open_line, verdict_line}
use Rattle.fapp_text.proofs.ReadingSteps.{bind_ok, allowed_ok, chosen, ok_is}
use Rattle.cert_lines.proofs.Codes.{IsSmall, small_tag}
use Rattle.cert_lines.proofs.FieldLaws.{Takes, field_takes, ended_takes, number_takes, number_again, triple_takes, triple_again, tag_takes, tag_again}
use Rattle.cert_lines.proofs.LineLaws.{literals_take, literals_again}
use Rattle.fapp_text.proofs.SignLemmas.{is_word}

no_kind : {A : Type 0} (x : A) → ◌≡◌ {A = Result A CertCause} (Err BadKind) (Ok x) → ⊥
no_kind x e = cc

word_at_takes : (word : List ℕ) (fields rest : List (List ℕ)) → word_at word fields ≡ Ok rest → fields ≡ word ∷ rest
unfolding word_at
word_at_takes word fields rest e =
    let a = bind_ok (field_at fields) (λ field. allowed (bytes_eq field.0 word) BadKind field.1) rest e in
    let g = allowed_ok (bytes_eq a.0.0 word) BadKind a.0.1 rest a.2 in
    field_takes fields a.0 a.1 ∙ ap (λ (w : List ℕ). w ∷ a.0.1) (is_word a.0.0 word g.0) ∙ ap (λ (t : List (List ℕ)). word ∷ t) g.1

judged_takes : (test : Triple → Bool) (fields : List (List ℕ)) (x : Triple × List (List ℕ)) → judged test fields ≡ Ok x → Takes fields (triple_numbers x.0) x.1 × (test x.0 ≡ true)
unfolding judged
judged_takes test fields x e =
    let a = bind_ok (triple_at fields) (λ t. allowed (test t.0) BadTag t) x e in
    let g = allowed_ok (test a.0.0) BadTag a.0 x a.2 in
    subst (λ (y : Triple × List (List ℕ)). Takes fields (triple_numbers y.0) y.1 × (test y.0 ≡ true)) g.1 (triple_takes fields a.0 a.1, g.0)

judged_again : (test : Triple → Bool) (t : Triple) (rest : List (List ℕ)) → IsSmall t → test t ≡ true → judged test (map decimal (triple_numbers t) ++ rest) ≡ Ok (t, rest)
unfolding judged
judged_again test t rest small h =
    let found : Triple × List (List ℕ) = (t, rest) in
    ap (λ (r : Result (Triple × List (List ℕ)) CertCause). r >>= λ x. allowed (test x.0) BadTag x) (triple_again t rest small)
    ∙ ap (λ (b : Bool). allowed b BadTag found) h

level_takes : (instance : Instance) (fields : List (List ℕ)) (x : ℕ × List (List ℕ)) → level_at instance fields ≡ Ok x → Takes fields (x.0 ∷ []) x.1 × (x.0 ≤ levels_of instance)
unfolding level_at
level_takes instance fields x e =
    let levels = levels_of instance in
    let a = bind_ok (number_at fields) (λ level. allowed (leb level.0 levels) BadNumber level) x e in
    let g = allowed_ok (leb a.0.0 levels) BadNumber a.0 x a.2 in
    subst (λ (y : ℕ × List (List ℕ)). Takes fields (y.0 ∷ []) y.1 × (y.0 ≤ levels)) g.1 ((number_takes fields a.0 a.1).0, leb-true a.0.0 levels g.0)

level_again : (instance : Instance) (level : ℕ) (rest : List (List ℕ)) → level ≤ levels_of instance → level_at instance (decimal level ∷ rest) ≡ Ok (level, rest)
unfolding level_at
level_again instance level rest le =
    let levels = levels_of instance in
    let found : ℕ × List (List ℕ) = (level, rest) in
    ap (λ (r : Result (ℕ × List (List ℕ)) CertCause). r >>= λ x. allowed (leb x.0 levels) BadNumber x) (number_again level rest (omega (arith, (levels-few instance).1)))
    ∙ ap (λ (b : Bool). allowed b BadNumber found) (le-leb level levels le)

-- fields that are a verdict's
abbrev pub IsVerdictOf : Instance → List (List ℕ) → Verdict → Type 0
IsVerdictOf instance fields verdict = (fields ≡ verdict_fields verdict) × IsVerdict instance verdict

best_takes : (instance : Instance) (fields : List (List ℕ)) (verdict : Verdict) → best_line instance fields ≡ Ok verdict → IsVerdictOf instance (codes "BEST" ∷ fields) verdict
unfolding best_line
best_takes instance fields verdict e =
    let a = bind_ok (judged (is_cost (levels_of instance)) fields) (λ t. ended t.1 >>= λ end. Ok (Best t.0)) verdict e in
    let b = bind_ok (ended a.0.1) (λ end. Ok (Best a.0.0)) verdict a.2 in
    let t = judged_takes (is_cost (levels_of instance)) fields a.0 a.1 in
    let end = ended_takes a.0.1 b.0 b.1 in
    subst (IsVerdictOf instance (codes "BEST" ∷ fields)) (ok_is {E = CertCause} (Best a.0.0) verdict b.2) (ap (λ (f : List (List ℕ)). codes "BEST" ∷ f) (t.0 ∙ ap (λ (f : List (List ℕ)). map decimal (triple_numbers a.0.0) ++ f) end), t.1)

open_takes : (instance : Instance) → IsInstance instance → (fields : List (List ℕ)) (verdict : Verdict) → open_line instance fields ≡ Ok verdict → IsVerdictOf instance (codes "OPEN" ∷ fields) verdict
unfolding open_line
open_takes instance valid fields verdict e =
    let a = bind_ok (judged (is_shown (levels_of instance)) fields) (λ best. word_at (codes "LOWER") best.1 >>= λ bound. tag_at instance bound >>= λ lower. word_at (codes "AT") lower.1 >>= λ job. level_at instance job >>= λ level. list_at (literal_at instance) level.1 >>= λ prefix. ended prefix.1 >>= λ end. Ok (Open best.0 lower.0 level.0 prefix.0)) verdict e in
    let b = bind_ok (word_at (codes "LOWER") a.0.1) (λ bound. tag_at instance bound >>= λ lower. word_at (codes "AT") lower.1 >>= λ job. level_at instance job >>= λ level. list_at (literal_at instance) level.1 >>= λ prefix. ended prefix.1 >>= λ end. Ok (Open a.0.0 lower.0 level.0 prefix.0)) verdict a.2 in
    let c = bind_ok (tag_at instance b.0) (λ lower. word_at (codes "AT") lower.1 >>= λ job. level_at instance job >>= λ level. list_at (literal_at instance) level.1 >>= λ prefix. ended prefix.1 >>= λ end. Ok (Open a.0.0 lower.0 level.0 prefix.0)) verdict b.2 in
    let d = bind_ok (word_at (codes "AT") c.0.1) (λ job. level_at instance job >>= λ level. list_at (literal_at instance) level.1 >>= λ prefix. ended prefix.1 >>= λ end. Ok (Open a.0.0 c.0.0 level.0 prefix.0)) verdict c.2 in
    let f = bind_ok (level_at instance d.0) (λ level. list_at (literal_at instance) level.1 >>= λ prefix. ended prefix.1 >>= λ end. Ok (Open a.0.0 c.0.0 level.0 prefix.0)) verdict d.2 in
    let g = bind_ok (list_at (literal_at instance) f.0.1) (λ prefix. ended prefix.1 >>= λ end. Ok (Open a.0.0 c.0.0 f.0.0 prefix.0)) verdict f.2 in
    let h = bind_ok (ended g.0.1) (λ end. Ok (Open a.0.0 c.0.0 f.0.0 g.0.0)) verdict g.2 in
    let best = judged_takes (is_shown (levels_of instance)) fields a.0 a.1 in
    let bound = word_at_takes (codes "LOWER") a.0.1 b.0 b.1 in
    let lower = tag_takes instance b.0 c.0 c.1 in
    let job = word_at_takes (codes "AT") c.0.1 d.0 d.1 in
    let level = level_takes instance d.0 f.0 f.1 in
    let prefix = literals_take instance valid f.0.1 g.0 g.1 in
    let end = ended_takes g.0.1 h.0 h.1 in
    let last : d.0 ≡ map decimal (f.0.0 ∷ list_numbers g.0.0) = level.0 ∙ ap (λ (t : List (List ℕ)). decimal f.0.0 ∷ t) (prefix.0 ∙ ap (λ (t : List (List ℕ)). map decimal (list_numbers g.0.0) ++ t) end ∙ append-nil (map decimal (list_numbers g.0.0))) in
    let middle : b.0 ≡ map decimal (tag_numbers c.0.0) ++ codes "AT" ∷ map decimal (f.0.0 ∷ list_numbers g.0.0) = lower.0 ∙ ap (λ (t : List (List ℕ)). map decimal (tag_numbers c.0.0) ++ t) (job ∙ ap (λ (t : List (List ℕ)). codes "AT" ∷ t) last) in
    let text : fields ≡ map decimal (triple_numbers a.0.0) ++ codes "LOWER" ∷ (map decimal (tag_numbers c.0.0) ++ codes "AT" ∷ map decimal (f.0.0 ∷ list_numbers g.0.0)) = best.0 ∙ ap (λ (t : List (List ℕ)). map decimal (triple_numbers a.0.0) ++ t) (bound ∙ ap (λ (t : List (List ℕ)). codes "LOWER" ∷ t) middle) in
    subst (IsVerdictOf instance (codes "OPEN" ∷ fields)) (ok_is {E = CertCause} (Open a.0.0 c.0.0 f.0.0 g.0.0) verdict h.2) (ap (λ (t : List (List ℕ)). codes "OPEN" ∷ t) text, (best.1, lower.1, level.1, prefix.1))

open_kind : (instance : Instance) → IsInstance instance → (word : List ℕ) (rest : List (List ℕ)) (verdict : Verdict) → cond (bytes_eq word (codes "OPEN")) (open_line instance rest) (Err BadKind) ≡ Ok verdict → IsVerdictOf instance (word ∷ rest) verdict
open_kind instance valid word rest verdict e =
    elim (chosen (bytes_eq word (codes "OPEN")) (open_line instance rest) (Err BadKind) (Ok verdict) e) [
      | inl h ↦ rw (is_word word (codes "OPEN") h.0) (open_takes instance valid rest verdict h.1)
      | inr h ↦ absurd (no_kind verdict h.1)
    ]

none_kind : (instance : Instance) → IsInstance instance → (word : List ℕ) (rest : List (List ℕ)) (verdict : Verdict)
    → cond (bytes_eq word (codes "NONE")) (ended rest >>= λ end. Ok NoneFeasible) (cond (bytes_eq word (codes "OPEN")) (open_line instance rest) (Err BadKind)) ≡ Ok verdict → IsVerdictOf instance (word ∷ rest) verdict
none_kind instance valid word rest verdict e =
    elim (chosen (bytes_eq word (codes "NONE")) (ended rest >>= λ end. Ok NoneFeasible) (cond (bytes_eq word (codes "OPEN")) (open_line instance rest) (Err BadKind)) (Ok verdict) e) [
      | inl h ↦
          let b = bind_ok (ended rest) (λ end. Ok NoneFeasible) verdict h.1 in
          let taken : IsVerdictOf instance (word ∷ rest) NoneFeasible = (rw (is_word word (codes "NONE") h.0, ended_takes rest b.0 b.1) refl, tt) in
          subst (IsVerdictOf instance (word ∷ rest)) (ok_is {E = CertCause} NoneFeasible verdict b.2) taken
      | inr h ↦ open_kind instance valid word rest verdict h.1
    ]

pub verdict_takes : (instance : Instance) → IsInstance instance → (fields : List (List ℕ)) (verdict : Verdict) → verdict_line instance fields ≡ Ok verdict → IsVerdictOf instance fields verdict
unfolding verdict_line
verdict_takes instance valid fields verdict e =
    let kinds : List ℕ → List (List ℕ) → Result Verdict CertCause = λ word rest. cond (bytes_eq word (codes "NONE")) (ended rest >>= λ end. Ok NoneFeasible) (cond (bytes_eq word (codes "OPEN")) (open_line instance rest) (Err BadKind)) in
    let a = bind_ok (field_at fields) (λ word. cond (bytes_eq word.0 (codes "BEST")) (best_line instance word.1) (kinds word.0 word.1)) verdict e in
    rw (field_takes fields a.0 a.1) (elim (chosen (bytes_eq a.0.0 (codes "BEST")) (best_line instance a.0.1) (kinds a.0.0 a.0.1) (Ok verdict) a.2) [
      | inl h ↦ rw (is_word a.0.0 (codes "BEST") h.0) (best_takes instance a.0.1 verdict h.1)
      | inr h ↦ none_kind instance valid a.0.0 a.0.1 verdict h.1
    ])

cost_small : (instance : Instance) (t : Triple) (b : Bool) → (is_tag (levels_of instance) t && b) ≡ true → IsSmall t
cost_small instance t b h = small_tag (levels_of instance) t (levels-few instance).1 (and_parts (is_tag (levels_of instance) t) b h).0

pub verdict_again : (instance : Instance) → IsInstance instance → (verdict : Verdict) → IsVerdict instance verdict → verdict_line instance (verdict_fields verdict) ≡ Ok verdict
unfolding verdict_line best_line open_line word_at
verdict_again instance valid (Best t) h =
    ap (λ (r : Result (Triple × List (List ℕ)) CertCause). r >>= λ x. ended x.1 >>= λ end. Ok (Best x.0)) (judged_again (is_cost (levels_of instance)) t [] (cost_small instance t (has_limit t || eqb t.k 0) h) h)
verdict_again instance valid NoneFeasible h = refl
verdict_again instance valid (Open best lower level prefix) h =
    let last : List (List ℕ) = map decimal (list_numbers prefix) in
    let behind : List (List ℕ) = codes "AT" ∷ decimal level ∷ last in
    let small = cost_small instance best (has_limit best || (eqb best.k 0 || eqb best.k (levels_of instance + 1))) h.0 in
    let lits : list_at (literal_at instance) last ≡ Ok (prefix, []) = ap (list_at (literal_at instance)) (sym (append-nil last)) ∙ literals_again instance valid prefix [] h.3 in
    rw (judged_again (is_shown (levels_of instance)) best (codes "LOWER" ∷ (map decimal (tag_numbers lower) ++ behind)) small h.0, tag_again instance lower behind h.1, level_again instance level last h.2, lits) refl
