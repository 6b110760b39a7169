-- Fields at the front of a line, both ways: what was read stands there, and what stands there is read.
use Rattle.std.proofs.Common.{◌≡◌, ℕ, ◌+◌, ◌*◌, ◌/◌, ◌%◌, Bool, true, false, List, [], ◌∷◌, ◌++◌, map, decimal, Result, Ok, refl, sym, ap, subst, ◌∙◌, arith}
use Rattle.std.proofs.lemmas.Nat.{div-add-mod'}
use Rattle.fapp_model.specs.declared.tag.Tag.{Tag}
use Rattle.fapp_model.specs.declared.triple.Triple.{Triple}
use Rattle.fapp_model.specs.declared.instance.Instance.{Instance}
use Rattle.fapp_model.specs.declared.limits.TheConstants.{S_SPAN}
use Rattle.fapp_model.specs.Instances.{IsNumber}
use Rattle.fapp_model.specs.InstanceTags.{IsTagFor}
use Rattle.fapp_model.specs.Levels.{levels_of}
use Rattle.fapp_model.proofs.LevelNumbers.{levels-few}
use Rattle.fapp_model.specs.Tags.{code_of, triple_from, is_tag, is_code}
use Rattle.cert_lines.specs.declared.fault.CertCause.{CertCause}
use Rattle.cert_lines.specs.declared.fault.CertCause.TheVariants.{BadTag}
use Rattle.fapp_text.specs.Reading.{◌>>=◌, allowed}
use Rattle.cert_lines.specs.Spelling.{triple_numbers, tag_numbers}
use Rattle.cert_lines.specs.FieldReading.{field_at, ended, number_of, number_at, triple_at, tag_of_code, tag_at}
use Rattle.fapp_text.proofs.ReadingSteps.{bind_ok, allowed_ok, ok_is}
use Rattle.cert_lines.proofs.Codes.{IsSmall, small_tag, triple_from-code_of}
use Rattle.cert_lines.proofs.NumberLaws.{number_of_takes, number_of_again}
use Rattle.cert_lines.proofs.TagReading.{tag_read}

pub field_takes : (fields : List (List ℕ)) (x : List ℕ × List (List ℕ)) → field_at fields ≡ Ok x → fields ≡ x.0 ∷ x.1
field_takes [] x e = absurd cc
field_takes (field ∷ fields) x e = ap (λ (p : List ℕ × List (List ℕ)). p.0 ∷ p.1) (ok_is {E = CertCause} (field, fields) x e)

pub ended_takes : (fields : List (List ℕ)) (x : Unit {0}) → ended fields ≡ Ok x → fields ≡ []
ended_takes [] x e = refl
ended_takes (field ∷ fields) x e = absurd cc

-- numbers, and what is left behind them
abbrev pub Takes : List (List ℕ) → List ℕ → List (List ℕ) → Type 0
Takes fields numbers rest = fields ≡ map decimal numbers ++ rest

pub split_numbers : (xs ys : List ℕ) (rest : List (List ℕ)) → map decimal (xs ++ ys) ++ rest ≡ map decimal xs ++ (map decimal ys ++ rest)
split_numbers [] ys rest = refl
split_numbers (x ∷ xs) ys rest = ap (λ (t : List (List ℕ)). decimal x ∷ t) (split_numbers xs ys rest)

pub takes_both : (a b c : List (List ℕ)) (xs ys : List ℕ) → Takes a xs b → Takes b ys c → Takes a (xs ++ ys) c
takes_both a b c xs ys p q = p ∙ ap (λ (t : List (List ℕ)). map decimal xs ++ t) q ∙ sym (split_numbers xs ys c)

pub number_takes : (fields : List (List ℕ)) (x : ℕ × List (List ℕ)) → number_at fields ≡ Ok x → Takes fields (x.0 ∷ []) x.1 × IsNumber x.0
unfolding number_at
number_takes fields x e =
    let a = bind_ok (field_at fields) (λ field. number_of field.0 >>= λ n. Ok (n, field.1)) x e in
    let b = bind_ok (number_of a.0.0) (λ n. Ok (n, a.0.1)) x a.2 in
    let n = number_of_takes a.0.0 b.0 b.1 in
    let made : ℕ × List (List ℕ) = (b.0, a.0.1) in
    subst (λ (y : ℕ × List (List ℕ)). Takes fields (y.0 ∷ []) y.1 × IsNumber y.0) (ok_is {E = CertCause} made x b.2) (field_takes fields a.0 a.1 ∙ ap (λ (t : List ℕ). t ∷ a.0.1) n.0, n.1)

pub number_again : (n : ℕ) (rest : List (List ℕ)) → IsNumber n → number_at (decimal n ∷ rest) ≡ Ok (n, rest)
unfolding number_at
number_again n rest h = ap (λ (r : Result ℕ CertCause). r >>= λ m. Ok (m, rest)) (number_of_again n h)

pub triple_takes : (fields : List (List ℕ)) (x : Triple × List (List ℕ)) → triple_at fields ≡ Ok x → Takes fields (triple_numbers x.0) x.1
unfolding triple_at
triple_takes fields x e =
    let a = bind_ok (number_at fields) (λ k. number_at k.1 >>= λ v. number_at v.1 >>= λ s. Ok (record { k = k.0; v = v.0; s = s.0 }, s.1)) x e in
    let b = bind_ok (number_at a.0.1) (λ v. number_at v.1 >>= λ s. Ok (record { k = a.0.0; v = v.0; s = s.0 }, s.1)) x a.2 in
    let c = bind_ok (number_at b.0.1) (λ s. Ok (record { k = a.0.0; v = b.0.0; s = s.0 }, s.1)) x b.2 in
    let first = number_takes fields a.0 a.1 in
    let second = number_takes a.0.1 b.0 b.1 in
    let third = number_takes b.0.1 c.0 c.1 in
    let made : Triple × List (List ℕ) = (record { k = a.0.0; v = b.0.0; s = c.0.0 }, c.0.1) in
    let later = takes_both a.0.1 b.0.1 c.0.1 (b.0.0 ∷ []) (c.0.0 ∷ []) second.0 third.0 in
    subst (λ (y : Triple × List (List ℕ)). Takes fields (triple_numbers y.0) y.1) (ok_is {E = CertCause} made x c.2) (takes_both fields a.0.1 c.0.1 (a.0.0 ∷ []) (b.0.0 ∷ c.0.0 ∷ []) first.0 later)

pub triple_again : (t : Triple) (rest : List (List ℕ)) → IsSmall t → triple_at (map decimal (triple_numbers t) ++ rest) ≡ Ok (t, rest)
unfolding triple_at
triple_again t rest small =
    let k : IsNumber t.k = omega (arith, small.k) in
    let v : IsNumber t.v = omega (arith, small.v) in
    let s : IsNumber t.s = omega (arith, small.s) in
    rw (number_again t.k (decimal t.v ∷ decimal t.s ∷ rest) k, number_again t.v (decimal t.s ∷ rest) v, number_again t.s rest s) refl

tag_of_code_takes : (code : ℕ) (test : Bool) (h : is_code code ≡ test) (tag : Tag) → tag_of_code code test h ≡ Ok tag → tag.code ≡ code
tag_of_code_takes code true h tag e = sym (ap (λ (t : Tag). t.code) (ok_is {E = CertCause} (record { code = code; of_tag = h }) tag e))
tag_of_code_takes code false h tag e = absurd cc

pub tag_takes : (instance : Instance) (fields : List (List ℕ)) (x : Tag × List (List ℕ)) → tag_at instance fields ≡ Ok x → Takes fields (tag_numbers x.0) x.1 × IsTagFor instance x.0
unfolding tag_at
tag_takes instance fields x e =
    let levels = levels_of instance in
    let a = bind_ok (triple_at fields) (λ found. allowed (is_tag levels found.0) BadTag found.0 >>= λ t. tag_of_code (code_of t) (is_code (code_of t)) refl >>= λ tag. Ok (tag, found.1)) x e in
    let b = bind_ok (allowed (is_tag levels a.0.0) BadTag a.0.0) (λ t. tag_of_code (code_of t) (is_code (code_of t)) refl >>= λ tag. Ok (tag, a.0.1)) x a.2 in
    let t = b.0 in
    let c = bind_ok (tag_of_code (code_of t) (is_code (code_of t)) refl) (λ tag. Ok (tag, a.0.1)) x b.2 in
    let g = allowed_ok (is_tag levels a.0.0) BadTag a.0.0 t b.1 in
    let code : c.0.code ≡ code_of t = tag_of_code_takes (code_of t) (is_code (code_of t)) refl c.0 c.1 in
    let small = small_tag levels a.0.0 (levels-few instance).1 g.0 in
    let back : triple_from c.0.code ≡ a.0.0 = ap triple_from (code ∙ ap code_of (sym g.1)) ∙ triple_from-code_of a.0.0 small in
    let made : Tag × List (List ℕ) = (c.0, a.0.1) in
    let text = triple_takes fields a.0 a.1 ∙ ap (λ (u : Triple). map decimal (triple_numbers u) ++ a.0.1) (sym back) in
    let own : IsTagFor instance c.0 = ap (is_tag levels) back ∙ g.0 in
    subst (λ (y : Tag × List (List ℕ)). Takes fields (tag_numbers y.0) y.1 × IsTagFor instance y.0) (ok_is {E = CertCause} made x c.2) (text, own)

code_again : (code : ℕ) → code_of (triple_from code) ≡ code
code_again code =
    let w : ℕ = S_SPAN in
    ap (λ (n : ℕ). n * w + code % w) (div-add-mod' (code / w) w) ∙ div-add-mod' code w

pub tag_again : (instance : Instance) (tag : Tag) (rest : List (List ℕ)) → IsTagFor instance tag → tag_at instance (map decimal (tag_numbers tag) ++ rest) ≡ Ok (tag, rest)
tag_again instance tag rest own =
    let t = triple_from tag.code in
    tag_read instance (map decimal (tag_numbers tag) ++ rest) rest t tag (triple_again t rest (small_tag (levels_of instance) t (levels-few instance).1 own)) own (sym (code_again tag.code))
