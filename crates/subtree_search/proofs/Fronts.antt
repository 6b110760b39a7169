-- A literal and those before it.
use Rattle.std.proofs.Common.{◌≡◌, ◌≢◌, ℕ, ◌<◌, false, eqb, List, length, take, get_or, AllPairs, sym, ap, ◌∙◌, ⊎_elim, arith}
use Rattle.std.proofs.lemmas.Bool.{cases_Bool, eqb-true}
use Rattle.std.proofs.lemmas.List.{get_or_default, get_or-take, length-take-le}
use Rattle.fapp_model.specs.declared.literal.Literal.{Literal}
use Rattle.fapp_model.specs.search.Partials.{names}
use Rattle.fapp_model.proofs.Anys.{no-member}

pub front-apart : (lits : List Literal) (i : ℕ) (d : Literal) → AllPairs (λ a b. a.path ≢ b.path) lits → i < length lits → names (take i lits) (get_or lits i d).path ≡ false
front-apart lits i d distinct within = no-member (λ (a : Literal). eqb a.path (get_or lits i d).path) (take i lits) (λ b m. ⊎_elim
    (λ yes.
    let less : m.0 < i = (let l = m.1 in omega (arith, length-take-le i lits)) in
    let same : get_or lits m.0 d ≡ b = get_or_default lits m.0 d b (omega arith) ∙ (sym (get_or-take i lits m.0 b less) ∙ m.2) in
    absurd (distinct m.0 i d less within (ap (λ (a : Literal). a.path) same ∙ eqb-true b.path (get_or lits i d).path yes)))
    (λ no. no)
    (cases_Bool (eqb b.path (get_or lits i d).path)))
