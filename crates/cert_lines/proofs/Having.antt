-- What a list of literals has.
use Rattle.std.proofs.Common.{◌≡◌, ℕ, true, eqb, ◌∙◌, ap, List, Contains, subst, get_or}
use Rattle.std.proofs.lemmas.Bool.{and_parts, eqb-true}
use Rattle.fapp_model.specs.declared.literal.Literal.{Literal}
use Rattle.fapp_model.specs.search.Partials.{literal, HasAll}
use Rattle.cert_lines.specs.acceptance.Contained.{is_same, has, has_all}
use Rattle.fapp_model.proofs.Anys.{passing}
use Rattle.std.proofs.lemmas.List.Sums.{AllPass-from_list_all}

pub same-literals : (a b : Literal) → is_same a b ≡ true → a ≡ b
same-literals a b h =
    let parts = and_parts (eqb a.path b.path) (eqb a.choice b.choice) h in
    let path = eqb-true a.path b.path parts.0 in
    let choice = eqb-true a.choice b.choice parts.1 in
    ap (λ (p : ℕ). literal p a.choice) path ∙ ap (literal b.path) choice

pub has-contains : (literals : List Literal) (a : Literal) → has literals a ≡ true → Contains literals a
has-contains literals a h =
    let found = passing (λ b. is_same b a) literals h in
    subst (Contains literals) (same-literals found.item a found.passes) found.member

pub has_all-each : (literals cited : List Literal) → has_all literals cited ≡ true → HasAll literals cited
has_all-each literals cited h = λ k d l. has-contains literals (get_or cited k d) (AllPass-from_list_all (has literals) cited h k d l)
