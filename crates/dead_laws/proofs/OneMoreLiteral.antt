-- A literal of a path that is not named yet makes literals of different paths.
use Rattle.std.proofs.Common.{◌≡◌, ℕ, ◌<◌, false, List, length, ◌∙◌, ◌≢◌, ◌∷◌, eqb, sym}
use Rattle.std.proofs.lemmas.Bool.{eq-eqb, true≢false}
use Rattle.fapp_model.specs.declared.instance.Instance.{Instance}
use Rattle.fapp_model.specs.declared.literal.Literal.{Literal}
use Rattle.fapp_model.specs.search.Partials.{names, IsPartial, literal}
use Rattle.fapp_model.proofs.Members.{All-from_members}
use Rattle.fapp_model.specs.Assignments.{count_at}
use Rattle.fapp_model.proofs.Anys.{none-member}
use Rattle.dead_laws.proofs.ExampleTests.{one-more}

pub with-literal : (instance : Instance) (literals : List Literal) (path index : ℕ) → IsPartial instance literals → path < length instance.paths → index < count_at instance path → names literals path ≡ false → IsPartial instance (literal path index ∷ literals)
with-literal instance literals path index partial small below apart = one-more instance (literal path index) literals (record { path = small; choice = below })
    (All-from_members (λ (b : Literal). path ≢ b.path) literals (λ b m e. true≢false (sym (eq-eqb b.path path (sym e)) ∙ none-member (λ (c : Literal). eqb c.path path) literals apart b m)))
    partial
