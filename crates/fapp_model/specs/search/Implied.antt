-- What holds of every way to go on from a partial assignment.
use Rattle.std.specs.Prelude.{ℕ, List, ◌∷◌}
use Rattle.fapp_model.specs.declared.instance.Instance.{Instance}
use Rattle.fapp_model.specs.declared.literal.Literal.{Literal}
use Rattle.fapp_model.specs.declared.triple.Triple.{Triple}
use Rattle.fapp_model.specs.Costs.{cost}
use Rattle.fapp_model.specs.Least.{IsFeasible}
use Rattle.fapp_model.specs.search.Partials.{Extends, IsLiteral}
use Rattle.fapp_model.specs.Triples.{IsBelow}

-- no feasible assignment that has all the literals costs less than the tag
abbrev pub Implied : Instance → Triple → List Literal → Type 0
Implied instance t literals =
    (plan : List ℕ) → IsFeasible instance plan → Extends plan literals →
    IsBelow (cost instance plan) t → ⊥

-- each choice that stands outside is implied with the literals
abbrev pub RulesOut : Instance → Triple → List Literal → (Literal → Type 0) → Type 0
RulesOut instance t literals outside =
    (a : Literal) → IsLiteral instance a → outside a → Implied instance t (a ∷ literals)
