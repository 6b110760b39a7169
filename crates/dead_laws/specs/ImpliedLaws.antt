-- What holds of implied partial assignments.
use Rattle.std.specs.Prelude.{◌≡◌, ◌⊎◌, ℕ, ◌<◌, List, ◌∷◌, length}
use Rattle.fapp_model.specs.declared.instance.Instance.{Instance}
use Rattle.fapp_model.specs.declared.literal.Literal.{Literal}
use Rattle.fapp_model.specs.declared.triple.Triple.{Triple}
use Rattle.fapp_model.specs.Assignments.{count_at}
use Rattle.fapp_model.specs.search.Implied.{Implied}
use Rattle.fapp_model.specs.Least.{IsFeasible}
use Rattle.fapp_model.specs.search.Partials.{literal, Extends, HasAll}
use Rattle.fapp_model.specs.Tags.{top_tag}
use Rattle.fapp_model.specs.Triples.{IsAtMost}

-- What is implied at a tag is implied at each lower one, so at the lesser of two.
abbrev pub ImpliedAtLowerTags : Type 0
ImpliedAtLowerTags = (instance : Instance) (t u : Triple) (literals : List Literal) → IsAtMost u t →
    Implied instance t literals → Implied instance u literals

-- What is implied at two tags is implied at the greater of them.
abbrev pub ImpliedAtGreater : Type 0
ImpliedAtGreater =
    (instance : Instance) (t u greater : Triple) (literals : List Literal) → (greater ≡ t)
    ⊎ (greater ≡ u) →
    Implied instance t literals → Implied instance u literals → Implied instance greater literals

-- What is implied for some literals is implied for more.
abbrev pub ImpliedInExtensions : Type 0
ImpliedInExtensions =
    (instance : Instance) (t : Triple) (literals more : List Literal) → HasAll more literals →
    Implied instance t literals → Implied instance t more

-- What is implied with each choice of a path is implied without.
abbrev pub ImpliedByBranch : Type 0
ImpliedByBranch =
    (instance : Instance) (t : Triple) (literals : List Literal) (path : ℕ) →
    path < length instance.paths →
    ((index : ℕ) → index < count_at instance path →
    Implied instance t (literal path index ∷ literals)) →
    Implied instance t literals

-- Where literals are implied at the top tag, no assignment that has them meets the imperative
-- records.
abbrev pub NoneAtTop : Type 0
NoneAtTop =
    (instance : Instance) (plan : List ℕ) (literals : List Literal) →
    Implied instance (top_tag instance) literals →
    IsFeasible instance plan → Extends plan literals → ⊥
