-- What holds of dead partial assignments.
use Rattle.std.specs.Prelude.{◌↔◌, ◌⊎◌, not, ℕ, ◌<◌, Bool, IsTrue, List, length}
use Rattle.fapp_model.specs.declared.instance.Instance.{Instance}
use Rattle.fapp_model.specs.declared.literal.Literal.{Literal}
use Rattle.fapp_model.specs.declared.triple.Triple.{Triple}
use Rattle.fapp_model.specs.search.Arcs.{OutsideArc}
use Rattle.fapp_model.specs.search.Dead.{Dead, DeadBy}
use Rattle.fapp_model.specs.search.Implied.{Implied, RulesOut}
use Rattle.fapp_model.specs.Instances.{IsInstance}
use Rattle.fapp_model.specs.Least.{IsFeasible}
use Rattle.fapp_model.specs.search.Partials.{Extends, IsLiteral, IsPartial, names}
use Rattle.fapp_model.specs.Tags.{IsTagOf, mode_level, top_tag}
use Rattle.dead_laws.specs.ArcLaws.{IsArcs}
use Rattle.fapp_model.specs.search.Partials.{HasAll}
use Rattle.fapp_model.specs.Triples.{IsAtMost}

-- What is judged dead is implied, whatever test stands for outside, where each choice that passes
-- it is implied with the literals.
abbrev pub JudgedDeadIsImplied : Type 0
JudgedDeadIsImplied =
    (excluded : Literal → Bool) (instance : Instance) (t : Triple) (literals : List Literal) →
    IsInstance instance →
    IsTagOf instance t → IsPartial instance literals →
    RulesOut instance t literals (λ a. IsTrue (excluded a)) →
    DeadBy (λ a. IsTrue (excluded a)) instance t literals → Implied instance t literals

-- What is dead is implied.
abbrev pub DeadIsImplied : Type 0
DeadIsImplied = (instance : Instance) (t : Triple) (literals : List Literal) → IsInstance instance →
    IsTagOf instance t → IsPartial instance literals → Dead instance t literals →
    Implied instance t literals

-- What is judged dead with the choices outside the arcs, and with others that pass a test, is
-- implied, where each choice that passes the test is implied with the literals.
abbrev pub DeadByArcsAndTestIsImplied : Type 0
DeadByArcsAndTestIsImplied =
    (excluded : Literal → Bool) (instance : Instance) (t : Triple) (literals : List Literal) →
    IsInstance instance → IsTagOf instance t → IsPartial instance literals →
    RulesOut instance t literals (λ a. IsTrue (excluded a)) →
    DeadBy (λ a. OutsideArc instance (mode_level t) a ⊎ IsTrue (excluded a)) instance t literals →
    Implied instance t literals

-- Where literals are dead at the top tag, no assignment that has them meets the imperative records.
abbrev pub NoneWhereDeadAtTop : Type 0
NoneWhereDeadAtTop =
    (instance : Instance) (plan : List ℕ) (literals : List Literal) → IsInstance instance →
    IsPartial instance literals → Dead instance (top_tag instance) literals →
    IsFeasible instance plan →
    Extends plan literals → ⊥

-- What is dead at a tag is dead at each lower one.
abbrev pub DeadAtLowerTags : Type 0
DeadAtLowerTags =
    (instance : Instance) (t u : Triple) (literals : List Literal) → IsInstance instance →
    IsTagOf instance t → IsTagOf instance u → IsAtMost u t → Dead instance t literals →
    Dead instance u literals

-- a literal for each path
abbrev pub NamesAll : Instance → List Literal → Type 0
NamesAll instance literals =
    (path : ℕ) → path < length instance.paths → IsTrue (names literals path)

-- For a literal of each path, dead and implied are one.
abbrev pub FullDeadIsImplied : Type 0
FullDeadIsImplied =
    (instance : Instance) (t : Triple) (literals : List Literal) → IsInstance instance →
    IsTagOf instance t → IsPartial instance literals → NamesAll instance literals →
    Dead instance t literals ↔ Implied instance t literals

-- What is dead for some literals is dead for more.
abbrev pub DeadInExtensions : Type 0
DeadInExtensions =
    (instance : Instance) (t : Triple) (literals more : List Literal) → IsInstance instance →
    IsPartial instance literals → IsPartial instance more → HasAll more literals →
    Dead instance t literals → Dead instance t more

-- two ways to say what stands outside say the same of the instance's choices
abbrev pub AgreeOn : Instance → (Literal → Type 0) → (Literal → Type 0) → Type 0
AgreeOn instance outside other = (a : Literal) → IsLiteral instance a → outside a ↔ other a

-- By a test of the arcs, what is dead is what is judged dead with the other choices outside.
abbrev pub DeadByTest : Type 0
DeadByTest = (instance : Instance) (t : Triple) (literals : List Literal) (arc : Literal → Bool) →
    IsPartial instance literals → IsArcs instance (mode_level t) arc →
    Dead instance t literals ↔ DeadBy (λ a. IsTrue (not (arc a))) instance t literals

-- A partial assignment is dead, or it isn't.
abbrev pub DeadIsDecided : Type 0
DeadIsDecided = (instance : Instance) (t : Triple) (literals : List Literal) → IsInstance instance →
    IsTagOf instance t → IsPartial instance literals → Dead instance t literals
    ⊎ (Dead instance t literals → ⊥)
