-- What holds of certificate lines that have no fault.
use Rattle.std.specs.Prelude.{◌≡◌, ℕ, ◌<◌, Bool, List, length, All, IsTrue}
use Rattle.fapp_model.specs.declared.instance.Instance.{Instance}
use Rattle.fapp_model.specs.declared.literal.Literal.{Literal}
use Rattle.fapp_model.specs.declared.triple.Triple.{Triple}
use Rattle.fapp_model.specs.search.Dead.{DeadBy}
use Rattle.fapp_model.specs.search.Implied.{Implied}
use Rattle.fapp_model.specs.Instances.{IsInstance}
use Rattle.fapp_model.specs.search.Partials.{IsPartial}
use Rattle.fapp_model.specs.Tags.{least_tag, triple_from}
use Rattle.cert_lines.specs.declared.answer.Line.{Line}
use Rattle.cert_lines.specs.WellFormed.{IsLineOrDelete}
use Rattle.cert_lines.specs.acceptance.Judged.{judged_dead}
use Rattle.cert_lines.specs.acceptance.LineFaults.{IsGoodLine}

-- What the test judges dead is dead by the cases.
abbrev pub JudgedIsDead : Type 0
JudgedIsDead =
    (excluded : Literal → Bool) (instance : Instance) (t : Triple) (literals : List Literal) →
    IsTrue (judged_dead excluded instance t literals) →
    DeadBy (λ a. IsTrue (excluded a)) instance t literals

-- At a tag above (0, 0, 0) the test judges dead what is dead by the cases.
abbrev pub DeadIsJudged : Type 0
DeadIsJudged =
    (excluded : Literal → Bool) (instance : Instance) (t : Triple) (literals : List Literal) →
    IsPartial instance literals → (t ≡ least_tag → ⊥) →
    DeadBy (λ a. IsTrue (excluded a)) instance t literals →
    IsTrue (judged_dead excluded instance t literals)

-- what a line says
abbrev pub IsLineImplied : Instance → Line → Type 0
IsLineImplied instance line = Implied instance (triple_from line.tag.code) line.lits

-- each line is good, judged from those before it
abbrev pub AreGood : Instance → List Line → Type 0
AreGood instance lines = (n : ℕ) → n < length lines → IsGoodLine instance lines n

-- Where each line of a list is good, each line's literals are implied at its tag.
abbrev pub GoodLinesAreImplied : Type 0
GoodLinesAreImplied =
    (instance : Instance) (lines : List Line) → IsInstance instance →
    All (IsLineOrDelete instance) lines →
    AreGood instance lines → All (IsLineImplied instance) lines
