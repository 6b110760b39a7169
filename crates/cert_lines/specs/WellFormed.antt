-- Which answers have a text.
use Rattle.std.specs.Prelude.{◌≡◌, ◌⊎◌, ℕ, ◌<◌, ◌≤◌, ◌+◌, Bool, ◌&&◌, ◌||◌, ◌==◌, List, [], length, IsTrue, All, AllPairs}
use Rattle.fapp_text.specs.Signs.{IsSign}
use Rattle.fapp_model.specs.declared.choice.Choice.{Choice}
use Rattle.fapp_model.specs.declared.instance.Instance.{Instance}
use Rattle.fapp_model.specs.declared.triple.Triple.{Triple}
use Rattle.fapp_model.specs.Assignments.{count_at}
use Rattle.fapp_model.specs.Instances.{IsNumber}
use Rattle.fapp_model.specs.InstanceTags.{IsTagFor}
use Rattle.fapp_model.specs.Levels.{levels_of}
use Rattle.fapp_model.specs.Tags.{is_tag, has_limit}
use Rattle.fapp_model.specs.search.Partials.{AreLiterals}
use Rattle.cert_lines.specs.declared.answer.Answer.{Answer}
use Rattle.cert_lines.specs.declared.answer.Child.{Child}
use Rattle.cert_lines.specs.declared.answer.Line.{Line}
use Rattle.cert_lines.specs.declared.answer.Rule.{Rule}
use Rattle.cert_lines.specs.declared.answer.Rule.TheVariants.{Count, Branch, Delete}
use Rattle.cert_lines.specs.declared.answer.Verdict.{Verdict}
use Rattle.cert_lines.specs.declared.answer.Verdict.TheVariants.{Best, NoneFeasible, Open}

-- a frequency and a polarization
pub record IsShownChoice (choice : Choice) : Type 0 where
  pub freq : IsNumber choice.freq
  pub pol : IsSign choice.pol

-- numbers of lines, ascending
pub record AreCites (cites : List ℕ) : Type 0 where
  pub each : All IsNumber cites
  pub ascending : AllPairs (λ a b. a < b) cites
  pub few : IsNumber (length cites)

-- a choice of a path, and the number of a line
pub record IsChild (instance : Instance) (path : ℕ) (child : Child) : Type 0 where
  pub choice : child.choice < count_at instance path
  pub cite : IsNumber child.cite

-- children of a path, ascending by choice
pub record AreChildren (instance : Instance) (path : ℕ) (children : List Child) : Type 0 where
  pub each : All (IsChild instance path) children
  pub ascending : AllPairs (λ a b. a.choice < b.choice) children

abbrev pub IsRule : Instance → Rule → Type 0
IsRule instance (Count cites) = AreCites cites
IsRule instance (Branch path children) =
    (path < length instance.paths) × AreChildren instance path children
IsRule instance (Delete cites) = ⊥

-- a Count or Branch line
pub record IsLine (instance : Instance) (line : Line) : Type 0 where
  pub tag : IsTagFor instance line.tag
  pub lits : AreLiterals instance line.lits
  pub rule : IsRule instance line.rule

-- a Delete line
pub record IsDelete (line : Line) : Type 0 where
  pub tag : line.tag.code ≡ 0
  pub lits : line.lits ≡ []
  pub cites : List ℕ
  pub rule : line.rule ≡ Delete cites
  pub cites_are : AreCites cites

-- a line of version 2
abbrev pub IsLineOrDelete : Instance → Line → Type 0
IsLineOrDelete instance line = IsLine instance line ⊎ IsDelete line

-- a line of a version: Delete lines stand in version 2 alone
abbrev pub IsLineIn : ℕ → Instance → Line → Type 0
IsLineIn version instance line = IsLine instance line ⊎ ((version ≡ 2) × IsDelete line)

abbrev pub IsVersion : ℕ → Type 0
IsVersion version = (version ≡ 1) ⊎ (version ≡ 2)

-- what a plan can cost: nothing at all, or some level with violations one level below it
abbrev pub is_cost : ℕ → Triple → Bool
is_cost levels t = is_tag levels t && (has_limit t || (t.k == 0))

-- what a plan can cost, or that no plan is shown
abbrev pub is_shown : ℕ → Triple → Bool
is_shown levels t = is_tag levels t && (has_limit t || ((t.k == 0) || (t.k == levels + 1)))

abbrev pub IsVerdict : Instance → Verdict → Type 0
IsVerdict instance (Best t) = IsTrue (is_cost (levels_of instance) t)
IsVerdict instance NoneFeasible = Unit {0}
IsVerdict instance (Open best lower level prefix) =
    IsTrue (is_shown (levels_of instance) best) × IsTagFor instance lower
    × (level ≤ levels_of instance)
    × AreLiterals instance prefix

pub record IsWellFormed (instance : Instance) (answer : Answer) : Type 0 where
  pub plan : length answer.plan ≤ length instance.paths
  pub choices : All IsShownChoice answer.plan
  pub verdict : IsVerdict instance answer.verdict
  pub version : IsVersion answer.version
  pub lines : All (IsLineIn answer.version instance) answer.lines
