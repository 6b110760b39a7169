-- What a line is judged by.
use Rattle.std.specs.Prelude.{ℕ, ◌≤◌, Bool, List, length, take, All, Option}
use Rattle.std.specs.List.{list_all, range_with_len}
use Rattle.fapp_model.specs.declared.level.TheConstants.{MAX_LEVELS}
use Rattle.fapp_model.specs.declared.literal.Literal.{Literal}
use Rattle.fapp_model.specs.Assignments.{count_at}
use Rattle.fapp_model.specs.Instances.{IsInstance}
use Rattle.fapp_model.specs.Tags.{triple_from}
use Rattle.fapp_model.specs.search.Pairs.{Pair}
use Rattle.fapp_model.specs.search.Partials.{literal}
use Rattle.cert_lines.specs.declared.answer.Child.{Child}
use Rattle.cert_lines.specs.declared.answer.Line.{Line}
use Rattle.cert_lines.specs.declared.answer.Rule.{Rule}
use Rattle.cert_lines.specs.declared.reject.RejectCause.{RejectCause}
use Rattle.cert_lines.specs.WellFormed.{IsLineOrDelete}
use Rattle.cert_lines.specs.acceptance.Judged.{judged_dead, least_pair, remains, with_choice}
use Rattle.cert_lines.specs.acceptance.LineFaults.{is_settled, rule_fault}
use Rattle.cert_lines.specs.acceptance.Excluded.{is_excluded}
use Rattle.cert_check.specs.declared.exclusion.Scene.{Scene}
use Rattle.cert_check.specs.Marked.{IsMarks, AreEarlier}

pub record IsScene (scene : Scene) : Type 0 where
  pub instance : IsInstance scene.instance.now
  pub marks : IsMarks scene.instance.now scene.lines.now scene.marks.now
  pub entries : All (IsLineOrDelete scene.instance.now) scene.lines.now
  pub n : scene.n ≤ length scene.lines.now
  pub cites : AreEarlier scene.n scene.cites.now
  pub level : scene.level ≤ MAX_LEVELS

-- the lines before the judged one
abbrev pub earlier_of : Scene → List Line
earlier_of scene = take scene.n scene.lines.now

-- what excludes a choice
abbrev pub excluded_by : Scene → List Literal → Literal → Bool
excluded_by scene literals a = is_excluded (earlier_of scene) scene.tag scene.cites.now literals a

-- each choice of a path is excluded
abbrev pub all_excluded : Scene → List Literal → ℕ → Bool
all_excluded scene literals path =
    list_all (λ index. excluded_by scene literals (literal path index))
    (range_with_len 0 (count_at scene.instance.now path))

-- a choice remains
abbrev pub remains_by : Scene → List Literal → Literal → Bool
remains_by scene literals a =
    remains (excluded_by scene literals) scene.instance.now scene.level literals a

-- one more choice of a path, looked at for the least pair
abbrev pub choice_by : Scene → List Literal → ℕ → Option Pair → ℕ → Option Pair
choice_by scene literals path found index =
    with_choice (excluded_by scene literals) scene.instance.now scene.level literals path found
    index

-- the least pair of a path
abbrev pub pair_by : Scene → List Literal → ℕ → Option Pair
pair_by scene literals path =
    least_pair (excluded_by scene literals) scene.instance.now scene.level literals path

-- the literals are judged dead
abbrev pub dead_by : Scene → List Literal → Bool
dead_by scene literals =
    judged_dead (excluded_by scene literals) scene.instance.now (triple_from scene.tag.code)
    literals

-- a choice has a child, or the literals with it are judged dead
abbrev pub settled_by : Scene → List Literal → ℕ → List Child → ℕ → Bool
settled_by scene literals path children index =
    is_settled scene.instance.now (earlier_of scene) scene.tag literals path children index

abbrev pub all_settled : Scene → List Literal → ℕ → List Child → Bool
all_settled scene literals path children =
    list_all (settled_by scene literals path children)
    (range_with_len 0 (count_at scene.instance.now path))

-- the first fault of a line, by its rule
abbrev pub fault_by : Scene → List Literal → Rule → Option RejectCause
fault_by scene literals rule =
    rule_fault scene.instance.now (earlier_of scene) scene.tag literals rule
