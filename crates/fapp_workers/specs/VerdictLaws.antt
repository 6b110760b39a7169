-- What a verdict says of the jobs, where their outcomes are settled and the bound is the least cost
-- that was found.
use Rattle.std.specs.Prelude.{◌≡◌, ◌⊎◌, ℕ, ◌+◌, ◌<◌, ◌≤◌, List, All, Contains, IsTrue}
use Rattle.fapp_model.specs.declared.instance.Instance.{Instance}
use Rattle.fapp_model.specs.declared.literal.Literal.{Literal}
use Rattle.fapp_model.specs.declared.tag.Tag.{Tag}
use Rattle.fapp_model.specs.declared.triple.Triple.{Triple}
use Rattle.fapp_model.specs.Costs.{cost}
use Rattle.fapp_model.specs.Instances.{IsInstance}
use Rattle.fapp_model.specs.Least.{IsFeasible, Least}
use Rattle.fapp_model.specs.Levels.{levels_of}
use Rattle.fapp_model.specs.Tags.{code_of, triple_from}
use Rattle.fapp_model.specs.search.Jobs.{prefixes, target}
use Rattle.fapp_model.specs.search.Partials.{Extends}
use Rattle.fapp_model.specs.search.Tries.{IsTries}
use Rattle.cert_lines.specs.declared.answer.Verdict.{Verdict}
use Rattle.cert_lines.specs.declared.answer.Verdict.TheVariants.{Open}
use Rattle.cert_lines.specs.WellFormed.{is_shown}
use Rattle.search_log.specs.Contents.{KnownRow}
use Rattle.search_log.specs.LogStates.{LogState}
use Rattle.settle_laws.specs.Levels.{level_code}
use Rattle.fapp_plan.specs.Outcomes.{Placed}
use Rattle.fapp_plan.specs.Plans.{Split}
use Rattle.fapp_plan.specs.Sorting.{by_path}
use Rattle.fapp_plan.specs.VerdictRule.{IsVerdictOf}
use Rattle.fapp_workers.specs.Gathered.{AreSettled, IsLeastWord}
use Rattle.fapp_workers.specs.Outcomes.{IsBeyond}

-- a job has at most as many tries as so much fuel
pub record IsWithinFuel (instance : Instance) (level : ℕ) (prefix : List Literal)
    (fuel : ℕ) : Type 0 where
  pub tries : ℕ
  pub are : IsTries instance (target level) prefix tries
  pub few : tries ≤ fuel

-- and so has each job of a level
abbrev pub IsLevelWithinFuel : Split → ℕ → ℕ → Type 0
IsLevelWithinFuel split fuel level =
    All (λ prefix. IsWithinFuel split.instance level prefix fuel)
    (prefixes split.instance split.split)

-- a run of all jobs, and its verdict
pub record IsSolvedRun (split : Split) (fuel : ℕ) (rows : List KnownRow) (logs : List LogState)
    (word arcs : ℕ) (outcomes : List Placed) (verdict : Verdict) : Type 0 where
  pub valid : IsInstance split.instance
  pub shown : IsTrue (is_shown (levels_of split.instance) (triple_from word))
  pub settled : AreSettled split fuel rows logs word outcomes
  pub least : IsLeastWord split.instance logs word
  pub ruled : IsVerdictOf split.instance split.split outcomes word arcs verdict

-- the job that an Open verdict names: its level is that of the shown cost, or the last one where
-- none is shown, and it has more tries than its fuel
pub record NamesJob (split : Split) (fuel : ℕ) (best : Triple) (level : ℕ)
    (prefix : List Literal) : Type 0 where
  pub planned_prefix : List Literal
  pub planned : Contains (prefixes split.instance split.split) planned_prefix
  pub named : prefix ≡ by_path planned_prefix
  pub at_level : ((best.k ≡ levels_of split.instance + 1) × (level ≡ levels_of split.instance))
      ⊎ ((best.k ≤ levels_of split.instance) × (level ≡ best.k))
  pub beyond : IsBeyond split.instance level planned_prefix fuel

-- What an Open verdict says: it names such a job; the lower bound is below the shown cost, and at
-- least (m, 0, 0) where the jobs of the first m levels have tries within the fuel; and the shown
-- cost is at most that of each assignment whose own job, that of its level on the prefix that it
-- extends, has tries within the fuel.
pub record IsOpenFor (split : Split) (fuel : ℕ) (best : Triple) (lower : Tag) (level : ℕ)
    (prefix : List Literal) : Type 0 where
  pub names : NamesJob split fuel best level prefix
  pub unsettled : lower.code < code_of best
  pub reaches : (m : ℕ) → m ≤ levels_of split.instance + 1 →
      ((q : ℕ) → q < m → IsLevelWithinFuel split fuel q) → level_code m ≤ lower.code
  pub shown : (plan : List ℕ) (own : List Literal) → IsFeasible split.instance plan →
      Contains (prefixes split.instance split.split) own → Extends plan own →
      IsWithinFuel split.instance (cost split.instance plan).k own fuel →
      code_of best ≤ code_of (cost split.instance plan)

abbrev pub OpenSaysSo : Type 0
OpenSaysSo =
    (split : Split) (fuel : ℕ) (rows : List KnownRow) (logs : List LogState) (word arcs : ℕ)
    (outcomes : List Placed) (best : Triple) (lower : Tag) (level : ℕ) (prefix : List Literal) →
    IsSolvedRun split fuel rows logs word arcs outcomes (Open best lower level prefix) →
    IsOpenFor split fuel best lower level prefix

-- Fuel enough for one level: that of the least cost, or the last where no assignment meets the
-- imperative records.
abbrev pub IsEnough : Split → ℕ → Type 0
IsEnough split fuel =
    ((plan : List ℕ) × Least split.instance plan
    × IsLevelWithinFuel split fuel (cost split.instance plan).k)
    ⊎ (((plan : List ℕ) → IsFeasible split.instance plan → ⊥)
    × IsLevelWithinFuel split fuel (levels_of split.instance))

abbrev pub EnoughSettles : Type 0
EnoughSettles =
    (split : Split) (fuel : ℕ) (rows : List KnownRow) (logs : List LogState) (word arcs : ℕ)
    (outcomes : List Placed) (best : Triple) (lower : Tag) (level : ℕ) (prefix : List Literal) →
    IsEnough split fuel → IsSolvedRun split fuel rows logs word arcs outcomes
    (Open best lower level prefix) → ⊥
