-- The verdict of a plan of jobs, from the outcomes of all jobs, the last bound, and a tag that no
-- assignment costs less than.
use Rattle.std.specs.Prelude.{◌≡◌, ℕ, ◌+◌, ◌<◌, ◌≤◌, max, ◌==◌, if◌then◌else◌, List, [], length, slice_index_or}
use Rattle.fapp_model.specs.declared.instance.Instance.{Instance}
use Rattle.fapp_model.specs.declared.literal.Literal.{Literal}
use Rattle.fapp_model.specs.declared.tag.Tag.{Tag}
use Rattle.fapp_model.specs.declared.triple.Triple.{Triple}
use Rattle.fapp_model.specs.Levels.{levels_of}
use Rattle.fapp_model.specs.Tags.{code_of, top_tag, triple_from}
use Rattle.fapp_model.specs.search.Jobs.{prefixes}
use Rattle.cert_lines.specs.declared.answer.Verdict.{Verdict}
use Rattle.cert_lines.specs.declared.answer.Verdict.TheVariants.{Best, NoneFeasible, Open}
use Rattle.fapp_plan.specs.Outcomes.{Placed, refuted_at, refuted_everywhere}
use Rattle.fapp_plan.specs.Sorting.{by_path}

-- the code of the tag below which every feasible assignment costs
abbrev pub top_code : Instance → ℕ
top_code instance = code_of (top_tag instance)

-- what no assignment costs less than: the given tag or what every prefix is refuted at, whichever
-- is greater
unfoldable pub lower_code : Instance → ℕ → List Placed → ℕ → ℕ
lower_code instance split outcomes arcs = max arcs (refuted_everywhere instance split outcomes)

-- the level of a bound, or the last level where the bound is the top
abbrev pub open_level : Instance → Triple → ℕ
open_level instance t = if t.k == (levels_of instance + 1) then levels_of instance else t.k

-- a bound that nothing costs less than, as a verdict
abbrev pub settled : Instance → Triple → Verdict
settled instance t = if t.k == (levels_of instance + 1) then NoneFeasible else Best t

-- the first prefix that is refuted below the bound only
pub record IsFirstOpen (instance : Instance) (split : ℕ) (outcomes : List Placed)
    (word place : ℕ) : Type 0 where
  pub inside : place < length (prefixes instance split)
  pub below : refuted_at instance outcomes place < word
  pub first : (earlier : ℕ) → earlier < place → word ≤ refuted_at instance outcomes earlier

-- what an Open verdict says: the bound, what no assignment costs less than, and a job that has not
-- settled it
pub record IsOpenOf (instance : Instance) (split : ℕ) (outcomes : List Placed) (word arcs : ℕ)
    (best : Triple) (lower : Tag) (level : ℕ) (prefix : List Literal) : Type 0 where
  pub unsettled : lower_code instance split outcomes arcs < word
  pub shown : best ≡ triple_from word
  pub bound : lower.code ≡ lower_code instance split outcomes arcs
  pub at_level : level ≡ open_level instance (triple_from word)
  pub place : ℕ
  pub open_at : IsFirstOpen instance split outcomes word place
  pub named : prefix ≡ by_path (slice_index_or (prefixes instance split) place [])

-- Verdict rule: none feasible where the bound is the top and nothing costs less, best where nothing
-- costs less than a bound below the top, and else open.
abbrev pub IsVerdictOf : Instance → ℕ → List Placed → ℕ → ℕ → Verdict → Type 0
IsVerdictOf instance split outcomes word arcs NoneFeasible =
    (word ≡ top_code instance) × (lower_code instance split outcomes arcs ≡ top_code instance)
IsVerdictOf instance split outcomes word arcs (Best t) =
    (word < top_code instance) × (word ≤ lower_code instance split outcomes arcs)
    × (t ≡ triple_from word)
IsVerdictOf instance split outcomes word arcs (Open best lower level prefix) =
    IsOpenOf instance split outcomes word arcs best lower level prefix
