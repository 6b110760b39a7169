-- What holds of sorted literals and of verdicts.
use Rattle.std.specs.Prelude.{◌≡◌, ◌≢◌, ◌↔◌, ℕ, ◌<◌, List, length, AllPairs, Contains}
use Rattle.fapp_model.specs.declared.literal.Literal.{Literal}
use Rattle.fapp_model.specs.declared.instance.Instance.{Instance}
use Rattle.cert_lines.specs.declared.answer.Verdict.{Verdict}
use Rattle.fapp_plan.specs.Outcomes.{Placed}
use Rattle.fapp_plan.specs.Sorting.{by_path}
use Rattle.fapp_plan.specs.VerdictRule.{IsVerdictOf}

-- Literals of different paths are the same ones by path, and ascend.
pub record LiteralsByPath : Type 0 where
  pub members : (literals : List Literal) (a : Literal) →
      Contains (by_path literals) a ↔ Contains literals a
  pub count : (literals : List Literal) → length (by_path literals) ≡ length literals
  pub ascending : (literals : List Literal) → AllPairs (λ a b. a.path ≢ b.path) literals →
      AllPairs (λ a b. a.path < b.path) (by_path literals)

-- The rule gives no two verdicts.
abbrev pub OneVerdict : Type 0
OneVerdict =
    (instance : Instance) (split : ℕ) (outcomes : List Placed) (word arcs : ℕ) (one other : Verdict)
    →
    IsVerdictOf instance split outcomes word arcs one →
    IsVerdictOf instance split outcomes word arcs other → one ≡ other
