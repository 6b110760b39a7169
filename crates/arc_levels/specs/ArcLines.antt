-- Certificate lines of choices that are outside the arcs.
use Rattle.std.specs.Prelude.{◌≡◌, ◌≢◌, ℕ, ◌<◌, List, [], ◌∷◌, length, All, AllPairs, Contains}
use Rattle.fapp_model.specs.declared.instance.Instance.{Instance}
use Rattle.fapp_model.specs.declared.literal.Literal.{Literal}
use Rattle.fapp_model.specs.Tags.{triple_from}
use Rattle.fapp_model.specs.search.Arcs.{OutsideArc}
use Rattle.fapp_model.specs.search.Partials.{IsLiteral}
use Rattle.cert_lines.specs.declared.answer.Line.{Line}
use Rattle.cert_lines.specs.declared.answer.Rule.TheVariants.{Count}
use Rattle.cert_lines.specs.acceptance.LineFaults.{IsGoodLine}
use Rattle.arc_levels.specs.Outside.{IsOutsideTag}

-- the Count line of a choice alone, without cites, at the choice's tag, which is above (0, 0, 0)
pub record IsLineOf (instance : Instance) (a : Literal) (line : Line) : Type 0 where
  pub lits : line.lits ≡ a ∷ []
  pub rule : line.rule ≡ Count []
  pub tag : IsOutsideTag instance a (triple_from line.tag.code)
  pub above : 0 < line.tag.code

-- one line for each choice that is outside some arcs, each good from those before it
pub record AreArcLines (instance : Instance) (lines : List Line) : Type 0 where
  pub formed : All (λ line. (a : Literal) × IsLiteral instance a × IsLineOf instance a line) lines
  pub each : (a : Literal) → IsLiteral instance a → OutsideArc instance 0 a →
      (line : Line) × Contains lines line × IsLineOf instance a line
  pub once : AllPairs (λ x y. x.lits ≢ y.lits) lines
  pub good : (n : ℕ) → n < length lines → IsGoodLine instance lines n
