-- What became of literals that a log says are implied: a certificate line has them, or they are
-- dead without one.
use Rattle.std.specs.Prelude.{◌≡◌, ◌⊎◌, ℕ, ◌<◌, ◌≤◌, false, List, length, All, IsTrue}
use Rattle.fapp_model.specs.declared.instance.Instance.{Instance}
use Rattle.fapp_model.specs.declared.literal.Literal.{Literal}
use Rattle.fapp_model.specs.declared.tag.Tag.{Tag}
use Rattle.fapp_model.specs.InstanceTags.{IsTagFor}
use Rattle.fapp_model.specs.Tags.{IsTagOf, mode_level, triple_from}
use Rattle.fapp_model.specs.search.Arcs.{OutsideArc}
use Rattle.fapp_model.specs.search.Dead.{Dead}
use Rattle.fapp_model.specs.search.Partials.{IsLiteral, IsPartial}
use Rattle.cert_lines.specs.declared.answer.Line.{Line}
use Rattle.cert_lines.specs.acceptance.Deleted.{is_delete}
use Rattle.cert_lines.specs.acceptance.Excluded.{is_marked, line_at}
use Rattle.search_log.specs.Contents.{Content}

-- line n of the certificate, from 1, says this
pub record StandsAt (out : List Line) (content : Content) (n : ℕ) : Type 0 where
  pub low : 0 < n
  pub high : n ≤ length out
  pub tag_is : (line_at out n).tag.code ≡ content.tag
  pub lits_are : (line_at out n).lits ≡ content.lits

-- no line says it, and the literals need none
pub record IsLeftOut (instance : Instance) (content : Content) (n : ℕ) : Type 0 where
  pub none : n ≡ 0
  pub tag_of : IsTagOf instance (triple_from content.tag)
  pub partial : IsPartial instance content.lits
  pub dead : Dead instance (triple_from content.tag) content.lits

-- the number of a line that says it, or 0 where it was left out
abbrev pub IsFate : Instance → List Line → Content → ℕ → Type 0
IsFate instance out content n = IsLeftOut instance content n ⊎ StandsAt out content n

-- no line deletes, and each choice outside the arcs of a tag's level is excluded at that tag
pub record AreMarked (instance : Instance) (out : List Line) : Type 0 where
  pub plain : All (λ line. is_delete line.rule ≡ false) out
  pub marks : (t : Tag) (a : Literal) → IsTagFor instance t → IsLiteral instance a →
      OutsideArc instance (mode_level (triple_from t.code)) a → IsTrue (is_marked out t a)
