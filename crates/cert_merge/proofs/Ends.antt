-- The whole certificate, and what it needs of the verdict.
use Rattle.std.proofs.Common.{◌≡◌, ℕ, max, List, ap, ◌∙◌}
use Rattle.fapp_model.specs.declared.instance.Instance.{Instance}
use Rattle.fapp_model.specs.declared.tag.Tag.{Tag}
use Rattle.fapp_model.specs.Instances.{IsInstance}
use Rattle.fapp_model.specs.Tags.{triple_from}
use Rattle.cert_lines.specs.declared.answer.Line.{Line}
use Rattle.cert_lines.specs.declared.answer.Verdict.{Verdict}
use Rattle.cert_lines.specs.WellFormed.{IsVerdict}
use Rattle.arc_levels.specs.ArcLines.{AreArcLines}
use Rattle.arc_levels.specs.Outside.{IsRootTag}
use Rattle.search_log.specs.LogStates.{LogState}
use Rattle.fapp_plan.specs.Outcomes.{Placed}
use Rattle.fapp_plan.proofs.Formed.{rule-formed}
use Rattle.merge_laws.specs.Certificates.{finished}
use Rattle.merge_laws.specs.Conditions.{IsMergeableAfter}
use Rattle.merge_laws.specs.OldRoots.{old_root}
use Rattle.merge_laws.proofs.Merging.{own-most, own-root}
use Rattle.merge_laws.specs.MergedLines.{IsOrderedAfter}
use Rattle.merge_laws.specs.Stages.{Merged}
use Rattle.merge_laws.proofs.Ruling.{root-is_tag}
use Rattle.cert_merge.specs.Growth.{AreGatheredLines}

-- one part after another
pub whole-is : (instance : Instance) (split : ℕ) (old : List Line) (placed : List (ℕ × ℕ)) (logs : List LogState) (outcomes : List Placed) (t : Tag) (arcs : List Line) (root : ℕ) (s : Merged) (lines : List Line) → AreArcLines instance arcs →
    IsRootTag instance (triple_from root) → AreGatheredLines old placed arcs logs s → lines ≡ finished instance split outcomes t root s → IsOrderedAfter instance split old placed logs outcomes t lines
whole-is instance split old placed logs outcomes t arcs root s lines arcs_are root_is made is = record {
  arcs = arcs;
  arcs_are = arcs_are;
  root = root;
  root_is = root_is;
  pieces = made.pieces;
  by_row = made.by_row;
  room = made.room;
  fits = made.fits;
  placed_fit = made.placed_fit;
  is = is ∙ ap (finished instance split outcomes t root) made.is;
}

-- a verdict of the rule is well formed
pub verdict-formed : (instance : Instance) (split : ℕ) (old : List Line) (placed : List (ℕ × ℕ)) (logs : List LogState) (outcomes : List Placed) (word : ℕ) (verdict : Verdict) → IsInstance instance →
    IsMergeableAfter instance split old placed logs outcomes word verdict → IsVerdict instance verdict
verdict-formed instance split old placed logs outcomes word verdict valid given =
    rule-formed instance split outcomes word (max given.ruled.root (old_root old))
    (record { valid = valid; outcomes_for = given.outcomes_are.tags; shown = given.ruled.shown; arcs_for = own-most instance given.ruled.root (old_root old) (root-is_tag instance given.ruled.root given.ruled.root_is) (own-root instance old given.old_are.formed) })
    verdict given.ruled.rule
