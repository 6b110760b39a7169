-- The fault of an answer's root.
use Rattle.std.specs.Prelude.{◌≡◌, refl, ℕ, Bool, true, false, ◌==◌, nat_lt, nat_le, List, length, fold, Option, Some, None, if◌then◌else◌}
use Rattle.fapp_model.specs.declared.instance.Instance.{Instance}
use Rattle.fapp_model.specs.declared.tag.Tag.{Tag}
use Rattle.fapp_model.specs.declared.triple.Triple.{Triple}
use Rattle.fapp_model.specs.Tags.{code_of, is_code, top_tag}
use Rattle.cert_lines.specs.declared.answer.Line.{Line}
use Rattle.cert_lines.specs.declared.answer.Verdict.{Verdict}
use Rattle.cert_lines.specs.declared.answer.Verdict.TheVariants.{Best, NoneFeasible, Open}
use Rattle.cert_lines.specs.declared.reject.RejectCause.{RejectCause}
use Rattle.cert_lines.specs.declared.reject.RejectCause.TheVariants.{NoRootLine, RootTagTooLow}
use Rattle.cert_lines.specs.acceptance.Deleted.{kept}
use Rattle.cert_lines.specs.acceptance.LineFaults.{cause_unless}

-- a line without literals: a root line, where it is no Delete line
abbrev pub is_root : Line → Bool
is_root line = length line.lits == 0

-- the first of the greatest tags
abbrev pub greater : Option Tag → Tag → Tag
greater None t = t
greater (Some u) t = if nat_lt u.code t.code then t else u

abbrev pub with_root_line : Option Tag → Line → Option Tag
with_root_line found line = if is_root line then Some (greater found line.tag) else found

-- the greatest tag of the lines without literals
unfoldable pub root_tag : List Line → Option Tag
root_tag lines = fold with_root_line None lines

abbrev pub tag_by : (code : ℕ) (test : Bool) → is_code code ≡ test → Tag
tag_by code true h = record { code = code; of_tag = h }
tag_by code false h = record { code = 0; of_tag = refl }

-- the tag of a triple that is one
unfoldable pub tag_for : Triple → Tag
tag_for t = tag_by (code_of t) (is_code (code_of t)) refl

-- what the verdict says that no plan is below
abbrev pub verdict_tag : Instance → Verdict → Tag
verdict_tag instance (Best t) = tag_for t
verdict_tag instance NoneFeasible = tag_for (top_tag instance)
verdict_tag instance (Open best lower level prefix) = lower

abbrev pub root_fault_by : Tag → Option Tag → Option RejectCause
root_fault_by claimed None = Some NoRootLine
root_fault_by claimed (Some found) =
    cause_unless (nat_le claimed.code found.code) (RootTagTooLow claimed found)

unfoldable pub root_fault : Instance → Verdict → List Line → Option RejectCause
root_fault instance verdict lines =
    root_fault_by (verdict_tag instance verdict) (root_tag (kept lines))
