-- The first fault of an answer's plan.
use Rattle.std.specs.Prelude.{ℕ, Bool, ◌&&◌, ◌==◌, List, length, map, slice_index_or, Option, Some, None, if◌then◌else◌}
use Rattle.std.specs.List.{list_any, list_all, range_with_len, position_or_len}
use Rattle.std.specs.Option.{option_or}
use Rattle.std.specs.Ordering.{int_eq}
use Rattle.fapp_model.specs.declared.choice.Choice.{Choice}
use Rattle.fapp_model.specs.declared.instance.Instance.{Instance}
use Rattle.fapp_model.specs.declared.instance.Path.{Path}
use Rattle.fapp_model.specs.declared.triple.Triple.{Triple}
use Rattle.fapp_model.specs.Assignments.{path_at, meets}
use Rattle.fapp_model.specs.Choices.{choices, no_choice}
use Rattle.fapp_model.specs.Costs.{cost}
use Rattle.fapp_model.specs.Tags.{top_tag}
use Rattle.cert_lines.specs.declared.answer.Verdict.{Verdict}
use Rattle.cert_lines.specs.declared.answer.Verdict.TheVariants.{Best, NoneFeasible, Open}
use Rattle.cert_lines.specs.declared.reject.RejectCause.{RejectCause}
use Rattle.cert_lines.specs.declared.reject.RejectCause.TheVariants.{AssignmentLength, ChoiceNotInDomain, ImperativeBroken, TripleDiffers}
use Rattle.cert_lines.specs.acceptance.LineFaults.{cause_unless}

abbrev pub is_same_choice : Choice → Choice → Bool
is_same_choice a b = (a.freq == b.freq) && int_eq a.pol b.pol

abbrev pub is_same_triple : Triple → Triple → Bool
is_same_triple t u = (t.k == u.k) && ((t.v == u.v) && (t.s == u.s))

-- a choice is one of the path's
abbrev pub is_offered : Path → Choice → Bool
is_offered path c = list_any (is_same_choice c) (choices path)

-- its index among them
abbrev pub index_in : Path → Choice → ℕ
index_in path c = position_or_len (is_same_choice c) (choices path)

-- what a shown plan has for the path at a position
abbrev pub shown_at : List Choice → ℕ → Choice
shown_at shown position = slice_index_or shown position no_choice

-- the indices of a shown plan's choices
unfoldable pub indices : Instance → List Choice → List ℕ
indices instance shown =
    map (λ position. index_in (path_at instance position) (shown_at shown position))
    (range_with_len 0 (length instance.paths))

abbrev pub all_offered : Instance → List Choice → Bool
all_offered instance shown =
    list_all (λ position. is_offered (path_at instance position) (shown_at shown position))
    (range_with_len 0 (length instance.paths))

abbrev pub cost_fault : Triple → Triple → Option RejectCause
cost_fault claimed found = cause_unless (is_same_triple claimed found) (TripleDiffers claimed found)

-- the first fault of a plan that is to cost so much
abbrev pub shown_fault : Instance → List Choice → Triple → Option RejectCause
shown_fault instance shown claimed =
    option_or (cause_unless (length shown == length instance.paths) AssignmentLength)
    (option_or (cause_unless (all_offered instance shown) ChoiceNotInDomain)
    (option_or (cause_unless (meets instance (indices instance shown)) ImperativeBroken)
    (cost_fault claimed (cost instance (indices instance shown)))))

-- what the plan is to cost, where the verdict demands one
abbrev pub demanded : Instance → Verdict → Option Triple
demanded instance (Best t) = Some t
demanded instance NoneFeasible = None
demanded instance (Open best lower level prefix) =
    if is_same_triple best (top_tag instance) then None else Some best

abbrev pub shown_fault_by : Instance → List Choice → Option Triple → Option RejectCause
shown_fault_by instance shown None = cause_unless (length shown == 0) AssignmentLength
shown_fault_by instance shown (Some claimed) = shown_fault instance shown claimed

unfoldable pub plan_fault : Instance → List Choice → Verdict → Option RejectCause
plan_fault instance shown verdict = shown_fault_by instance shown (demanded instance verdict)
