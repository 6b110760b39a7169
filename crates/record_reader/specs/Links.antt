-- What the whole text refuses.
use Rattle.std.specs.Prelude.{ℕ, ◌&&◌, ◌==◌, nat_lt, List, [], ◌∷◌, ◌++◌, length, sum_by, Option, Some, None, is_some, if◌then◌else◌}
use Rattle.fapp_model.specs.declared.limits.TheConstants.{MAX_CHOICES}
use Rattle.fapp_model.specs.Choices.{choices}
use Rattle.fapp_text.specs.declared.failure.LineFault.{LineFault}
use Rattle.fapp_text.specs.Reading.{fault}
use Rattle.record_reader.specs.declared.cause.Cause.{Cause}
use Rattle.record_reader.specs.declared.cause.Cause.TheVariants.{UnknownDomain, UnknownPath, TooManyChoices}
use Rattle.record_reader.specs.declared.entry.PathEntry.{PathEntry}
use Rattle.record_reader.specs.declared.entry.ConstraintEntry.{ConstraintEntry}
use Rattle.record_reader.specs.declared.entry.Pending.{Pending}
use Rattle.record_reader.specs.declared.entry.Pending.TheVariants as links
use Rattle.record_reader.specs.Contents.{Domains}
use Rattle.record_reader.specs.Instances.{paths_of, place_of, path_of}

abbrev pub choice_count : Domains → PathEntry → ℕ
choice_count domains entry = length (choices (path_of domains entry))

-- its domain has no frequency, or the paths up to it have too many choices
abbrev pub path_link_refusal : Domains → List PathEntry → PathEntry → Option Cause
path_link_refusal domains earlier entry =
    if length (domains entry.domain) == 0 then Some UnknownDomain
    else (if nat_lt MAX_CHOICES (sum_by (choice_count domains) (earlier ++ entry ∷ []))
    then Some TooManyChoices
    else None)

-- one of its numbers is no path's
abbrev pub constraint_link_refusal : List PathEntry → ConstraintEntry → Option Cause
constraint_link_refusal paths entry =
    if is_some (place_of paths entry.first) && is_some (place_of paths entry.second) then None
    else Some UnknownPath

-- what a link is refused for, after earlier ones, among all paths
abbrev pub link_refusal : Domains → List PathEntry → List Pending → Pending → Option Cause
link_refusal domains paths earlier (links.Path entry) =
    path_link_refusal domains (paths_of earlier) entry
link_refusal domains paths earlier (links.Constraint entry) = constraint_link_refusal paths entry

abbrev pub line_of : Pending → ℕ
line_of (links.Path entry) = entry.line
line_of (links.Constraint entry) = entry.line

abbrev pub fault_at : ℕ → Option Cause → Option (LineFault Cause)
fault_at line None = None
fault_at line (Some cause) = Some (fault line cause)

abbrev pub or_later : Option (LineFault Cause) → Option (LineFault Cause) → Option (LineFault Cause)
or_later None later = later
or_later (Some first) later = Some first

-- the first link that is refused
abbrev pub first_link_refusal : Domains → List PathEntry → List Pending → List Pending →
    Option (LineFault Cause)
first_link_refusal domains paths earlier [] = None
first_link_refusal domains paths earlier (link ∷ rest) =
    or_later (fault_at (line_of link) (link_refusal domains paths earlier link))
    (first_link_refusal domains paths (earlier ++ link ∷ []) rest)
