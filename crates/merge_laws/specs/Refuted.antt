-- What settles the prefixes of jobs.
use Rattle.std.specs.Prelude.{ℕ, List, Option, Some, None}
use Rattle.fapp_model.specs.declared.instance.Instance.{Instance}
use Rattle.search_log.specs.declared.line.Ref.{Ref}
use Rattle.fapp_plan.specs.Outcomes.{Placed, settled_by}
use Rattle.merge_laws.specs.Stages.{Merged, merged_number}

-- the number of what is named, or 0
abbrev pub number_by : Merged → Option (ℕ × Ref) → ℕ
number_by s None = 0
number_by s (Some place) = merged_number s place.0 place.1

-- the number of the line that settles a prefix, or 0 where it was left out
abbrev pub prefix_number : Instance → List Placed → ℕ → Merged → ℕ → ℕ
prefix_number instance outcomes code s place = number_by s (settled_by instance outcomes code place)
