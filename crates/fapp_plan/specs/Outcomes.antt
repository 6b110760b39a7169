-- What the jobs of a plan refute.
use Rattle.std.specs.Prelude.{ℕ, ◌+◌, ◌*◌, max, min, nat_le, if◌then◌else◌, List, [], ◌∷◌, length, map, slice_range, Option, Some, None}
use Rattle.std.specs.List.{fold, range_with_len}
use Rattle.fapp_model.specs.declared.instance.Instance.{Instance}
use Rattle.fapp_model.specs.InstanceTags.{IsTagFor}
use Rattle.fapp_model.specs.Levels.{levels_of}
use Rattle.fapp_model.specs.search.Jobs.{prefixes}
use Rattle.cert_lines.specs.acceptance.LineFaults.{first_of}
use Rattle.search_log.specs.declared.line.Ref.{Ref}
use Rattle.search_log.specs.declared.job.Outcome.{Outcome}
use Rattle.search_log.specs.declared.job.Outcome.TheVariants.{Refuted, Moot, Spent}

-- an outcome with the place of its log, where the job has ended
abbrev pub Placed : Type 0
Placed = Option (ℕ × Outcome)

-- the tag of a Refuted outcome, as its code, and else that of (0, 0, 0)
abbrev pub code_of_outcome : Outcome → ℕ
code_of_outcome (Refuted line tag) = tag.code
code_of_outcome (Moot seen) = 0
code_of_outcome Spent = 0

abbrev pub refuted_code : Placed → ℕ
refuted_code None = 0
refuted_code (Some placed) = code_of_outcome placed.1

-- its tag is one of the instance
abbrev pub IsOutcomeFor : Instance → Outcome → Type 0
IsOutcomeFor instance (Refuted line tag) = IsTagFor instance tag
IsOutcomeFor instance (Moot seen) = Unit {0}
IsOutcomeFor instance Spent = Unit {0}

abbrev pub IsPlacedFor : Instance → Placed → Type 0
IsPlacedFor instance None = Unit {0}
IsPlacedFor instance (Some placed) = IsOutcomeFor instance placed.1

-- the greatest of some numbers, or 0
abbrev pub greatest_of : List ℕ → ℕ
greatest_of numbers = fold max 0 numbers

-- the least of some numbers
abbrev pub least_of : List ℕ → ℕ
least_of [] = 0
least_of (n ∷ numbers) = fold min n numbers

-- the outcomes of a prefix's jobs, which stand together
abbrev pub outcomes_at : Instance → List Placed → ℕ → List Placed
outcomes_at instance outcomes place =
    slice_range outcomes (place * (levels_of instance + 1))
    (place * (levels_of instance + 1) + (levels_of instance + 1))

-- the greatest tag at which a prefix is refuted, or (0, 0, 0), as a code
unfoldable pub refuted_at : Instance → List Placed → ℕ → ℕ
refuted_at instance outcomes place =
    greatest_of (map refuted_code (outcomes_at instance outcomes place))

-- the least of these over all prefixes
unfoldable pub refuted_everywhere : Instance → ℕ → List Placed → ℕ
refuted_everywhere instance split outcomes =
    least_of (map (refuted_at instance outcomes)
    (range_with_len 0 (length (prefixes instance split))))

-- where an outcome is Refuted at a tag of at least so much: the place of its log, and what says so
abbrev pub settling_line : ℕ → ℕ → Outcome → Option (ℕ × Ref)
settling_line tag log (Refuted line found) =
    if nat_le tag found.code then Some (log, line) else None
settling_line tag log (Moot seen) = None
settling_line tag log Spent = None

abbrev pub settling : ℕ → Placed → Option (ℕ × Ref)
settling tag None = None
settling tag (Some placed) = settling_line tag placed.0 placed.1

-- the same of the first such outcome of a prefix, by its jobs' numbers
unfoldable pub settled_by : Instance → List Placed → ℕ → ℕ → Option (ℕ × Ref)
settled_by instance outcomes tag place =
    first_of (settling tag) (outcomes_at instance outcomes place)
