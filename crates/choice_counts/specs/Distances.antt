-- What the records between two paths count in the tallies of their choices.
use Rattle.std.specs.Prelude.{ℕ, ◌+◌, Bool, pos, negsuc, nat_lt, if◌then◌else◌}
use Rattle.fapp_model.specs.declared.choice.Choice.{Choice}
use Rattle.fapp_model.specs.declared.instance.Instance.{Instance}
use Rattle.fapp_tables.specs.Indexes.{between_choices}
use Rattle.fapp_tables.specs.Measures.{coded_part, hard_part}
use Rattle.choice_counts.specs.declared.rows.TheConstants.{HARD}

-- the sum of the pairs, and HARD where some record is hard-bad
abbrev pub tally_by : ℕ → ℕ → ℕ
tally_by hard sum = if nat_lt 0 hard then HARD + sum else sum

-- for a choice of each path
abbrev pub choices_tally : Instance → ℕ → ℕ → ℕ → Choice → Choice → ℕ
choices_tally instance level path other a b =
    tally_by (between_choices instance (hard_part level) path other a b)
    (between_choices instance (coded_part level) path other a b)

-- two choices of one polarization or of two, whose frequencies are so far apart
abbrev pub near : Choice
near = record { freq = 0; pol = pos 1 }

abbrev pub far : Bool → ℕ → Choice
far same distance = record { freq = distance; pol = if same then pos 1 else negsuc 0 }

-- for frequencies so far apart, and polarizations that are one or two
abbrev pub tally_apart : Instance → ℕ → ℕ → ℕ → Bool → ℕ → ℕ
tally_apart instance level path other same distance =
    choices_tally instance level path other near (far same distance)
