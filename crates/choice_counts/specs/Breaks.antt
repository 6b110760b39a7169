-- How far a record says the same of two choices.
use Rattle.std.specs.Prelude.{◌≡◌, ℕ, ◌<◌, ◌≤◌, Bool}
use Rattle.fapp_model.specs.declared.record.Record.{Record}
use Rattle.fapp_model.specs.Records.{is_bad, is_broken}
use Rattle.choice_counts.specs.Distances.{far, near}

-- at a distance, and at each further one below the reach
pub record IsSteady (r : Record) (distance reach : ℕ) : Type 0 where
  pub broken : (same : Bool) (d : ℕ) → distance ≤ d → d < reach →
      is_broken r near (far same d) ≡ is_broken r near (far same distance)
  pub bad : (level : ℕ) (same : Bool) (d : ℕ) → distance ≤ d → d < reach →
      is_bad level r near (far same d) ≡ is_bad level r near (far same distance)
