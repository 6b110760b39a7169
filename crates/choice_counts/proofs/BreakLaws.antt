-- Records that say the same of two choices up to a distance.
use Rattle.std.proofs.Common.{◌≡◌, ℕ, ◌<◌, ◌≤◌, ◌+◌, min, List, length, take, get_or, arith, All}
use Rattle.std.proofs.lemmas.List.Elements.{All-more}
use Rattle.fapp_model.specs.declared.instance.Instance.{Instance}
use Rattle.fapp_model.specs.declared.record.Record.{Record}
use Rattle.fapp_tables.specs.Indexes.{record_at}
use Rattle.choice_counts.specs.Breaks.{IsSteady}

-- up to a lower one too
pub steady_below : (r : Record) (distance reach lower : ℕ) → lower ≤ reach → IsSteady r distance reach → IsSteady r distance lower
steady_below r distance reach lower less steady = record {
  broken = λ same d from below. steady.broken same d from (omega (arith, less, below));
  bad = λ level same d from below. steady.bad level same d from (omega (arith, less, below));
}

-- one position more
pub steady_more : (instance : Instance) (positions : List ℕ) (index distance reach next lower : ℕ) → index < length positions → lower ≡ min reach next →
    All (λ k. IsSteady (record_at instance k) distance reach) (take index positions) → IsSteady (record_at instance (get_or positions index 0)) distance next →
    All (λ k. IsSteady (record_at instance k) distance lower) (take (index + 1) positions)
steady_more instance positions index distance reach next lower inside e all one =
    All-more (λ k. IsSteady (record_at instance k) distance lower) positions index 0 inside
    (λ k d below. steady_below (record_at instance (get_or (take index positions) k d)) distance reach lower (omega (arith, e)) (all k d below))
    (steady_below (record_at instance (get_or positions index 0)) distance next lower (omega (arith, e)) one)
