-- All jobs with the places of their workers.
use Rattle.std.specs.Prelude.{◌≡◌, ℕ, ◌+◌, ◌<◌, List, [], ◌∷◌, ◌++◌, length, map, slice_index_or, sum, sum_by, All, Some, None}
use Rattle.fapp_plan.specs.Outcomes.{Placed}
use Rattle.steal_ring.specs.Jobs.{times}
use Rattle.fapp_workers.specs.declared.closing.Work.{Work}
use Rattle.fapp_workers.specs.declared.gather.Put.{Put}
use Rattle.fapp_workers.specs.declared.job.Done.{Done}

abbrev pub put_at : ℕ → Done → Put
put_at place done = record { place = place; done = done }

abbrev pub puts_from : ℕ → List Work → List Put
puts_from place [] = []
puts_from place (work ∷ works) = map (put_at place) work.done.items ++ puts_from (place + 1) works

abbrev pub put_ids : List Put → List ℕ
put_ids puts = map (λ (put : Put). put.done.id) puts

-- each job so far has its outcome, with its place, and its ticks; the others have neither
pub record ArePut (jobs : ℕ) (puts : List Put) (outcomes : List Placed)
    (ticks : List ℕ) : Type 0 where
  pub whole : (length outcomes ≡ jobs) × (length ticks ≡ jobs)
  pub each : All (λ (put : Put). (slice_index_or outcomes put.done.id None
      ≡ Some (put.place, put.done.outcome))
      × (slice_index_or ticks put.done.id 0 ≡ put.done.ticks)) puts
  pub others : (id : ℕ) → id < jobs → times id (put_ids puts) ≡ 0 →
      (slice_index_or outcomes id None ≡ None) × (slice_index_or ticks id 0 ≡ 0)
  pub total : sum ticks ≡ sum_by (λ (put : Put). put.done.ticks) puts
