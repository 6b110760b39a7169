-- What the search of one job comes to.
use Rattle.std.proofs.Common.{◌≡◌, ℕ, ◌-◌, ◌≤◌, List, Result, Ok, Err, IfErr, sym, subst, arith}
use Rattle.std.specs.declared.alloc.AllocError.{AllocError}
use Rattle.fapp_model.specs.declared.instance.Instance.{Instance}
use Rattle.fapp_model.specs.declared.literal.Literal.{Literal}
use Rattle.fapp_model.specs.search.Jobs.{job_level, job_prefix}
use Rattle.fapp_plan.specs.Plans.{Split}
use Rattle.search_log.specs.declared.job.Outcome.{Outcome}
use Rattle.search_log.specs.Bounds.{BoundState}
use Rattle.search_log.specs.LogStates.{LogState}
use Rattle.search_log.specs.Shares.{SharedState}
use Rattle.settle_laws.specs.Settling.{Settles}
use Rattle.settle_laws.specs.Worlds.{World, world}
use Rattle.fapp_workers.specs.Jobs.{IsLacking, IsSearched, held}

-- the same search, by the plan's own words
moved : (split : Split) (amount id start rest : ℕ) (instance : Instance) (level : ℕ) (prefix : List Literal) (bound after : BoundState) (shared more : SharedState) (log longer : LogState) (result : Result Outcome AllocError) →
    split.instance ≡ instance → level ≡ job_level split.instance id → prefix ≡ job_prefix split.instance split.split id → start ≡ amount →
    Settles instance level prefix (world start bound shared log) (world rest after more longer) result →
    Settles split.instance (job_level split.instance id) (job_prefix split.instance split.split id) (world amount bound shared log) (world rest after more longer) result
moved split amount id start rest instance level prefix bound after shared more log longer result at level_is prefix_is start_is h =
    let one = subst (λ n. Settles instance level prefix (world n bound shared log) (world rest after more longer) result) start_is h in
    let two = subst (λ i. Settles i level prefix (world amount bound shared log) (world rest after more longer) result) (sym at) one in
    let three = subst (λ q. Settles split.instance q prefix (world amount bound shared log) (world rest after more longer) result) level_is two in
    subst (λ p. Settles split.instance (job_level split.instance id) p (world amount bound shared log) (world rest after more longer) result) prefix_is three

pub lacking-by : (split : Split) (amount id start rest : ℕ) (instance : Instance) (level : ℕ) (prefix : List Literal) (bound after : BoundState) (shared more : SharedState) (log longer : LogState) (lack : AllocError) →
    split.instance ≡ instance → level ≡ job_level split.instance id → prefix ≡ job_prefix split.instance split.split id → start ≡ amount →
    Settles instance level prefix (world start bound shared log) (world rest after more longer) (Err lack) → IsLacking split amount id bound (held bound shared log) (held after more longer)
lacking-by split amount id start rest instance level prefix bound after shared more log longer lack at level_is prefix_is start_is h = record {
  rest = rest;
  lack = lack;
  settles = moved split amount id start rest instance level prefix bound after shared more log longer (Err lack) at level_is prefix_is start_is h;
}

-- what holds for want of memory, whatever is answered
pub if-err : {T E : Type 0} (r : Result T E) (P : Type 0) → P → IfErr r (λ _. P)
if-err (Ok x) P p = tt
if-err (Err e) P p = p

pub searched-by : (split : Split) (amount id start rest ticks : ℕ) (instance : Instance) (level : ℕ) (prefix : List Literal) (bound after : BoundState) (shared more : SharedState) (log longer : LogState) (outcome : Outcome) →
    split.instance ≡ instance → level ≡ job_level split.instance id → prefix ≡ job_prefix split.instance split.split id → start ≡ amount → ticks ≡ amount - rest →
    Settles {E = AllocError} instance level prefix (world start bound shared log) (world rest after more longer) (Ok outcome) →
    IsSearched split amount id bound (held bound shared log) (held after more longer) outcome ticks
searched-by split amount id start rest ticks instance level prefix bound after shared more log longer outcome at level_is prefix_is start_is ticks_are h = record {
  within = omega (arith, ticks_are);
  settles =
      let rest_is : rest ≡ amount - ticks = omega (arith, ticks_are, start_is, h.fuel) in
      subst (λ n. Settles {E = AllocError} split.instance (job_level split.instance id) (job_prefix split.instance split.split id) (world amount bound shared log) (world n after more longer) (Ok outcome)) rest_is
      (moved split amount id start rest instance level prefix bound after shared more log longer (Ok outcome) at level_is prefix_is start_is h);
}
