-- A prefix has one number of tries, and the bound on lines is one number.
use Rattle.std.proofs.Common.{◌≡◌, ℕ, ◌+◌, min, List, length, drop, ◌++◌, sum_by, refl, sym, ap, ◌∙◌}
use Rattle.std.specs.List.{range_with_len}
use Rattle.fapp_model.specs.declared.instance.Instance.{Instance}
use Rattle.fapp_model.specs.declared.literal.Literal.{Literal}
use Rattle.fapp_model.specs.declared.triple.Triple.{Triple}
use Rattle.fapp_model.specs.Assignments.{count_at}
use Rattle.fapp_model.specs.search.Dead.{Dead}
use Rattle.fapp_model.specs.Instances.{IsInstance}
use Rattle.fapp_model.specs.search.Jobs.{job_count, job_level, job_prefix, target}
use Rattle.fapp_model.specs.search.LineBound.{IsMostLines, choice_total, tree_size}
use Rattle.fapp_model.specs.search.Prefixes.{IsPrefix}
use Rattle.fapp_model.specs.Tags.{IsTagOf}
use Rattle.fapp_model.specs.search.Tries.{IsTries}
use Rattle.fapp_model.specs.search.WorkOrder.{work_order}
use Rattle.dead_laws.proofs.DeadTests.{dead_or_not}
use Rattle.tries_laws.proofs.Extensions.{along-append}
use Rattle.tries_laws.proofs.JobParts.{job-is, prefixes-all, target-is_tag}
use Rattle.tries_laws.proofs.PrefixParts.{prefix-is_partial}
use Rattle.fapp_model.proofs.Sums.{range-sum-same}
use Rattle.tries_laws.proofs.TriesParts.{sum_over-some, tries-one, tries-some}

pub some-tries : (instance : Instance) (t : Triple) (prefix : List Literal) → IsInstance instance → IsTagOf instance t → IsPrefix instance prefix → (n : ℕ) × IsTries instance t prefix n
some-tries instance t prefix valid tag h =
    tries-some instance (Dead instance t) (drop (length prefix) (work_order instance)) prefix (λ more along.
    dead_or_not instance t (prefix ++ more) valid tag
    (prefix-is_partial instance (prefix ++ more) (along-append instance (work_order instance) prefix more h along)))

pub one-tries : (instance : Instance) (t : Triple) (prefix : List Literal) (m n : ℕ) → IsTries instance t prefix m → IsTries instance t prefix n → m ≡ n
one-tries instance t prefix m n = tries-one (Dead instance t) (count_at instance) (drop (length prefix) (work_order instance)) prefix m n

pub some-most : (instance : Instance) (fuel split : ℕ) → IsInstance instance → (most : ℕ) × IsMostLines instance fuel split most
some-most instance fuel split valid =
    let IsCount : ℕ → ℕ → Type 0 = λ id n. IsTries instance (target (job_level instance id)) (job_prefix instance split id) n in
    let counts = (sum_over-some (job_count instance split) IsCount (λ id l.
    let job = job-is instance split id l in
    some-tries instance (target (job_level instance id)) (job_prefix instance split id) valid
    (target-is_tag instance (job_level instance id) job.in_range)
    ((prefixes-all instance split (job_prefix instance split id)).0 job.planned).0)).1 in (
      choice_total instance + tree_size instance split + 1 + sum_by (λ id. min fuel (counts.part id)) (range_with_len 0 (job_count instance split)),
      record { tries = counts.part; counted = counts.each; total = refl },
    )

pub one-most : (instance : Instance) (fuel split m n : ℕ) → IsMostLines instance fuel split m → IsMostLines instance fuel split n → m ≡ n
one-most instance fuel split m n h k =
    let same = range-sum-same (λ id. min fuel (h.tries id)) (λ id. min fuel (k.tries id)) (job_count instance split) (λ id l.
    ap (min fuel) (one-tries instance (target (job_level instance id)) (job_prefix instance split id) (h.tries id) (k.tries id) (h.counted id l) (k.counted id l))) in
    h.total ∙ (ap (λ s. choice_total instance + tree_size instance split + 1 + s) same ∙ sym k.total)
