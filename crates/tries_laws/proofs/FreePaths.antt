-- Instances without records, of which each path has one choice: they are tried path by path.
use Rattle.std.proofs.Common.{◌≡◌, ℕ, ◌+◌, ◌-◌, ◌*◌, ◌<◌, Bool, false, List, [], ◌∷◌, ◌++◌, length, take, drop, All, sum_by, refl, sym, ap, ◌∙◌, subst, inr, arith, zero-add}
use Rattle.std.specs.List.{range_with_len, list_any}
use Rattle.std.proofs.lemmas.List.{length-drop}
use Rattle.std.proofs.lemmas.List.Elements.{All-head, All-tail, All-append, All-cons, All-nil, All-drop, All-take, All-weaker}
use Rattle.std.proofs.lemmas.Bool.{both_ways}
use Rattle.fapp_model.specs.declared.instance.Instance.{Instance}
use Rattle.fapp_model.specs.declared.literal.Literal.{Literal}
use Rattle.fapp_model.specs.declared.record.Record.{Record}
use Rattle.fapp_model.specs.declared.triple.Triple.{Triple}
use Rattle.fapp_model.specs.Assignments.{count_at}
use Rattle.fapp_model.specs.search.Clashes.{clashes, shares_record}
use Rattle.fapp_model.specs.search.Dead.{Dead}
use Rattle.fapp_model.specs.search.Jobs.{job_count, job_level, job_prefix, target, ways}
use Rattle.fapp_model.specs.search.Partials.{IsLiteral, literal}
use Rattle.fapp_model.specs.search.Prefixes.{IsPrefix}
use Rattle.fapp_model.specs.Tags.{has_limit, least_tag, mode_level}
use Rattle.fapp_model.specs.search.Tries.{IsTries, IsTriesBy}
use Rattle.fapp_model.specs.search.WorkOrder.{work_order}
use Rattle.tries_laws.specs.JobLaws.{IsDepth}
use Rattle.tries_laws.specs.ExampleLaws.{IsWithoutRecords}
use Rattle.tries_laws.proofs.AlivePlans.{IsClear, IsOf, not_dead}
use Rattle.tries_laws.proofs.JobParts.{depth-is, depth-greatest, job-is, prefixes-all}
use Rattle.tries_laws.proofs.PrefixParts.{prefix-is_partial}
use Rattle.fapp_model.proofs.WorkOrders.{order-is, order-length}

any-none : (p : Record → Bool) (rs : List Record) → rs ≡ [] → list_any p rs ≡ false
any-none p rs e = ap (list_any p) e

clear : (instance : Instance) (level : ℕ) → IsWithoutRecords instance → IsClear instance level (λ p. 0)
clear instance level free = record {
  in_range = λ p l. (let one = free.one p l in omega arith);
  apart = λ p q l m. no_clash instance level (literal p 0) (literal q 0) free.records;
  shared = λ p q l h. absurd (both_ways (shares_record instance p q) (any-none (λ r. _) instance.records free.records) h);
}
  where
    no_clash : (instance : Instance) (level : ℕ) (a b : Literal) → instance.records ≡ [] → clashes instance level a b ≡ false
    no_clash instance level a b e = rw e refl

module _ (instance : Instance) (t : Triple) (free : IsWithoutRecords instance) (above : t ≡ least_tag → ⊥) (unlimited : has_limit t ≡ false) where
  pub tried : (paths : List ℕ) (literals : List Literal) → All (λ p. p < length instance.paths) paths → All (IsOf instance (λ p. 0)) literals → IsTriesBy (Dead instance t) (count_at instance) paths literals (length paths + 1)
  tried [] literals small all =
      inr (not_dead instance t (λ p. 0) (clear instance (mode_level t) free) above unlimited literals all, (0, refl, refl))
  tried (path ∷ paths) literals small all =
      let l : path < length instance.paths = All-head (λ p. p < length instance.paths) path paths small in
      let one = free.one path l in
      inr (
        not_dead instance t (λ p. 0) (clear instance (mode_level t) free) above unlimited literals all,
        (
          length paths + 1,
          omega arith,
          record {
            part = λ index. length paths + 1;
            each = λ index below. tried paths (literals ++ literal path index ∷ []) (All-tail (λ p. p < length instance.paths) path paths small)
                (All-append (IsOf instance (λ p. 0)) literals (literal path index ∷ []) all
                (All-cons (IsOf instance (λ p. 0)) (literal path index) [] (record { path = l; choice = omega arith }) (All-nil (IsOf instance (λ p. 0)))));
            sum = sym (zero-add (length paths + 1)) ∙ sym (ap (λ n. sum_by (λ index. length paths + 1) (range_with_len 0 n)) one);
          },
        ),
      )

target-above : (level : ℕ) → target level ≡ least_tag → ⊥
target-above level e = absurd (let k : level + 1 ≡ 0 = ap (λ t. t.k) e in omega arith)

pub free-tries : (instance : Instance) (level : ℕ) (prefix : List Literal) → IsWithoutRecords instance → IsPrefix instance prefix → IsTries instance (target level) prefix (length instance.paths - length prefix + 1)
free-tries instance level prefix free h =
    let part = prefix-is_partial instance prefix h in
    let zeros : All (IsOf instance (λ p. 0)) prefix = All-weaker (IsLiteral instance) (IsOf instance (λ p. 0))
    (λ a l. record { path = l.path; choice = (let one = free.one a.path l.path in let small = l.choice in omega arith) }) prefix part.in_range in
    let rest = drop (length prefix) (work_order instance) in
    let long : length rest + 1 ≡ length instance.paths - length prefix + 1 = omega (arith, length-drop (length prefix) (work_order instance), order-length instance) in
    subst (λ n. IsTriesBy (Dead instance (target level)) (count_at instance) rest prefix n) long
    (tried instance (target level) free (target-above level) refl rest prefix
    (All-drop (λ p. p < length instance.paths) (length prefix) (work_order instance) (order-is instance).in_range) zeros)

one_way : (instance : Instance) → IsWithoutRecords instance → (paths : List ℕ) → All (λ p. p < length instance.paths) paths → ways instance paths ≡ 1
one_way instance free [] small = refl
one_way instance free (path ∷ paths) small =
    ap (λ n. n * ways instance paths) (free.one path (All-head (λ p. p < length instance.paths) path paths small))
    ∙ (let rest = one_way instance free paths (All-tail (λ p. p < length instance.paths) path paths small) in omega arith)

pub most_paths : (instance : Instance) (id : ℕ) → IsWithoutRecords instance → length instance.paths ≡ 8192 → id < job_count instance 64 → IsTries instance (target (job_level instance id)) (job_prefix instance 64 id) 8129
most_paths instance id free many below =
    let enough : IsDepth instance 64 64 = record {
      most = omega arith;
      paths = omega arith;
      fits = (let one = one_way instance free (take 64 (work_order instance)) (All-take (λ p. p < length instance.paths) 64 (work_order instance) (order-is instance).in_range) in omega arith);
    } in
    let deep = depth-greatest instance 64 64 enough in
    let shallow = (depth-is instance 64 (omega arith)).most in
    let job = (prefixes-all instance 64 (job_prefix instance 64 id)).0 (job-is instance 64 id below).planned in
    let long = job.1 in
    subst (λ n. IsTries instance (target (job_level instance id)) (job_prefix instance 64 id) n) (omega arith)
    (free-tries instance (job_level instance id) (job_prefix instance 64 id) free job.0)
