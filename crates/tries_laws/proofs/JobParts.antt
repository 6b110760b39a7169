-- Jobs: their depth, their prefixes, their numbers.
use Rattle.std.proofs.Common.{◌≡◌, ◌↔◌, ℕ, zero, suc, ◌+◌, ◌-◌, ◌*◌, ◌/◌, ◌%◌, ◌<◌, ◌≤◌, min, Bool, cond, leb, List, [], ◌∷◌, length, get_or, take, Contains, IsTrue, ap, sym, ◌∙◌, subst, ⊎_elim, arith, mul_comm, mul-le-mul_left, mul-suc, length-take-le}
use Rattle.std.proofs.lemmas.Bool.{cases_Bool, leb-true, le-leb, cases_lt, both_ways}
use Rattle.std.proofs.lemmas.List.Elements.{Contains-get_or}
use Rattle.std.proofs.lemmas.Nat.{div-add-mod', mod_below, div-mul-add, div_below, mod-mul-add}
use Rattle.fapp_model.specs.declared.instance.Instance.{Instance}
use Rattle.fapp_model.specs.declared.limits.TheConstants.{MAX_DEPTH}
use Rattle.fapp_model.specs.declared.literal.Literal.{Literal}
use Rattle.fapp_model.specs.search.Jobs.{IsJob, depth, greatest_to, job_count, job_level, job_number, job_prefix, prefixes, target, ways}
use Rattle.fapp_model.specs.Levels.{levels_of}
use Rattle.fapp_model.specs.search.Prefixes.{IsAlong, IsPrefix}
use Rattle.fapp_model.specs.Tags.{IsTagOf, is_tag}
use Rattle.fapp_model.specs.search.WorkOrder.{work_order}
use Rattle.tries_laws.specs.JobLaws.{IsDepth}
use Rattle.tries_laws.proofs.Lists.{in-choice_lists, from-choice_lists, length-choice_lists}
use Rattle.fapp_model.proofs.WorkOrders.{order-length}

target_tag : (levels level : ℕ) → level ≤ levels → IsTrue (is_tag levels (target level))
target_tag levels level l = le-leb (level + 1) (levels + 1) (omega arith)

pub target-is_tag : (instance : Instance) (level : ℕ) → level ≤ levels_of instance → IsTagOf instance (target level)
target-is_tag instance level l = target_tag (levels_of instance) level l

-- ---- the greatest number that passes

pub greatest-small : (test : ℕ → Bool) (n : ℕ) → greatest_to test n ≤ n
greatest-small test zero = omega arith
greatest-small test (suc n) = ⊎_elim
    (λ yes. rw yes (omega arith))
    (λ no. rw no (let below = greatest-small test n in omega arith))
    (cases_Bool (test (suc n)))

pub greatest-passes : (test : ℕ → Bool) (n : ℕ) → IsTrue (test 0) → IsTrue (test (greatest_to test n))
greatest-passes test zero h = h
greatest-passes test (suc n) h = ⊎_elim
    (λ yes. subst (λ m. IsTrue (test m)) (sym (ap (λ b. cond b (suc n) (greatest_to test n)) yes)) yes)
    (λ no. subst (λ m. IsTrue (test m)) (sym (ap (λ b. cond b (suc n) (greatest_to test n)) no)) (greatest-passes test n h))
    (cases_Bool (test (suc n)))

pub greatest-most : (test : ℕ → Bool) (n m : ℕ) → m ≤ n → IsTrue (test m) → m ≤ greatest_to test n
greatest-most test zero m l h = omega arith
greatest-most test (suc n) m l h = ⊎_elim
    (λ yes. rw yes l)
    (λ no. rw no (⊎_elim
    (λ small. greatest-most test n m (omega arith) h)
    (λ large. absurd (both_ways (test (suc n)) no (let same : m ≡ suc n = omega arith in subst (λ k. IsTrue (test k)) same h)))
    (cases_lt m (suc n))))
    (cases_Bool (test (suc n)))

-- ---- the depth

pub depth-is : (instance : Instance) (split : ℕ) → 1 ≤ split → IsDepth instance split (depth instance split)
unfolding depth
depth-is instance split h =
    let test : ℕ → Bool = λ d. leb (ways instance (take d (work_order instance))) split in
    let most : ℕ = min MAX_DEPTH (length instance.paths) in
    let small = greatest-small test most in
    record {
      most = omega arith;
      paths = omega arith;
      fits = leb-true (ways instance (take (greatest_to test most) (work_order instance))) split (greatest-passes test most (le-leb 1 split h));
    }

pub depth-greatest : (instance : Instance) (split d : ℕ) → IsDepth instance split d → d ≤ depth instance split
unfolding depth
depth-greatest instance split d h =
    let test : ℕ → Bool = λ e. leb (ways instance (take e (work_order instance))) split in
    greatest-most test (min MAX_DEPTH (length instance.paths)) d (let m = h.most in let p = h.paths in omega arith) (le-leb (ways instance (take d (work_order instance))) split h.fits)

pub depth-small : (instance : Instance) (split : ℕ) → depth instance split ≤ length instance.paths
unfolding depth
depth-small instance split =
    let small = greatest-small (λ d. leb (ways instance (take d (work_order instance))) split) (min MAX_DEPTH (length instance.paths)) in
    omega arith

-- ---- prefixes

-- choices along the first few of some paths are choices along all of them
pub along-take : (instance : Instance) (n : ℕ) (paths : List ℕ) (literals : List Literal) → IsAlong instance (take n paths) literals → IsAlong instance paths literals
along-take instance n paths [] h = tt
along-take instance zero paths (a ∷ more) h = absurd h
along-take instance (suc n) [] (a ∷ more) h = h
along-take instance (suc n) (path ∷ paths) (a ∷ more) h = (h.0, h.1, along-take instance n paths more h.2)

pub along-short : (instance : Instance) (n : ℕ) (paths : List ℕ) (literals : List Literal) → IsAlong instance paths literals → length literals ≤ n → IsAlong instance (take n paths) literals
along-short instance n paths [] h l = tt
along-short instance zero paths (a ∷ more) h l = absurd (omega arith)
along-short instance (suc n) [] (a ∷ more) h l = h
along-short instance (suc n) (path ∷ paths) (a ∷ more) h l = (h.0, h.1, along-short instance n paths more h.2 (omega arith))

first_paths : (instance : Instance) (split : ℕ) → length (take (depth instance split) (work_order instance)) ≡ depth instance split
first_paths instance split =
    let small = depth-small instance split in
    length-take-le (depth instance split) (work_order instance) (omega (arith, order-length instance))

pub prefixes-all : (instance : Instance) (split : ℕ) (literals : List Literal) → Contains (prefixes instance split) literals ↔ (IsPrefix instance literals × (length literals ≡ depth instance split))
prefixes-all instance split literals = (
  λ m.
      let r = from-choice_lists instance (take (depth instance split) (work_order instance)) literals m in
      (along-take instance (depth instance split) (work_order instance) literals r.0, r.1 ∙ first_paths instance split),
  λ h. in-choice_lists instance (take (depth instance split) (work_order instance)) literals
      (along-short instance (depth instance split) (work_order instance) literals h.0 (let e = h.1 in omega arith))
      (h.1 ∙ sym (first_paths instance split)),
)

pub prefixes-few : (instance : Instance) (split : ℕ) → 1 ≤ split → length (prefixes instance split) ≤ split
prefixes-few instance split h =
    let fits = (depth-is instance split h).fits in
    omega (arith, length-choice_lists instance (take (depth instance split) (work_order instance)))

-- ---- numbers

place_of : (levels place level : ℕ) → ((levels + 1) * place + (levels - level)) / (levels + 1) ≡ place
place_of levels place level =
    rw (mul_comm (levels + 1) place) (div-mul-add place (levels + 1) (levels - level) (omega arith))

level_of : (levels place level : ℕ) → level ≤ levels → levels - ((levels + 1) * place + (levels - level)) % (levels + 1) ≡ level
level_of levels place level l =
    let rest : ((levels + 1) * place + (levels - level)) % (levels + 1) ≡ levels - level =
    rw (mul_comm (levels + 1) place) (mod-mul-add place (levels + 1) (levels - level) (omega arith)) in
    omega arith

number_below : (levels count place level : ℕ) → place < count → (levels + 1) * place + (levels - level) < (levels + 1) * count
number_below levels count place level l =
    let rows : (levels + 1) * suc place ≤ (levels + 1) * count = mul-le-mul_left (levels + 1) (omega arith) in
    omega (arith, mul-suc (levels + 1) place)

pub job-is : (instance : Instance) (split id : ℕ) → id < job_count instance split → IsJob instance split (job_level instance id) (job_prefix instance split id)
job-is instance split id l = record {
  in_range = omega arith;
  planned = Contains-get_or (prefixes instance split) (id / (levels_of instance + 1)) []
      (div_below id (levels_of instance + 1) (length (prefixes instance split)) (omega arith) (rw (mul_comm (length (prefixes instance split)) (levels_of instance + 1)) l));
}

pub job-below : (instance : Instance) (split place level : ℕ) → place < length (prefixes instance split) → level ≤ levels_of instance → job_number instance place level < job_count instance split
job-below instance split place level l small = number_below (levels_of instance) (length (prefixes instance split)) place level l

pub job-level : (instance : Instance) (place level : ℕ) → level ≤ levels_of instance → job_level instance (job_number instance place level) ≡ level
job-level instance place level l = level_of (levels_of instance) place level l

pub job-prefix : (instance : Instance) (split place level : ℕ) → job_prefix instance split (job_number instance place level) ≡ get_or (prefixes instance split) place []
job-prefix instance split place level = ap (λ n. get_or (prefixes instance split) n []) (place_of (levels_of instance) place level)

number_of : (levels id : ℕ) → (levels + 1) * (id / (levels + 1)) + (levels - (levels - id % (levels + 1))) ≡ id
number_of levels id =
    let whole = div-add-mod' id (levels + 1) in
    let small = mod_below id (levels + 1) (omega arith) in
    rw (mul_comm (levels + 1) (id / (levels + 1))) (omega arith)

pub job-number : (instance : Instance) (id : ℕ) → job_number instance (id / (levels_of instance + 1)) (job_level instance id) ≡ id
job-number instance id = number_of (levels_of instance) id
