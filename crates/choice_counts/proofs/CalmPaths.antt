-- Calm literals, literal by literal and path by path.
use Rattle.std.proofs.Common.{◌≡◌, ◌⊎◌, ◌↔◌, ℕ, ◌+◌, ◌*◌, ◌<◌, ◌≤◌, Bool, true, false, cond, Option, List, length, get_or, refl, sym, ap, ◌∙◌, subst, inl, inr, arith, sum_by, All, Contains}
use Rattle.std.specs.List.{range_with_len}
use Rattle.std.specs.Option.{is_some}
use Rattle.fapp_model.specs.declared.choice.Choice.{Choice}
use Rattle.fapp_model.specs.declared.instance.Instance.{Instance}
use Rattle.fapp_model.specs.declared.literal.Literal.{Literal}
use Rattle.fapp_model.specs.declared.record.Record.{Record}
use Rattle.fapp_model.specs.Assignments.{count_at}
use Rattle.fapp_model.specs.Instances.{IsInstance}
use Rattle.fapp_model.specs.search.Clashes.{clashes}
use Rattle.fapp_model.specs.search.Partials.{IsPartial, literal, names}
use Rattle.fapp_model.specs.search.Weights.{added, between, inside, over_open}
use Rattle.fapp_model.proofs.Anys.{no-member, none-member}
use Rattle.fapp_model.proofs.Sums.{range-sum-same, sum_by-add, sum_by-same-members, sum_by-swap}
use Rattle.fapp_model.proofs.Members.{All-from_members}
use Rattle.fapp_tables.specs.Measures.{both_between, coded_part}
use Rattle.dead_laws.specs.ArcLaws.{IsArcs}
use Rattle.nogood.specs.Partials.{choice_given}
use Rattle.choice_counts.specs.declared.rows.PathTallies.{PathTallies}
use Rattle.choice_counts.specs.declared.totals.Totals.{Totals}
use Rattle.choice_counts.specs.Counts.{rows_of, tally_of, tallies_of}
use Rattle.choice_counts.specs.CountedSums.{IsCountedSum, IsCalm, RemainsAt}
use Rattle.choice_counts.specs.Kept.{AreKept}
use Rattle.choice_counts.specs.Totals.{open_sum}
use Rattle.choice_counts.specs.Tallies.{least_of_tallies, least_part, tallies_at, stuck_part}
use Rattle.choice_counts.proofs.Calm.{bound_is, calm_is, least_sum, stuck_paths}
use Rattle.choice_counts.proofs.Coded.{added_code}
use Rattle.choice_counts.proofs.Remaining.{kept-inside, tally-sum}
use Rattle.choice_counts.proofs.RowMoves.{row_is}
use Rattle.choice_counts.proofs.Slots.{named}
use Rattle.fapp_model.specs.declared.level.TheConstants.{MAX_LEVELS}

-- ---- calm

-- each literal remains against all of them, and some choice of each further path does
pub record StandsAll (instance : Instance) (level : ℕ) (literals : List Literal) : Type 0 where
  pub literals_stand : (a : Literal) → Contains literals a → RemainsAt instance level literals a
  pub remaining : (path : ℕ) → path < length instance.paths → names literals path ≡ false →
      (index : ℕ) × (index < count_at instance path) × RemainsAt instance level literals (literal path index)

pub stands_calm : (instance : Instance) (level : ℕ) (literals : List Literal) → StandsAll instance level literals → IsCalm instance level literals
stands_calm instance level literals stands = record {
  apart = λ a b first second. none-member (clashes instance level a) literals (stands.literals_stand a first).free b second;
  within = λ a member. (stands.literals_stand a member).kept;
  remaining = stands.remaining;
}

pub calm_stands : (instance : Instance) (level : ℕ) (literals : List Literal) → IsCalm instance level literals → StandsAll instance level literals
calm_stands instance level literals calm = record {
  literals_stand = λ a member. record { kept = calm.within a member; free = no-member (clashes instance level a) literals (λ b second. calm.apart a b member second) };
  remaining = calm.remaining;
}

-- ---- the sum

-- over all literals, what each adds against all is twice what they come to
pub twice_inside : (instance : Instance) (measure : Record → Choice → Choice → ℕ) (literals : List Literal) → sum_by (added instance measure literals) literals ≡ inside instance measure literals * 2
twice_inside instance measure literals =
    let row : Literal → ℕ = λ a. sum_by (λ b. between instance measure a b) literals in
    let column : Literal → ℕ = λ a. sum_by (λ b. between instance measure b a) literals in
    let each = sum_by-same-members (added instance measure literals) (λ a. row a + column a) literals (λ k d _. sum_by-add (λ b. between instance measure (get_or literals k d) b) (λ b. between instance measure b (get_or literals k d)) literals) in
    let parts = sum_by-add row column literals in
    let swap = sum_by-swap (λ a b. between instance measure b a) literals literals in
    omega (arith, each, parts, swap)

module _ (instance : Instance) (level : ℕ) (arc : Literal → Bool) (arcs : IsArcs instance level arc) (valid : IsInstance instance) (within : level ≤ MAX_LEVELS) (literals : List Literal) (partial : IsPartial instance literals) where
  -- where the literals are calm, their tallies come to twice their sum
  pub tallies_inside : IsCalm instance level literals → sum_by (tally_of instance level arc literals) literals ≡ inside instance (coded_part level) literals * 2
  tallies_inside calm =
      let stands = calm_stands instance level literals calm in
      sum_by-same-members (tally_of instance level arc literals) (added instance (coded_part level) literals) literals
      (All-from_members (λ a. tally_of instance level arc literals a ≡ added instance (coded_part level) literals a) literals
      (λ a member. tally-sum instance level arc arcs valid within literals partial a (stands.literals_stand a member) ∙ sym (added_code instance level literals a)))
      ∙ twice_inside instance (coded_part level) literals

-- ---- by what is kept

module _ (instance : Instance) (valid : IsInstance instance) (level : ℕ) (within : level ≤ MAX_LEVELS) (literals : List Literal) (partial : IsPartial instance literals) (slots : List (Option ℕ)) (rows : List PathTallies) (totals : Totals)
    (kept : AreKept instance level literals slots rows totals) where
  open_is : (f : ℕ → ℕ) → open_sum f slots rows ≡ over_open instance literals (λ p. f (least_of_tallies (tallies_of instance level kept.arc literals p)))
  open_is f =
      ap (λ n. sum_by (λ p. cond (is_some (choice_given slots p)) 0 (f (tallies_at rows p).least)) (range_with_len 0 n)) kept.counted.held.whole
      ∙ range-sum-same (λ p. cond (is_some (choice_given slots p)) 0 (f (tallies_at rows p).least)) (λ p. cond (names literals p) 0 (f (least_of_tallies (tallies_of instance level kept.arc literals p)))) (length instance.paths)
      (λ p below. ap (λ b. cond b 0 (f (tallies_at rows p).least)) (named instance literals slots kept.counted.held p)
      ∙ ap (λ n. cond (names literals p) 0 (f n)) (ap (λ (rs : List PathTallies). (tallies_at rs p).least) kept.counted.rows_are ∙ ap (λ (r : PathTallies). r.least) (row_is instance level kept.arc literals p below)))

  -- calm is where nothing is counted against the literals
  pub kept_calm : totals.conflicts ≡ 0 → totals.open_paths.stuck ≡ 0 → IsCalm instance level literals
  kept_calm conflicts stuck = (calm_is instance level kept.arc kept.arcs literals valid within partial).1
      (sym kept.counted.conflicts ∙ conflicts, sym (kept.counted.open_paths.stuck ∙ open_is stuck_part) ∙ stuck)

  pub calm_kept : IsCalm instance level literals → (totals.conflicts ≡ 0) × (totals.open_paths.stuck ≡ 0)
  calm_kept calm =
      let parts = (calm_is instance level kept.arc kept.arcs literals valid within partial).0 calm in
      (kept.counted.conflicts ∙ parts.0, (kept.counted.open_paths.stuck ∙ open_is stuck_part) ∙ parts.1)

  -- and then what is counted is the sum
  pub kept_bound : IsCalm instance level literals → (half n : ℕ) → half * 2 ≡ totals.twice_inside → n ≡ half + totals.open_paths.least → IsCountedSum instance level literals n
  kept_bound calm half n even e =
      let is = bound_is instance level kept.arc kept.arcs literals valid within partial calm in
      let least = kept.counted.open_paths.least ∙ open_is least_part in
      let same : inside instance (coded_part level) literals + least_sum instance level kept.arc kept.arcs literals ≡ n = omega (arith, even, e, least, kept.counted.twice_inside) in
      subst (IsCountedSum instance level literals) same is
