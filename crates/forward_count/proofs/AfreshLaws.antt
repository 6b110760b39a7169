-- What is counted afresh is what the definitions say.
use Rattle.std.proofs.Common.{◌≡◌, ◌↔◌, ℕ, ◌+◌, ◌<◌, ◌≤◌, ◌/◌, suc, [], Bool, cond, true, false, ltb, min, Option, List, get_or, take, length, map, sym, ap, ◌∙◌, subst, arith, sum_by, IsTrue, zero-add}
use Rattle.std.specs.List.{range_with_len}
use Rattle.std.specs.Option.{is_some}
use Rattle.std.proofs.lemmas.Bool.{both_ways, lt-ltb, ltb-true}
use Rattle.std.proofs.lemmas.List.{take_more}
use Rattle.std.proofs.lemmas.List.Elements.{All-contains}
use Rattle.std.proofs.lemmas.List.FromFn.{map-range_with_len_more}
use Rattle.std.proofs.lemmas.List.Sums.{sum_by_push}
use Rattle.dead_laws.specs.ArcLaws.{IsArcs}
use Rattle.dead_laws.proofs.DeadTests.{arcs-of}
use Rattle.fapp_model.specs.declared.instance.Instance.{Instance}
use Rattle.fapp_model.specs.declared.literal.Literal.{Literal}
use Rattle.fapp_model.specs.search.Partials.{names}
use Rattle.fapp_model.proofs.Members.{All-from_members}
use Rattle.fapp_model.specs.search.Weights.{inside, over_open}
use Rattle.fapp_tables.specs.Indexes.{neighbours_of}
use Rattle.fapp_tables.specs.Measures.{coded_part}
use Rattle.nogood.specs.Partials.{choice_given}
use Rattle.choice_counts.specs.Counts.{pair_tally, slot_part, tally_of, tallies_of}
use Rattle.choice_counts.specs.declared.rows.TheConstants.{HARD}
use Rattle.choice_counts.specs.CountedSums.{IsCountedSum, IsCalm, RemainsAt}
use Rattle.choice_counts.specs.ForwardStates.{ForwardState}
use Rattle.choice_counts.specs.Tallies.{least_of_tallies, least_part}
use Rattle.choice_counts.proofs.Bounds.{few_literals}
use Rattle.choice_counts.proofs.BySlots.{by_neighbours}
use Rattle.choice_counts.proofs.Least.{least_push}
use Rattle.choice_counts.proofs.Calm.{bound_is, least_sum}
use Rattle.choice_counts.proofs.CalmPaths.{calm_stands, stands_calm, tallies_inside}
use Rattle.choice_counts.proofs.DeadByBound.{level_few}
use Rattle.choice_counts.proofs.OneMore.{tally_sum}
use Rattle.choice_counts.proofs.OpenSums.{range_sum_more}
use Rattle.choice_counts.proofs.Remaining.{least-found, remains-tally, some-left, tally-remains}
use Rattle.choice_counts.proofs.Slots.{named}
use Rattle.forward_count.specs.Forwards.{IsAfresh}
use Rattle.forward_count.specs.Standing.{AllHaveLeft, AllStand, HasLeft}
use Rattle.fapp_model.specs.declared.level.TheConstants.{MAX_LEVELS}

abbrev state_of : Instance → ℕ → List Literal → ForwardState
state_of i k ls = record { instance = i; level = k; pushed = ls }

module _ (instance : Instance) (level : ℕ) (pushed : List Literal) (slots : List (Option ℕ)) (f : IsAfresh instance level pushed slots) (st : ForwardState) (e : record { instance = instance; level = level; pushed = pushed } ≡ st) where
  -- a choice's tally, by its neighbours
  pub tally_is : (a : Literal) (n : ℕ) → ((arc : Literal → Bool) → IsArcs instance level arc → n ≡ tally_of instance level arc [] a + sum_by (λ p. slot_part (pair_tally instance level a) p (choice_given slots p)) (neighbours_of instance a.path)) →
      (arc : Literal → Bool) → IsArcs st.instance st.level arc → n ≡ tally_of st.instance st.level arc st.pushed a
  tally_is a n known arc arcs =
      let here : IsArcs instance level arc = subst (λ (s : ForwardState). IsArcs s.instance s.level arc) (sym e) arcs in
      let sums = by_neighbours instance pushed slots f.held f.partial level a in
      let tally : n ≡ tally_of instance level arc pushed a = known arc here ∙ (ap (λ m. tally_of instance level arc [] a + m) (sym sums) ∙ sym (tally_sum instance level arc pushed a)) in
      subst (λ (s : ForwardState). n ≡ tally_of s.instance s.level arc s.pushed a) e tally

pub least_map : (f : ℕ → ℕ) (n t w u : ℕ) → t ≡ least_of_tallies (map f (range_with_len 0 n)) → w ≡ f n → u ≡ min t w → u ≡ least_of_tallies (map f (range_with_len 0 (n + 1)))
least_map f n t w u before tally e =
    e ∙ (ap (λ x. min x w) before ∙ (ap (min (least_of_tallies (map f (range_with_len 0 n)))) tally
    ∙ (sym (least_push (map f (range_with_len 0 n)) (f n)) ∙ ap least_of_tallies (sym (map-range_with_len_more f 0 n n (zero-add n))))))

-- what is kept of the fields is so of the state that callers see
pub seen : (instance : Instance) (level : ℕ) (pushed : List Literal) (slots : List (Option ℕ)) → IsAfresh instance level pushed slots → (st : ForwardState) → record { instance = instance; level = level; pushed = pushed } ≡ st → IsAfresh st.instance st.level st.pushed slots
seen instance level pushed slots f st e = subst (λ (s : ForwardState). IsAfresh s.instance s.level s.pushed slots) e f

module _ (instance : Instance) (level : ℕ) (pushed : List Literal) (slots : List (Option ℕ)) (f : IsAfresh instance level pushed slots) where
  within : level ≤ MAX_LEVELS
  within = level_few instance level f.low

  test : (arc : Literal → Bool) × IsArcs instance level arc
  test = arcs-of instance level f.valid

  pub remains_is : (a : Literal) (n : ℕ) → ((arc : Literal → Bool) → IsArcs instance level arc → n ≡ tally_of instance level arc pushed a) → IsTrue (ltb n HARD) ↔ RemainsAt instance level pushed a
  remains_is a n known =
      let tally = known test.0 test.1 in (
        λ low. tally-remains instance level test.0 test.1 f.valid within pushed f.partial a (omega (arith, tally, ltb-true n HARD low)),
        λ r. lt-ltb n HARD (omega (arith, tally, remains-tally instance level test.0 test.1 f.valid within pushed f.partial a r)),
      )

  pub left_is : (path n : ℕ) → is_some (choice_given slots path) ≡ false → ((arc : Literal → Bool) → IsArcs instance level arc → n ≡ least_of_tallies (tallies_of instance level arc pushed path)) → IsTrue (ltb n HARD) ↔ HasLeft instance level pushed path
  left_is path n free known =
      let least = known test.0 test.1 in
      let unset : names pushed path ≡ false = sym (named instance pushed slots f.held path) ∙ free in (
        λ low _. let found = least-found instance level test.0 test.1 f.valid within pushed f.partial path (omega (arith, least, ltb-true n HARD low)) in (found.1.index, found.1.in_range, found.1.remains),
        λ h. let choice = h unset in lt-ltb n HARD (omega (arith, least, some-left instance level test.0 test.1 f.valid within pushed f.partial path choice.0 choice.1 choice.2)),
      )

  pub left_taken : (path : ℕ) → is_some (choice_given slots path) ≡ true → HasLeft instance level pushed path
  left_taken path taken = λ free. absurd (both_ways (names pushed path) free (sym (named instance pushed slots f.held path) ∙ taken))

pub calm_both : (instance : Instance) (level : ℕ) (pushed : List Literal) → AllStand instance level pushed → AllHaveLeft instance level pushed → IsCalm instance level pushed
calm_both instance level pushed stand left = stands_calm instance level pushed (record { literals_stand = λ a member. All-contains (RemainsAt instance level pushed) pushed a stand member; remaining = left })

pub calm_stand : (instance : Instance) (level : ℕ) (pushed : List Literal) → IsCalm instance level pushed → AllStand instance level pushed
calm_stand instance level pushed calm = All-from_members (RemainsAt instance level pushed) pushed (calm_stands instance level pushed calm).literals_stand

pub calm_left : (instance : Instance) (level : ℕ) (pushed : List Literal) → IsCalm instance level pushed → AllHaveLeft instance level pushed
calm_left instance level pushed calm = calm.remaining

-- ---- sums

pub open_taken : (b : Bool) (n : ℕ) → b ≡ true → 0 ≡ cond b 0 n
open_taken b n e = sym (ap (λ t. cond t 0 n) e)

pub open_low : (b : Bool) (r n : ℕ) → b ≡ false → r ≡ n → r < HARD → r ≡ cond b 0 (least_part n)
open_low b r n free e low = e ∙ (sym (ap (λ t. cond t n 0) (lt-ltb n HARD (omega (arith, e, low)))) ∙ sym (ap (λ t. cond t 0 (least_part n)) free))

pub range_next : (g : ℕ → ℕ) (n s t : ℕ) → s ≡ sum_by g (range_with_len 0 n) → t ≡ g n → s + t ≡ sum_by g (range_with_len 0 (n + 1))
range_next g n s t before here =
    let one : n + 1 ≡ suc n = omega arith in
    let more = ap (λ k. sum_by g (range_with_len 0 k)) one ∙ range_sum_more g n in
    omega (arith, before, here, more)

pub take_next : (g : Literal → ℕ) (xs : List Literal) (i s t : ℕ) (d : Literal) → i < length xs → s ≡ sum_by g (take i xs) → t ≡ g (get_or xs i d) → s + t ≡ sum_by g (take (i + 1) xs)
take_next g xs i s t d inside before here =
    let more = ap (sum_by g) (take_more xs i d inside) ∙ sum_by_push g (take i xs) (get_or xs i d) in
    omega (arith, before, here, more)

module _ (instance : Instance) (level : ℕ) (pushed : List Literal) (slots : List (Option ℕ)) (f : IsAfresh instance level pushed slots) where
  low : level ≤ MAX_LEVELS
  low = level_few instance level f.low

  -- a literal's tally is small where all are calm
  pub calm_small : IsCalm instance level pushed → (i : ℕ) (d : Literal) → i < length pushed → (n : ℕ) → ((arc : Literal → Bool) → IsArcs instance level arc → n ≡ tally_of instance level arc pushed (get_or pushed i d)) → n < HARD
  calm_small calm i d inside n known = ltb-true n HARD ((remains_is instance level pushed slots f (get_or pushed i d) n known).1 (calm_stand instance level pushed calm i d inside))

  pub few_pushed : length pushed ≤ 8192
  few_pushed = omega (arith, few_literals instance pushed f.partial, f.valid.few_paths)

  pub sum_is : IsCalm instance level pushed → (twice half least n : ℕ) → ((arc : Literal → Bool) → IsArcs instance level arc → twice ≡ sum_by (tally_of instance level arc pushed) pushed) →
      ((arc : Literal → Bool) → IsArcs instance level arc → least ≡ over_open instance pushed (λ path. least_part (least_of_tallies (tallies_of instance level arc pushed path)))) →
      half ≡ twice / 2 → n ≡ half + least → IsCountedSum instance level pushed n
  sum_is calm twice half least n tallies open_tallies halved e =
      let arcs = arcs-of instance level f.valid in
      let is = bound_is instance level arcs.0 arcs.1 pushed f.valid low f.partial calm in
      let doubled = tallies arcs.0 arcs.1 ∙ tallies_inside instance level arcs.0 arcs.1 f.valid low pushed f.partial calm in
      let rest = open_tallies arcs.0 arcs.1 in
      let same : inside instance (coded_part level) pushed + least_sum instance level arcs.0 arcs.1 pushed ≡ n = omega (arith, doubled, halved, rest, e) in
      subst (IsCountedSum instance level pushed) same is
