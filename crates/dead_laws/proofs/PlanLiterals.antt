-- A plan as the list of its literals, and what their records add up to.
use Rattle.std.proofs.Common.{◌≡◌, ℕ, ◌-◌, ◌<◌, Bool, true, false, ◌&&◌, not, cond, List, [], ◌∷◌, length, get_or, refl, sym, ap, ◌∙◌, arith, sum_by, map, All, Contains, IsTrue, eqb, slice_index}
use Rattle.std.specs.List.{range_with_len}
use Rattle.std.proofs.lemmas.Bool.{and_left, and_right, or_from, not-true, eq-eqb}
use Rattle.std.proofs.lemmas.List.Sums.{sum_by-cons, AllPass-from_list_all}
use Rattle.std.proofs.lemmas.List.Elements.{All-contains}
use Rattle.std.proofs.lemmas.List.FromFn.{length-map-range_with_len, get_or-map-range_with_len}
use Rattle.fapp_model.specs.declared.choice.Choice.{Choice}
use Rattle.fapp_model.specs.declared.instance.Instance.{Instance}
use Rattle.fapp_model.specs.declared.literal.Literal.{Literal}
use Rattle.fapp_model.specs.declared.record.Record.{Record}
use Rattle.fapp_model.specs.Assignments.{breaks, chosen, meets, path_at, violates}
use Rattle.fapp_model.specs.Choices.{choice}
use Rattle.fapp_model.specs.search.Clashes.{blocks, clashes, clashes_with, is_hard_bad, joins}
use Rattle.fapp_model.specs.Costs.{sum_under, violations}
use Rattle.fapp_model.specs.Instances.{IsInstance}
use Rattle.fapp_model.specs.search.Modes.{pair_below}
use Rattle.fapp_model.specs.search.Pairs.{Pair}
use Rattle.fapp_model.specs.search.Partials.{choice_of, literal, names, Extends}
use Rattle.fapp_model.specs.Records.{first_path, second_path, is_bad}
use Rattle.fapp_model.specs.search.Weights.{bad_before, bad_further, between, inside, over_open, pair_with}
use Rattle.fapp_model.specs.search.Partials.{HasAll}
use Rattle.fapp_model.proofs.Anys.{no-member}
use Rattle.fapp_model.proofs.Members.{in-range}
use Rattle.dead_laws.proofs.Picks.{AreDistinct, at-names, pick, range_apart}
use Rattle.dead_laws.proofs.RecordEnds.{joins-ends}
use Rattle.fapp_model.proofs.Sums.{none-count_by, sum_by-none, sum_by-same-members, sum_by-swap}
use Rattle.fapp_model.proofs.Members.{All-range}

-- the literals of the first n paths of a plan
abbrev pub plan_literals : ℕ → List ℕ → List Literal
plan_literals n plan = map (λ p. literal p (slice_index plan p)) (range_with_len 0 n)

-- a literal of a plan
abbrev pub IsChosen : List ℕ → Literal → Type 0
IsChosen plan a = slice_index plan a.path ≡ a.choice

plan-at : (n : ℕ) (plan : List ℕ) (k : ℕ) (d : Literal) → k < n → get_or (plan_literals n plan) k d ≡ literal k (slice_index plan k)
plan-at n plan k d h = get_or-map-range_with_len (λ p. literal p (slice_index plan p)) 0 n k k d h (omega arith)

plan-length : (n : ℕ) (plan : List ℕ) → length (plan_literals n plan) ≡ n
plan-length n plan = length-map-range_with_len (λ p. literal p (slice_index plan p)) 0 n

pub plan-contains : (n : ℕ) (plan : List ℕ) (a : Literal) → a.path < n → IsChosen plan a → Contains (plan_literals n plan) a
plan-contains n plan a h own = (a.path, omega (arith, plan-length n plan), plan-at n plan a.path a h ∙ ap (literal a.path) own)

pub plan-member : (n : ℕ) (plan : List ℕ) (a : Literal) → Contains (plan_literals n plan) a → (a.path < n) × IsChosen plan a
plan-member n plan a (k, l, e) =
    let small : k < n = omega (arith, plan-length n plan) in
    let same : literal k (slice_index plan k) ≡ a = sym (plan-at n plan k a small) ∙ e in
    let path : k ≡ a.path = ap (λ (x : Literal). x.path) same in
    (omega arith, ap (slice_index plan) (sym path) ∙ ap (λ (x : Literal). x.choice) same)

pub plan-distinct : (n : ℕ) (plan : List ℕ) → AreDistinct (plan_literals n plan)
plan-distinct n plan = λ i j d less small same.
    let last : j < n = omega (arith, plan-length n plan) in
    let first = ap (λ (x : Literal). x.path) (plan-at n plan i d (omega arith)) in
    let second = ap (λ (x : Literal). x.path) (plan-at n plan j d last) in
    omega arith

pub plan-has : (n : ℕ) (plan : List ℕ) (literals : List Literal) → All (λ (a : Literal). a.path < n) literals → Extends plan literals → HasAll (plan_literals n plan) literals
plan-has n plan literals small extends = λ k d l. plan-contains n plan (get_or literals k d) (small k d l) (extends k d l)

pub plan-small : (n : ℕ) (plan : List ℕ) → All (λ (a : Literal). a.path < n) (plan_literals n plan)
plan-small n plan = λ k d l.
    let small : k < n = omega (arith, plan-length n plan) in
    omega (arith, ap (λ (x : Literal). x.path) (plan-at n plan k d small))

pub plan-names : (n : ℕ) (plan : List ℕ) (path : ℕ) → path < n → names (plan_literals n plan) path ≡ true
plan-names n plan path h = at-names (plan_literals n plan) (literal path (slice_index plan path)) (plan-contains n plan (literal path (slice_index plan path)) h refl)

sum_by-map : {X Y : Type 0} (g : Y → ℕ) (f : X → Y) (xs : List X) → sum_by g (map f xs) ≡ sum_by (λ x. g (f x)) xs
sum_by-map g f [] = refl
sum_by-map g f (x ∷ xs) =
    let rest = sum_by-map g f xs in
    omega (arith, sum_by-cons g (f x) (map f xs), sum_by-cons (λ x. g (f x)) x xs)

cond-and : (x y : Bool) (n : ℕ) → cond (x && y) n 0 ≡ cond x (cond y n 0) 0
cond-and true y n = refl
cond-and false y n = refl

sum_by-when : {X : Type 0} (b : Bool) (g : X → ℕ) (xs : List X) → sum_by (λ x. cond b (g x) 0) xs ≡ cond b (sum_by g xs) 0
sum_by-when true g xs = refl
sum_by-when false g xs = sum_by-none (λ x. 0) xs (λ k d l. refl)

-- of all pairs of paths a record joins one
one-pair : (n : ℕ) (value : ℕ → ℕ → ℕ) (first second : ℕ) → first < n → second < n → sum_by (λ p. sum_by (λ q. cond (eqb first p && eqb second q) (value p q) 0) (range_with_len 0 n)) (range_with_len 0 n) ≡ value first second
one-pair n value first second hf hs =
    sum_by-same-members (λ p. sum_by (λ q. cond (eqb first p && eqb second q) (value p q) 0) (range_with_len 0 n)) (λ p. cond (eqb first p) (sum_by (λ q. cond (eqb second q) (value p q) 0) (range_with_len 0 n)) 0) (range_with_len 0 n) (λ k d l. row (get_or (range_with_len 0 n) k d))
    ∙ (pick (λ p. eqb first p) (λ p. sum_by (λ q. cond (eqb second q) (value p q) 0) (range_with_len 0 n)) (range_with_len 0 n) first (in-range n first hf) (eq-eqb first first refl) (range_apart n first)
    ∙ pick (λ q. eqb second q) (λ q. value first q) (range_with_len 0 n) second (in-range n second hs) (eq-eqb second second refl) (range_apart n second))
  where
    row : (p : ℕ) → sum_by (λ q. cond (eqb first p && eqb second q) (value p q) 0) (range_with_len 0 n) ≡ cond (eqb first p) (sum_by (λ q. cond (eqb second q) (value p q) 0) (range_with_len 0 n)) 0
    row p = sum_by-same-members (λ q. cond (eqb first p && eqb second q) (value p q) 0) (λ q. cond (eqb first p) (cond (eqb second q) (value p q) 0) 0) (range_with_len 0 n) (λ k d l. cond-and (eqb first p) (eqb second (get_or (range_with_len 0 n) k d)) (value p (get_or (range_with_len 0 n) k d)))
        ∙ sum_by-when (eqb first p) (λ q. cond (eqb second q) (value p q) 0) (range_with_len 0 n)

-- over all literals of a plan each record counts once
pub plan-inside : (instance : Instance) (plan : List ℕ) (measure : Record → Choice → Choice → ℕ) → IsInstance instance → inside instance measure (plan_literals (length instance.paths) plan) ≡ sum_by (λ r. measure r (chosen instance plan (first_path r)) (chosen instance plan (second_path r))) instance.records
plan-inside instance plan measure v =
    let n = length instance.paths in
    let range = range_with_len 0 n in
    sum_by-map (λ a. sum_by (λ b. between instance measure a b) (plan_literals n plan)) (λ p. literal p (slice_index plan p)) range
    ∙ (sum_by-same-members (λ p. sum_by (λ b. between instance measure (literal p (slice_index plan p)) b) (plan_literals n plan)) (λ p. sum_by (λ r. sum_by (λ q. term r p q) range) instance.records) range (λ k d l. column (get_or range k d))
    ∙ (sum_by-swap (λ p r. sum_by (λ q. term r p q) range) range instance.records
    ∙ sum_by-same-members (λ r. sum_by (λ p. sum_by (λ q. term r p q) range) range) (λ r. measure r (chosen instance plan (first_path r)) (chosen instance plan (second_path r))) instance.records
    (λ k d l. one-pair n (λ p q. measure (get_or instance.records k d) (chosen instance plan p) (chosen instance plan q)) (first_path (get_or instance.records k d)) (second_path (get_or instance.records k d)) (v.records k d l).first (v.records k d l).second)))
  where
    term : Record → ℕ → ℕ → ℕ
    term r p q = cond (joins p q r) (measure r (chosen instance plan p) (chosen instance plan q)) 0

    column : (p : ℕ) → sum_by (λ b. between instance measure (literal p (slice_index plan p)) b) (plan_literals (length instance.paths) plan) ≡ sum_by (λ r. sum_by (λ q. term r p q) (range_with_len 0 (length instance.paths))) instance.records
    column p =
        sum_by-map (λ b. between instance measure (literal p (slice_index plan p)) b) (λ q. literal q (slice_index plan q)) (range_with_len 0 (length instance.paths))
        ∙ sum_by-swap (λ q r. term r p q) (range_with_len 0 (length instance.paths)) instance.records

pub plan-before : (instance : Instance) (plan : List ℕ) (level : ℕ) → IsInstance instance → inside instance (bad_before level) (plan_literals (length instance.paths) plan) ≡ violations instance plan (level - 1)
plan-before instance plan level v = plan-inside instance plan (bad_before level) v

pub plan-further : (instance : Instance) (plan : List ℕ) (level : ℕ) → IsInstance instance → inside instance (bad_further level) (plan_literals (length instance.paths) plan) ≡ sum_under (violations instance plan) (level - 1)
unfolding sum_under
plan-further instance plan level v =
    plan-inside instance plan (bad_further level) v
    ∙ sum_by-swap (λ r m. cond (is_bad m r (chosen instance plan (first_path r)) (chosen instance plan (second_path r))) 1 0) instance.records (range_with_len 0 (level - 1))

-- a list that names each path leaves none open
pub none-open : (instance : Instance) (literals : List Literal) → ((path : ℕ) → path < length instance.paths → names literals path ≡ true) → (h : ℕ → ℕ) → over_open instance literals h ≡ 0
none-open instance literals full h = sum_by-none (λ p. cond (names literals p) 0 (h p)) (range_with_len 0 (length instance.paths))
    (All-range (λ p. ◌≡◌ {A = ℕ} (cond (names literals p) 0 (h p)) 0) (length instance.paths) (λ p small. ap (λ b. cond b 0 (h p)) (full p small)))

pub same-pair : (p q : Pair) → p.v ≡ q.v → p.s ≡ q.s → p ≡ q
same-pair p q e f = ap (λ v. let r : Pair = record { v = v; s = p.s } in r) e ∙ ap (λ s. let r : Pair = record { v = q.v; s = s } in r) f

-- the pair of a plan's literals is that of its violations
pub plan-pair : (instance : Instance) (plan : List ℕ) (level : ℕ) → IsInstance instance → (fewest : ℕ → Pair) → pair_with instance level (plan_literals (length instance.paths) plan) fewest ≡ pair_below instance plan level
plan-pair instance plan level v fewest =
    let full = plan-names (length instance.paths) plan in
    same-pair _ _
    (omega (arith, plan-before instance plan level v, none-open instance (plan_literals (length instance.paths) plan) full (λ path. (fewest path).v)))
    (omega (arith, plan-further instance plan level v, none-open instance (plan_literals (length instance.paths) plan) full (λ path. (fewest path).s)))

-- no record is hard-bad between choices of a plan that meets the imperative records and has no violation at a level
pub chosen-is : (instance : Instance) (plan : List ℕ) (a : Literal) (path : ℕ) → IsChosen plan a → path ≡ a.path → choice_of instance a ≡ chosen instance plan path
chosen-is instance plan a path own e = ap (choice (path_at instance a.path)) (sym own) ∙ ap (chosen instance plan) (sym e)

module _ (instance : Instance) (plan : List ℕ) (level : ℕ) (met : IsTrue (meets instance plan)) (clear : violations instance plan level ≡ 0) where
  good-record : (r : Record) → Contains instance.records r → is_hard_bad level r (chosen instance plan (first_path r)) (chosen instance plan (second_path r)) ≡ false
  good-record r c =
      or_from (breaks instance plan r) (violates instance plan level r)
      (not-true (breaks instance plan r) (All-contains (λ r. not (breaks instance plan r) ≡ true) instance.records r (AllPass-from_list_all (λ r. not (breaks instance plan r)) instance.records met) c))
      (All-contains (λ r. violates instance plan level r ≡ false) instance.records r (none-count_by (violates instance plan level) instance.records clear) c)

  pub plan-blocks : (a b : Literal) → IsChosen plan a → IsChosen plan b → blocks instance level a b ≡ false
  plan-blocks a b own also = no-member (λ r. joins a.path b.path r && is_hard_bad level r (choice_of instance a) (choice_of instance b)) instance.records (λ r c. by_join r c (joins a.path b.path r) refl)
    where
      by_join : (r : Record) → Contains instance.records r → (t : Bool) → joins a.path b.path r ≡ t → (joins a.path b.path r && is_hard_bad level r (choice_of instance a) (choice_of instance b)) ≡ false
      by_join r c false e = and_left (joins a.path b.path r) (is_hard_bad level r (choice_of instance a) (choice_of instance b)) e
      by_join r c true e =
          let ends = joins-ends a.path b.path r e in
          let first = chosen-is instance plan a (first_path r) own ends.0 in
          let second = chosen-is instance plan b (second_path r) also ends.1 in
          and_right (joins a.path b.path r) (is_hard_bad level r (choice_of instance a) (choice_of instance b))
          (ap (λ x. is_hard_bad level r x (choice_of instance b)) first ∙ (ap (λ y. is_hard_bad level r (chosen instance plan (first_path r)) y) second ∙ good-record r c))

  pub plan-apart : (a b : Literal) → IsChosen plan a → IsChosen plan b → clashes instance level a b ≡ false
  plan-apart a b own also = or_from (blocks instance level a b) (blocks instance level b a) (plan-blocks a b own also) (plan-blocks b a also own)

  pub plan-free : (literals : List Literal) (a : Literal) → Extends plan literals → IsChosen plan a → clashes_with instance level literals a ≡ false
  plan-free literals a extends own = no-member (clashes instance level a) literals (λ b c. plan-apart a b own (All-contains (IsChosen plan) literals b extends c))
