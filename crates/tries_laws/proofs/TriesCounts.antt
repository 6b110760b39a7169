-- Tries count the lists that are not dead, of each set that has with each list the ones before it.
use Rattle.std.proofs.Common.{◌≡◌, ◌≢◌, ◌⊎◌, ℕ, zero, suc, ◌+◌, ◌-◌, ◌<◌, ◌≤◌, Bool, true, cond, ◌&&◌, eqb, ltb, List, [], ◌∷◌, ◌++◌, length, get_or, take, drop, filter, All, AllPairs, Contains, sum_by, count_by, refl, sym, ap, subst, ◌∙◌, inl, inr, ⊎_elim, arith, append-nil, append_assoc}
use Rattle.std.specs.List.{range_with_len}
use Rattle.std.proofs.lemmas.Bool.{cases_lt, and_parts, and_from, ltb-true, eqb-true, lt-ltb, eq-eqb}
use Rattle.std.proofs.lemmas.List.{length-append, length-take-le, get_or-take, get_or_at}
use Rattle.std.proofs.lemmas.List.Elements.{All-head, All-tail, All-contains}
use Rattle.std.proofs.lemmas.List.Sums.{sum_by-cons, length-filter}
use Rattle.fapp_model.specs.declared.instance.Instance.{Instance}
use Rattle.fapp_model.specs.declared.literal.Literal.{Literal}
use Rattle.fapp_model.specs.Assignments.{count_at}
use Rattle.fapp_model.specs.search.Partials.{literal}
use Rattle.fapp_model.specs.search.Prefixes.{IsAlong}
use Rattle.fapp_model.specs.search.Tries.{IsSumOver, IsOneAndBelow, IsTriesBy}
use Rattle.fapp_model.proofs.Members.{at_front, behind, All-from_members, in-filter, from-filter}
use Rattle.fapp_model.proofs.InOrder.{pairs-head, pairs-filter}
use Rattle.fapp_model.proofs.Sums.{sum_by-same-members, sum_by-add, range-sum-le, range-sum-part}

-- ---- counting by parts

-- a list of which each two members are one has at most one
pub short : {X : Type 0} (xs : List X) → AllPairs (λ a b. a ≢ b) xs → ((a b : X) → Contains xs a → Contains xs b → a ≡ b) → length xs ≤ 1
short [] apart one = omega arith
short (a ∷ []) apart one = omega arith
short (a ∷ b ∷ more) apart one =
    let m : Contains (a ∷ b ∷ more) b = behind a (b ∷ more) b (at_front b more) in
    absurd (All-head (λ z. a ≢ z) b more (pairs-head (λ u v. u ≢ v) a (b ∷ more) apart) (one a b (at_front a (b ∷ more)) m))

one_or_more : {X : Type 0} (p : X → Bool) (at : ℕ → X → Bool) (count : ℕ) (x : X) → (p x ≡ true) ⊎ ((i : ℕ) × (i < count) × (at i x ≡ true)) → 1 ≤ cond (p x) 1 0 + sum_by (λ i. cond (at i x) 1 0) (range_with_len 0 count)
one_or_more p at count x (inl passes) = rw passes (omega arith)
one_or_more p at count x (inr h) =
    let part = range-sum-part (λ i. cond (at i x) 1 0) count h.0 h.1 in
    let one : ◌≡◌ {A = ℕ} (cond (at h.0 x) 1 0) 1 = ap (λ b. cond b 1 0) h.2 in
    omega arith

-- each member passes one test, or one of some more
pub counted : {X : Type 0} (p : X → Bool) (at : ℕ → X → Bool) (count : ℕ) (xs : List X) → All (λ x. (p x ≡ true) ⊎ ((i : ℕ) × (i < count) × (at i x ≡ true))) xs → length xs ≤ count_by p xs + sum_by (λ i. count_by (at i) xs) (range_with_len 0 count)
counted p at count [] h = omega arith
counted {X} p at count (x ∷ xs) h =
    let Passes : X → Type 0 = λ y. (p y ≡ true) ⊎ ((i : ℕ) × (i < count) × (at i y ≡ true)) in
    let rest = counted p at count xs (All-tail Passes x xs h) in
    let here = one_or_more p at count x (All-head Passes x xs h) in
    let split = sum_by-same-members (λ i. count_by (at i) (x ∷ xs)) (λ i. cond (at i x) 1 0 + count_by (at i) xs) (range_with_len 0 count) (λ k d l. sum_by-cons (λ y. cond (at (get_or (range_with_len 0 count) k d) y) 1 0) x xs) in
    let added = sum_by-add (λ i. cond (at i x) 1 0) (λ i. count_by (at i) xs) (range_with_len 0 count) in
    omega (arith, sum_by-cons (λ y. cond (p y) 1 0) x xs)

-- ---- lists that go on from one along some paths

pub record Follows (instance : Instance) (paths : List ℕ) (start literals : List Literal) : Type 0 where
  pub more : List Literal
  pub is : literals ≡ start ++ more
  pub along : IsAlong instance paths more

pub record Tried (instance : Instance) (IsDead : List Literal → Type 0) (paths : List ℕ) (start : List Literal) (tried : List (List Literal)) : Type 0 where
  pub apart : AllPairs (λ a b. a ≢ b) tried
  pub follow : All (Follows instance paths start) tried
  pub alive : All (λ literals. IsDead literals → ⊥) tried
  pub closed : All (λ literals. length start < length literals → Contains tried (take (length literals - 1) literals)) tried

abbrev is_start : List Literal → List Literal → Bool
is_start start literals = eqb (length literals) (length start)

-- the choice right behind the start is of the index
abbrev goes_by : List Literal → ℕ → List Literal → Bool
goes_by start index literals = ltb (length start) (length literals) && eqb (get_or literals (length start) (literal 0 0)).choice index

none_more : (start more literals : List Literal) → literals ≡ start ++ more → length literals ≡ length start → literals ≡ start
none_more start [] literals e l = e ∙ append-nil start
none_more start (a ∷ more) literals e l = absurd (omega (arith, ap length e, length-append start (a ∷ more)))

start_or_on : (instance : Instance) (path : ℕ) (paths : List ℕ) (start more literals : List Literal) → literals ≡ start ++ more → IsAlong instance (path ∷ paths) more → (is_start start literals ≡ true) ⊎ ((i : ℕ) × (i < count_at instance path) × (goes_by start i literals ≡ true))
start_or_on instance path paths start [] literals e along = inl (eq-eqb (length literals) (length start) (ap length (e ∙ append-nil start)))
start_or_on instance path paths start (a ∷ more) literals e along =
    let long : length start < length literals = omega (arith, ap length e, length-append start (a ∷ more)) in
    let at : get_or literals (length start) (literal 0 0) ≡ a = ap (λ z. get_or z (length start) (literal 0 0)) e ∙ get_or_at start a more (literal 0 0) (length start) refl in
    inr (
      a.choice,
      along.1,
      and_from (ltb (length start) (length literals)) (eqb (get_or literals (length start) (literal 0 0)).choice a.choice) (lt-ltb (length start) (length literals) long)
          (eq-eqb (get_or literals (length start) (literal 0 0)).choice a.choice (ap (λ z. z.choice) at)),
    )

on_by : (instance : Instance) (path : ℕ) (paths : List ℕ) (start more literals : List Literal) (index : ℕ) → literals ≡ start ++ more → IsAlong instance (path ∷ paths) more → goes_by start index literals ≡ true → Follows instance paths (start ++ literal path index ∷ []) literals
on_by instance path paths start [] literals index e along h =
    let parts = and_parts (ltb (length start) (length literals)) (eqb (get_or literals (length start) (literal 0 0)).choice index) h in
    let long = ltb-true (length start) (length literals) parts.0 in
    absurd (omega (arith, ap length e, length-append start []))
on_by instance path paths start (a ∷ more) literals index e along h =
    let parts = and_parts (ltb (length start) (length literals)) (eqb (get_or literals (length start) (literal 0 0)).choice index) h in
    let at : get_or literals (length start) (literal 0 0) ≡ a = ap (λ z. get_or z (length start) (literal 0 0)) e ∙ get_or_at start a more (literal 0 0) (length start) refl in
    let chosen : a.choice ≡ index = ap (λ z. z.choice) (sym at) ∙ eqb-true (get_or literals (length start) (literal 0 0)).choice index parts.1 in
    let same : a ≡ literal path index = ap (λ z. literal z a.choice) along.0 ∙ ap (λ z. literal path z) chosen in
    record {
      more = more;
      is = e ∙ (ap (λ z. start ++ z ∷ more) same ∙ sym (append_assoc start (literal path index ∷ []) more));
      along = along.2;
    }

-- the start is among the lists, where there is one
start_among : (instance : Instance) (IsDead : List Literal → Type 0) (paths : List ℕ) (start : List Literal) (tried : List (List Literal)) → Tried instance IsDead paths start tried → (k : ℕ) (literals : List Literal) → Contains tried literals → length literals ≤ length start + k → Contains tried start
start_among instance IsDead paths start tried h zero literals m l =
    let f = All-contains (Follows instance paths start) tried literals h.follow m in
    let e = f.is in
    subst (λ z. Contains tried z) (none_more start f.more literals f.is (omega (arith, ap length e, length-append start f.more))) m
start_among instance IsDead paths start tried h (suc k) literals m l =
    let f = All-contains (Follows instance paths start) tried literals h.follow m in
    ⊎_elim
    (λ long.
    let before = All-contains (λ q. length start < length q → Contains tried (take (length q - 1) q)) tried literals h.closed m long in
    start_among instance IsDead paths start tried h k (take (length literals - 1) literals) before
    (omega (arith, length-take-le (length literals - 1) literals (omega arith))))
    (λ same. start_among instance IsDead paths start tried h k literals m (omega arith))
    (cases_lt (length start) (length literals))

-- those that go on by one choice
tried-by : (instance : Instance) (IsDead : List Literal → Type 0) (path : ℕ) (paths : List ℕ) (start : List Literal) (tried : List (List Literal)) (index : ℕ) → Tried instance IsDead (path ∷ paths) start tried → Tried instance IsDead paths (start ++ literal path index ∷ []) (filter (goes_by start index) tried)
tried-by instance IsDead path paths start tried index h =
    let on : List Literal = start ++ literal path index ∷ [] in
    let kept : List (List Literal) = filter (goes_by start index) tried in
    record {
      apart = pairs-filter (λ a b. a ≢ b) (goes_by start index) tried h.apart;
      follow = All-from_members (Follows instance paths on) kept (λ q m.
          let r = from-filter (goes_by start index) tried q m in
          let f = All-contains (Follows instance (path ∷ paths) start) tried q h.follow r.0 in
          on_by instance path paths start f.more q index f.is f.along r.1);
      alive = All-from_members (λ q. IsDead q → ⊥) kept (λ q m.
          let r = from-filter (goes_by start index) tried q m in
          All-contains (λ z. IsDead z → ⊥) tried q h.alive r.0);
      closed = All-from_members (λ q. length on < length q → Contains kept (take (length q - 1) q)) kept (λ q m long.
          let r = from-filter (goes_by start index) tried q m in
          let l = length-append start (literal path index ∷ []) in
          let before : Contains tried (take (length q - 1) q) = All-contains (λ z. length start < length z → Contains tried (take (length z - 1) z)) tried q h.closed r.0 (omega arith) in
          let parts = and_parts (ltb (length start) (length q)) (eqb (get_or q (length start) (literal 0 0)).choice index) r.1 in
          let short = length-take-le (length q - 1) q (omega arith) in
          let same = get_or-take (length q - 1) q (length start) (literal 0 0) (omega arith) in
          in-filter (goes_by start index) tried (take (length q - 1) q) before
          (and_from (ltb (length start) (length (take (length q - 1) q))) (eqb (get_or (take (length q - 1) q) (length start) (literal 0 0)).choice index)
          (lt-ltb (length start) (length (take (length q - 1) q)) (omega arith))
          (ap (λ z. eqb z.choice index) same ∙ parts.1)));
    }

-- with the start alone
one_start : (instance : Instance) (IsDead : List Literal → Type 0) (paths : List ℕ) (start : List Literal) (tried : List (List Literal)) → Tried instance IsDead paths start tried → count_by (is_start start) tried ≤ 1
one_start instance IsDead paths start tried h =
    let starts : List (List Literal) = filter (is_start start) tried in
    let is : (q : List Literal) → Contains starts q → q ≡ start = λ q m.
    let r = from-filter (is_start start) tried q m in
    let f = All-contains (Follows instance paths start) tried q h.follow r.0 in
    none_more start f.more q f.is (eqb-true (length q) (length start) r.1) in
    let few = short starts (pairs-filter (λ a b. a ≢ b) (is_start start) tried h.apart) (λ a b ma mb. is a ma ∙ sym (is b mb)) in
    omega (arith, length-filter (is_start start) tried)

-- what is below one that is not dead
below-alive : (dead : Type 0) (IsBelow : ℕ → Type 0) (n : ℕ) → (dead → ⊥) → IsOneAndBelow dead IsBelow n → (below : ℕ) × (n ≡ 1 + below) × IsBelow below
below-alive dead IsBelow n alive (inl h) = absurd (alive h.0)
below-alive dead IsBelow n alive (inr h) = h.1

only_start : (instance : Instance) (start more literals : List Literal) → literals ≡ start ++ more → IsAlong instance [] more → literals ≡ start
only_start instance start [] literals e along = e ∙ append-nil start
only_start instance start (a ∷ more) literals e along = absurd along

if_some : {X : Type 0} (xs : List X) (n : ℕ) → ((x : X) → Contains xs x → length xs ≤ n) → length xs ≤ n
if_some [] n h = omega arith
if_some (x ∷ xs) n h = h x (at_front x xs)

pub tries-count : (instance : Instance) (IsDead : List Literal → Type 0) (paths : List ℕ) (start : List Literal) (n : ℕ) (tried : List (List Literal)) → IsTriesBy IsDead (count_at instance) paths start n → Tried instance IsDead paths start tried → length tried ≤ n
tries-count instance IsDead [] start n tried t h = if_some tried n (λ q m.
    let among = start_among instance IsDead [] start tried h (length q) q m (omega arith) in
    let alive = All-contains (λ z. IsDead z → ⊥) tried start h.alive among in
    let b = below-alive (IsDead start) (λ below. below ≡ 0) n alive t in
    let is : (z : List Literal) → Contains tried z → z ≡ start = λ z mz.
    let f = All-contains (Follows instance [] start) tried z h.follow mz in
    only_start instance start f.more z f.is f.along in
    let few = short tried h.apart (λ u v mu mv. is u mu ∙ sym (is v mv)) in
    let e = b.1 in
    omega arith)
tries-count instance IsDead (path ∷ paths) start n tried t h = if_some tried n (λ q m.
    let count = count_at instance path in
    let IsPart : ℕ → ℕ → Type 0 = λ index. IsTriesBy IsDead (count_at instance) paths (start ++ literal path index ∷ []) in
    let among = start_among instance IsDead (path ∷ paths) start tried h (length q) q m (omega arith) in
    let alive = All-contains (λ z. IsDead z → ⊥) tried start h.alive among in
    let b = below-alive (IsDead start) (IsSumOver count IsPart) n alive t in
    let s = b.2 in
    let all = counted (is_start start) (goes_by start) count tried
    (All-from_members (λ z. (is_start start z ≡ true) ⊎ ((i : ℕ) × (i < count) × (goes_by start i z ≡ true))) tried (λ z mz.
    let f = All-contains (Follows instance (path ∷ paths) start) tried z h.follow mz in
    start_or_on instance path paths start f.more z f.is f.along)) in
    let first = one_start instance IsDead (path ∷ paths) start tried h in
    let rest = range-sum-le (λ i. count_by (goes_by start i) tried) s.part count (λ i l.
    let part = tries-count instance IsDead paths (start ++ literal path i ∷ []) (s.part i) (filter (goes_by start i) tried) (s.each i l) (tried-by instance IsDead path paths start tried i h) in
    omega (arith, length-filter (goes_by start i) tried)) in
    let e = b.1 in
    let e2 = s.sum in
    omega arith)

-- ---- along the work order

-- literals that go on along some paths from others go on along what is left of them
pub along-drop : (instance : Instance) (paths : List ℕ) (start more : List Literal) → IsAlong instance paths (start ++ more) → IsAlong instance (drop (length start) paths) more
along-drop instance paths [] more h = h
along-drop instance [] (a ∷ start) more h = absurd h
along-drop instance (path ∷ paths) (a ∷ start) more h = along-drop instance paths start more h.2
