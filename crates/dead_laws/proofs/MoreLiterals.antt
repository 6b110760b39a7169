-- How the pairs of a list of literals grow with more literals.
use Rattle.std.proofs.Common.{◌≡◌, ℕ, ◌+◌, ◌<◌, ◌≤◌, Bool, true, false, cond, List, length, get_or, refl, ap, ◌∙◌, subst, inr, arith, sum_by, All, Contains}
use Rattle.std.specs.List.{range_with_len}
use Rattle.std.proofs.lemmas.Bool.{cond-false, both_ways, false_from_ne_true}
use Rattle.std.proofs.lemmas.List.Elements.{All-contains, Contains-get_or}
use Rattle.fapp_model.specs.declared.choice.Choice.{Choice}
use Rattle.fapp_model.specs.declared.instance.Instance.{Instance}
use Rattle.fapp_model.specs.declared.literal.Literal.{Literal}
use Rattle.fapp_model.specs.declared.record.Record.{Record}
use Rattle.fapp_model.specs.search.Pairs.{Pair, IsPairAtMost}
use Rattle.fapp_model.specs.search.Partials.{names}
use Rattle.fapp_model.specs.search.Weights.{added, added_pair, bad_before, bad_further, between, inside, over_open, pair_with}
use Rattle.fapp_model.specs.search.Partials.{HasAll}
use Rattle.dead_laws.proofs.PairSums.{AtMost, grown-at_most, sum-at_most}
use Rattle.dead_laws.proofs.Picks.{AreDistinct, at-names, names-at, named-sum, range-named, fewer-sum, sum_by-split}
use Rattle.fapp_model.proofs.Sums.{sum_by-add, sum_by-le-members, sum_by-none, sum_by-same-members, sum_by-swap}
use Rattle.fapp_model.proofs.Members.{All-range}

cond-outside-add : (b : Bool) (m n : ℕ) → cond b 0 (m + n) ≡ cond b 0 m + cond b 0 n
cond-outside-add true m n = refl
cond-outside-add false m n = refl

cond-outside-le : (b : Bool) (m n : ℕ) → m ≤ n → cond b 0 m ≤ cond b 0 n
cond-outside-le true m n h = omega arith
cond-outside-le false m n h = h

sum_by-outside : {X : Type 0} (b : Bool) (g : X → ℕ) (xs : List X) → sum_by (λ x. cond b 0 (g x)) xs ≡ cond b 0 (sum_by g xs)
sum_by-outside true g xs = sum_by-none (λ x. 0) xs (λ k d l. refl)
sum_by-outside false g xs = refl

-- the names of a list are among those of one that has all its literals
pub names-more : (literals more : List Literal) → HasAll more literals → (path : ℕ) → names more path ≡ false → names literals path ≡ false
names-more literals more has path h = false_from_ne_true (names literals path) (λ e.
    let found = names-at literals path e in
    both_ways (names more path) h (subst (λ p. names more p ≡ true) found.2 (at-names more found.0 (All-contains (Contains more) literals found.0 has found.1))))

module _ (weight : Literal → Literal → ℕ) (literals more : List Literal) (distinct : AreDistinct literals) (apart : AreDistinct more) (has : HasAll more literals) where
  -- over two literals of the longer list, and over those of the shorter one and one more
  inside-grows : sum_by (λ a. sum_by (λ b. weight a b) literals) literals + sum_by (λ e. cond (names literals e.path) 0 (sum_by (λ b. weight e b + weight b e) literals)) more ≤ sum_by (λ a. sum_by (λ b. weight a b) more) more
  inside-grows =
      let rows = sum_by-same-members (λ a. sum_by (λ b. weight a b) more) (λ a. sum_by (λ b. weight a b) literals + sum_by (λ b. cond (names literals b.path) 0 (weight a b)) more) more
      (λ k d l. row (get_or more k d)) in
      let both = sum_by-add (λ a. sum_by (λ b. weight a b) literals) (λ a. sum_by (λ b. cond (names literals b.path) 0 (weight a b)) more) more in
      let front = sum_by-split (λ (a : Literal). names literals a.path) (λ a. sum_by (λ b. weight a b) literals) more in
      let within = named-sum (λ a. sum_by (λ b. weight a b) literals) literals more distinct apart has in
      let back = sum_by-swap (λ a b. cond (names literals b.path) 0 (weight a b)) more more in
      let columns = sum_by-le-members (λ (b : Literal). cond (names literals b.path) 0 (sum_by (λ a. weight a b) literals)) (λ b. sum_by (λ a. cond (names literals b.path) 0 (weight a b)) more) more (λ k d l. column (get_or more k d)) in
      let each = sum_by-same-members (λ (e : Literal). cond (names literals e.path) 0 (sum_by (λ b. weight e b + weight b e) literals)) (λ e. cond (names literals e.path) 0 (sum_by (λ b. weight e b) literals) + cond (names literals e.path) 0 (sum_by (λ b. weight b e) literals)) more (λ k d l. one (get_or more k d)) in
      let parts = sum_by-add (λ (e : Literal). cond (names literals e.path) 0 (sum_by (λ b. weight e b) literals)) (λ e. cond (names literals e.path) 0 (sum_by (λ b. weight b e) literals)) more in
      omega arith
    where
      row : (a : Literal) → sum_by (λ b. weight a b) more ≡ sum_by (λ b. weight a b) literals + sum_by (λ b. cond (names literals b.path) 0 (weight a b)) more
      row a =
          let split = sum_by-split (λ (b : Literal). names literals b.path) (λ b. weight a b) more in
          let picked = named-sum (λ b. weight a b) literals more distinct apart has in
          omega arith

      column : (b : Literal) → cond (names literals b.path) 0 (sum_by (λ a. weight a b) literals) ≤ sum_by (λ a. cond (names literals b.path) 0 (weight a b)) more
      column b =
          let out = sum_by-outside (names literals b.path) (λ a. weight a b) more in
          let less = cond-outside-le (names literals b.path) _ _ (fewer-sum (λ a. weight a b) literals more distinct apart has) in
          omega arith

      one : (e : Literal) → cond (names literals e.path) 0 (sum_by (λ b. weight e b + weight b e) literals) ≡ cond (names literals e.path) 0 (sum_by (λ b. weight e b) literals) + cond (names literals e.path) 0 (sum_by (λ b. weight b e) literals)
      one e = ap (λ n. cond (names literals e.path) 0 n) (sum_by-add (λ b. weight e b) (λ b. weight b e) literals) ∙ cond-outside-add (names literals e.path) _ _

  -- what is open for fewer literals is open for more, or named by one more
  open-splits : (n : ℕ) → All (λ (a : Literal). a.path < n) more → (h : ℕ → ℕ) → sum_by (λ p. cond (names literals p) 0 (h p)) (range_with_len 0 n) ≡ sum_by (λ e. cond (names literals e.path) 0 (h e.path)) more + sum_by (λ p. cond (names more p) 0 (h p)) (range_with_len 0 n)
  open-splits n small h =
      let split = sum_by-same-members (λ p. cond (names literals p) 0 (h p)) (λ p. cond (names more p) (cond (names literals p) 0 (h p)) 0 + cond (names more p) 0 (h p)) (range_with_len 0 n) (λ k d l. two (names more _) (names literals _) (h _) (names-more literals more has _)) in
      let sums = sum_by-add (λ p. cond (names more p) (cond (names literals p) 0 (h p)) 0) (λ p. cond (names more p) 0 (h p)) (range_with_len 0 n) in
      let picked = range-named (λ p. cond (names literals p) 0 (h p)) n more apart small in
      omega arith
    where
      two : (m l : Bool) (n : ℕ) → (m ≡ false → l ≡ false) → cond l 0 n ≡ cond m (cond l 0 n) 0 + cond m 0 n
      two true l n fewer = omega arith
      two false l n fewer = let off : cond l 0 n ≡ n = cond-false l 0 n (fewer refl) in omega arith

cond-at_most : (b : Bool) (v s w r : ℕ) → (b ≡ false → AtMost v s w r) → AtMost (cond b 0 v) (cond b 0 s) (cond b 0 w) (cond b 0 r)
cond-at_most true v s w r h = inr (refl, omega arith)
cond-at_most false v s w r h = h refl

pub added-grows : (instance : Instance) (measure : Record → Choice → Choice → ℕ) (literals more : List Literal) → AreDistinct literals → AreDistinct more → HasAll more literals → (a : Literal) → added instance measure literals a ≤ added instance measure more a
added-grows instance measure literals more distinct apart has a = fewer-sum (λ b. between instance measure a b + between instance measure b a) literals more distinct apart has

-- the pair of more literals is no less, where each one more adds no less than was reckoned for its path
pub pair-grows : (instance : Instance) (level : ℕ) (literals more : List Literal) → AreDistinct literals → AreDistinct more → HasAll more literals → All (λ (a : Literal). a.path < length instance.paths) more → (fewest further : ℕ → Pair) →
    ((a : Literal) → Contains more a → names literals a.path ≡ false → IsPairAtMost (fewest a.path) (added_pair instance level literals a)) →
    ((path : ℕ) → path < length instance.paths → names more path ≡ false → IsPairAtMost (fewest path) (further path)) →
    IsPairAtMost (pair_with instance level literals fewest) (pair_with instance level more further)
pair-grows instance level literals more distinct apart has small fewest further one spare =
    grown-at_most
    (inside instance (bad_before level) literals) (inside instance (bad_further level) literals)
    (inside instance (bad_before level) more) (inside instance (bad_further level) more)
    (sum_by (λ e. cond (names literals e.path) 0 (fewest e.path).v) more) (sum_by (λ e. cond (names literals e.path) 0 (fewest e.path).s) more)
    (sum_by (λ e. cond (names literals e.path) 0 (added instance (bad_before level) literals e)) more) (sum_by (λ e. cond (names literals e.path) 0 (added instance (bad_further level) literals e)) more)
    (over_open instance more (λ path. (fewest path).v)) (over_open instance more (λ path. (fewest path).s))
    (over_open instance more (λ path. (further path).v)) (over_open instance more (λ path. (further path).s))
    (over_open instance literals (λ path. (fewest path).v)) (over_open instance literals (λ path. (fewest path).s))
    (inside-grows (between instance (bad_before level)) literals more distinct apart has)
    (inside-grows (between instance (bad_further level)) literals more distinct apart has)
    (sum-at_most (λ (e : Literal). cond (names literals e.path) 0 (fewest e.path).v) (λ e. cond (names literals e.path) 0 (fewest e.path).s)
    (λ e. cond (names literals e.path) 0 (added instance (bad_before level) literals e)) (λ e. cond (names literals e.path) 0 (added instance (bad_further level) literals e)) more
    (λ k d l. cond-at_most (names literals (get_or more k d).path) _ _ _ _ (one (get_or more k d) (Contains-get_or more k d l))))
    (sum-at_most (λ p. cond (names more p) 0 (fewest p).v) (λ p. cond (names more p) 0 (fewest p).s) (λ p. cond (names more p) 0 (further p).v) (λ p. cond (names more p) 0 (further p).s) (range_with_len 0 (length instance.paths))
    (All-range (λ p. AtMost (cond (names more p) 0 (fewest p).v) (cond (names more p) 0 (fewest p).s) (cond (names more p) 0 (further p).v) (cond (names more p) 0 (further p).s)) (length instance.paths) (λ p below. cond-at_most (names more p) _ _ _ _ (spare p below))))
    (open-splits (between instance (bad_before level)) literals more distinct apart has (length instance.paths) small (λ path. (fewest path).v))
    (open-splits (between instance (bad_further level)) literals more distinct apart has (length instance.paths) small (λ path. (fewest path).s))
