-- The links of the records of an instance.
use Rattle.std.proofs.Common.{◌≡◌, ◌≢◌, ◌⊎◌, ℕ, zero, suc, ◌+◌, ◌*◌, ◌<◌, ◌≤◌, true, eqb, List, [], ◌∷◌, ◌++◌, length, get_or, flat_map, append_assoc, zero-add, refl, sym, ap, ◌∙◌, subst, inl, inr, ⊎_elim, All, AllPairs, Contains, arith}
use Rattle.std.specs.List.{range_with_len}
use Rattle.std.proofs.lemmas.List.{flat_map_more}
use Rattle.std.specs.List.{AllAdjacentBelow}
use Rattle.std.specs.List.Sorted.{IsPermutation}
use Rattle.std.proofs.lemmas.Bool.{and_from, and_parts, eq-eqb, eqb-true, or_cases, or_right}
use Rattle.std.proofs.lemmas.List.Elements.{All-nil, All-cons, Contains-get_or}
use Rattle.std.proofs.lemmas.List.Sorted.{length_permutation, Contains-permutation, IsPermutation-sym, IsNonDecreasingBy-from_all_adjacent}
use Rattle.std.proofs.lemmas.List.FromFn.{length-range_with_len, get_or-range_with_len}
use Rattle.fapp_model.specs.declared.instance.Instance.{Instance}
use Rattle.fapp_model.specs.declared.record.Record.{Record}
use Rattle.fapp_model.specs.search.Clashes.{joins}
use Rattle.fapp_model.specs.Instances.{IsInstance, IsRecord}
use Rattle.fapp_model.specs.Levels.{levels_of}
use Rattle.fapp_model.proofs.Members.{at_front, behind, front_or_behind, no_member, All-range, in-flat_map, from-flat_map, in-range, from-range}
use Rattle.fapp_model.proofs.InOrder.{pairs-nil, pairs-cons, pairs-flat_map}
use Rattle.fapp_model.specs.Records.{first_path, second_path}
use Rattle.fapp_tables.specs.declared.links.Side.{Side}
use Rattle.fapp_tables.specs.Indexes.{no_record, record_at, touches}
use Rattle.fapp_tables.specs.Links.{AreSortedLinks, IsSide, IsSideNotAfter, links_at, link_rank}
use Rattle.fapp_model.proofs.CostParts.{range_more}
use Rattle.fapp_tables.proofs.RankLaws.{rising_ranks}

abbrev pub both_links : ℕ → ℕ → ℕ → List Side
both_links i j k = record { path = i; other = j; position = k } ∷ record { path = j; other = i; position = k } ∷ []

-- the links of one more record
pub links_more : (instance : Instance) (k i j : ℕ) (links once twice : List Side) → i ≡ first_path (record_at instance k) → j ≡ second_path (record_at instance k) →
    links ≡ flat_map (links_at instance) (range_with_len 0 k) →
    once ≡ links ++ record { path = i; other = j; position = k } ∷ [] →
    twice ≡ once ++ record { path = j; other = i; position = k } ∷ [] →
    twice ≡ flat_map (links_at instance) (range_with_len 0 (k + 1))
links_more instance k i j links once twice is_i is_j so_far first second =
    let here : both_links i j k ≡ links_at instance (0 + k) = rw (is_i, is_j, zero-add) refl in
    second ∙ (ap (λ (xs : List Side). xs ++ record { path = j; other = i; position = k } ∷ []) first
    ∙ (append_assoc links (record { path = i; other = j; position = k } ∷ []) (record { path = j; other = i; position = k } ∷ [])
    ∙ (ap (λ (xs : List Side). xs ++ both_links i j k) so_far
    ∙ (ap (λ (xs : List Side). flat_map (links_at instance) (range_with_len 0 k) ++ xs) here
    ∙ (flat_map_more (links_at instance) [] (range_with_len 0 k) (0 + k)
    ∙ ap (flat_map (links_at instance)) (sym (range_more 0 k)))))))

-- the links of a valid record differ
valid_at : (instance : Instance) (k : ℕ) → IsInstance instance → k < length instance.records → IsRecord (levels_of instance) (length instance.paths) (record_at instance k)
valid_at instance k valid inside = valid.records k no_record inside

abbrev first_link : Instance → ℕ → Side
first_link instance k = record { path = first_path (record_at instance k); other = second_path (record_at instance k); position = k }

abbrev second_link : Instance → ℕ → Side
second_link instance k = record { path = second_path (record_at instance k); other = first_path (record_at instance k); position = k }

abbrev Apart : Side → Side → Type 0
Apart a b = link_rank a ≢ link_rank b

within : (instance : Instance) (n : ℕ) → IsInstance instance → n ≤ length instance.records → All (λ k. AllPairs Apart (links_at instance k)) (range_with_len 0 n)
within instance n valid most = All-range (λ k. AllPairs Apart (links_at instance k)) n (λ k inside.
    let at = valid_at instance k valid (omega arith) in
    pairs-cons Apart (first_link instance k) (second_link instance k ∷ [])
    (All-cons (Apart (first_link instance k)) (second_link instance k) [] (λ e. at.different (omega (arith, e, at.first, at.second, valid.few_paths))) (All-nil (Apart (first_link instance k))))
    (pairs-cons Apart (second_link instance k) [] (All-nil (Apart (second_link instance k))) (pairs-nil Apart)))

-- a link of a record is one of the two
pub one_of_two : (instance : Instance) (k : ℕ) (a : Side) → Contains (links_at instance k) a → (first_link instance k ≡ a) ⊎ (second_link instance k ≡ a)
one_of_two instance k a m = ⊎_elim
    (λ e. inl e)
    (λ later. ⊎_elim (λ e. inr e) (λ none. absurd (no_member a none)) (front_or_behind (second_link instance k) [] a later))
    (front_or_behind (first_link instance k) (second_link instance k ∷ []) a m)

place_of_link : (instance : Instance) (k : ℕ) (a : Side) → Contains (links_at instance k) a → a.position ≡ k
place_of_link instance k a m = ⊎_elim
    (λ e. sym (ap (λ (l : Side). l.position) e))
    (λ e. sym (ap (λ (l : Side). l.position) e))
    (one_of_two instance k a m)

across : (instance : Instance) (n : ℕ) → IsInstance instance → n ≤ length instance.records → AllPairs (λ x y. (a b : Side) → Contains (links_at instance x) a → Contains (links_at instance y) b → link_rank a ≢ link_rank b) (range_with_len 0 n)
across instance n valid most i j d before inside a b ma mb e =
    let l = length-range_with_len 0 n in
    let at_i = get_or-range_with_len 0 n i d (omega arith) in
    let at_j = get_or-range_with_len 0 n j d (omega arith) in
    omega (arith, e, place_of_link instance _ a ma, place_of_link instance _ b mb, valid.few_records)

pub links_apart : (instance : Instance) → IsInstance instance → AllPairs Apart (flat_map (links_at instance) (range_with_len 0 (length instance.records)))
links_apart instance valid =
    let n = length instance.records in
    pairs-flat_map Apart (links_at instance) (range_with_len 0 n) (within instance n valid (omega arith)) (across instance n valid (omega arith))

touches_both : (r : Record) → touches (first_path r) (second_path r) r ≡ true
touches_both r = rw (and_from _ _ (eq-eqb (first_path r) (first_path r) refl) (eq-eqb (second_path r) (second_path r) refl)) refl

touches_back : (r : Record) → touches (second_path r) (first_path r) r ≡ true
touches_back r = or_right (joins (second_path r) (first_path r) r) (joins (first_path r) (second_path r) r)
    (and_from _ _ (eq-eqb (first_path r) (first_path r) refl) (eq-eqb (second_path r) (second_path r) refl))

-- the links of the records are those that name two paths of one record
pub from_links : (instance : Instance) (a : Side) → Contains (flat_map (links_at instance) (range_with_len 0 (length instance.records))) a → IsSide instance a
from_links instance a m =
    let found = from-flat_map (links_at instance) (range_with_len 0 (length instance.records)) a m in
    let inside : found.0 < length instance.records = from-range (length instance.records) found.0 found.1 in
    ⊎_elim
    (λ e. subst (IsSide instance) e (record { inside = inside; touching = touches_both (record_at instance found.0) }))
    (λ e. subst (IsSide instance) e (record { inside = inside; touching = touches_back (record_at instance found.0) }))
    (one_of_two instance found.0 a found.2)

same_link : (x y : ℕ) (a : Side) → x ≡ a.path → y ≡ a.other → record { path = x; other = y; position = a.position } ≡ a
same_link x y a e o =
    ap (λ p. record { path = p; other = y; position = a.position }) e ∙ ap (λ q. record { path = a.path; other = q; position = a.position }) o

is_one : (instance : Instance) (a : Side) → IsSide instance a → Contains (links_at instance a.position) a
is_one instance a h =
    let r = record_at instance a.position in
    ⊎_elim
    (λ e.
    let parts = and_parts (eqb (first_path r) a.path) (eqb (second_path r) a.other) e in
    subst (Contains (links_at instance a.position)) (same_link (first_path r) (second_path r) a (eqb-true _ _ parts.0) (eqb-true _ _ parts.1)) (at_front (first_link instance a.position) (second_link instance a.position ∷ [])))
    (λ e.
    let parts = and_parts (eqb (first_path r) a.other) (eqb (second_path r) a.path) e in
    subst (Contains (links_at instance a.position)) (same_link (second_path r) (first_path r) a (eqb-true _ _ parts.1) (eqb-true _ _ parts.0))
    (behind (first_link instance a.position) (second_link instance a.position ∷ []) (second_link instance a.position) (at_front (second_link instance a.position) [])))
    (or_cases (joins a.path a.other r) (joins a.other a.path r) h.touching)

pub to_links : (instance : Instance) (a : Side) → IsSide instance a → Contains (flat_map (links_at instance) (range_with_len 0 (length instance.records))) a
to_links instance a h = in-flat_map (links_at instance) (range_with_len 0 (length instance.records)) a.position a (in-range (length instance.records) a.position h.inside) (is_one instance a h)

-- a link names two different paths of the instance
pub record NamesTwo (instance : Instance) (a : Side) : Type 0 where
  pub path : a.path < length instance.paths
  pub other : a.other < length instance.paths
  pub apart : a.path ≢ a.other

pub names_two : (instance : Instance) (a : Side) → IsInstance instance → IsSide instance a → NamesTwo instance a
names_two instance a valid h =
    let at = valid_at instance a.position valid h.inside in
    ⊎_elim
    (λ e. subst (NamesTwo instance) e (record { path = at.first; other = at.second; apart = at.different }))
    (λ e. subst (NamesTwo instance) e (record { path = at.second; other = at.first; apart = λ same. at.different (sym same) }))
    (one_of_two instance a.position a (is_one instance a h))

-- a link that doesn't come after another one has no greater rank
pub rank_at_most : (a b : Side) → a.other < 65536 → b.other < 65536 → a.position < 4294967296 → b.position < 4294967296 → IsSideNotAfter a b → link_rank a ≤ link_rank b
rank_at_most a b oa ob pa pb (inl less) = omega arith
rank_at_most a b oa ob pa pb (inr (same, inl less)) = omega arith
rank_at_most a b oa ob pa pb (inr (same, inr (also, most))) = omega arith

-- two links a record
two_each : (instance : Instance) (a n : ℕ) → length (flat_map (links_at instance) (range_with_len a n)) ≡ 2 * n
two_each instance a zero = refl
two_each instance a (suc n) = omega (arith, two_each instance (a + 1) n)

-- links in order rise, and are all
pub sorted_links : (instance : Instance) (links sorted : List Side) → IsInstance instance → links ≡ flat_map (links_at instance) (range_with_len 0 (length instance.records)) →
    IsPermutation links sorted → AllAdjacentBelow IsSideNotAfter sorted (length sorted) → AreSortedLinks instance sorted
sorted_links instance links sorted valid is moved ordered = record {
  count = length_permutation links sorted moved ∙ (ap length is ∙ two_each instance 0 (length instance.records));
  members = λ a. (λ m. is_link a m, λ h. Contains-permutation links sorted a moved (subst (λ xs. Contains xs a) (sym is) (to_links instance a h)));
  rising = rising_ranks link_rank links sorted (subst (AllPairs Apart) (sym is) (links_apart instance valid)) moved
      (IsNonDecreasingBy-from_all_adjacent link_rank sorted (λ k d inside.
      let small_a = small (get_or sorted k d) (Contains-get_or sorted k d (omega arith)) in
      let small_b = small (get_or sorted (k + 1) d) (Contains-get_or sorted (k + 1) d inside) in
      rank_at_most (get_or sorted k d) (get_or sorted (k + 1) d) small_a.0 small_b.0 small_a.1 small_b.1 (ordered k d inside)));
}
  where
    is_link : (a : Side) → Contains sorted a → IsSide instance a
    is_link a m = from_links instance a (subst (λ xs. Contains xs a) is (Contains-permutation sorted links a (IsPermutation-sym links sorted moved) m))

    small : (a : Side) → Contains sorted a → (a.other < 65536) × (a.position < 4294967296)
    small a m = let h = is_link a m in let two = names_two instance a valid h in (omega (arith, two.other, valid.few_paths), omega (arith, h.inside, valid.few_records))
