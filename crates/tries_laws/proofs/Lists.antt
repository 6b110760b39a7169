-- Lists of choices along paths: which there are, and that each stands once.
use Rattle.std.proofs.Common.{◌≡◌, ◌≢◌, ℕ, suc, ◌+◌, ◌*◌, ◌<◌, List, [], ◌∷◌, length, map, flat_map, AllPairs, Contains, refl, ap, sym, ◌∙◌, subst, inl, inr, ⊎_elim, arith}
use Rattle.std.specs.List.{range_with_len}
use Rattle.std.proofs.lemmas.List.{length-append, length-map}
use Rattle.std.proofs.lemmas.List.FromFn.{length-range_with_len}
use Rattle.fapp_model.specs.declared.instance.Instance.{Instance}
use Rattle.fapp_model.specs.declared.literal.Literal.{Literal}
use Rattle.fapp_model.specs.Assignments.{count_at}
use Rattle.fapp_model.specs.search.Jobs.{ways}
use Rattle.fapp_model.specs.search.Partials.{literal}
use Rattle.fapp_model.specs.search.Prefixes.{IsAlong, IsListBefore, one_more, lists_along, choice_lists}
use Rattle.fapp_model.proofs.Members.{at_front, behind, front_or_behind, no_member, in-map, from-map, in-flat_map, from-flat_map, in-range, from-range, All-from_members}
use Rattle.fapp_model.proofs.InOrder.{pairs-nil, pairs-cons, pairs-map, pairs-flat_map, pairs-weaker, rising}

-- a literal by its parts
by_parts : (a : Literal) (path : ℕ) → a.path ≡ path → literal path a.choice ≡ a
by_parts a path e = ap (λ p. literal p a.choice) (sym e)

-- members of the lists that one choice of a path begins
pub in-one_more : (instance : Instance) (path index : ℕ) (lists : List (List Literal)) (more : List Literal) → index < count_at instance path → Contains lists more → Contains (one_more instance path lists) (literal path index ∷ more)
in-one_more instance path index lists more l m =
    in-flat_map (λ i. map (λ rest. literal path i ∷ rest) lists) (range_with_len 0 (count_at instance path)) index (literal path index ∷ more)
    (in-range (count_at instance path) index l)
    (in-map (λ rest. literal path index ∷ rest) lists more m)

pub record Begun (instance : Instance) (path : ℕ) (lists : List (List Literal)) (literals : List Literal) : Type 0 where
  pub index : ℕ
  pub more : List Literal
  pub below : index < count_at instance path
  pub member : Contains lists more
  pub is : literal path index ∷ more ≡ literals

pub from-one_more : (instance : Instance) (path : ℕ) (lists : List (List Literal)) (literals : List Literal) → Contains (one_more instance path lists) literals → Begun instance path lists literals
from-one_more instance path lists literals m =
    let found = from-flat_map (λ i. map (λ rest. literal path i ∷ rest) lists) (range_with_len 0 (count_at instance path)) literals m in
    let back = from-map (λ rest. literal path found.0 ∷ rest) lists literals found.2 in
    record { index = found.0; more = back.0; below = from-range (count_at instance path) found.0 found.1; member = back.1; is = back.2 }

-- how many lists some choices of a path begin
pub length-pieces : (path : ℕ) (lists : List (List Literal)) (is : List ℕ) → length (flat_map (λ i. map (λ rest. literal path i ∷ rest) lists) is) ≡ length is * length lists
length-pieces path lists [] = omega arith
length-pieces path lists (i ∷ is) =
    omega (arith, length-append (map (λ rest. literal path i ∷ rest) lists) (flat_map (λ j. map (λ rest. literal path j ∷ rest) lists) is), length-map lists (λ rest. literal path i ∷ rest), length-pieces path lists is)

pub length-one_more : (instance : Instance) (path : ℕ) (lists : List (List Literal)) → length (one_more instance path lists) ≡ count_at instance path * length lists
length-one_more instance path lists =
    length-pieces path lists (range_with_len 0 (count_at instance path)) ∙ ap (λ n. n * length lists) (length-range_with_len 0 (count_at instance path))

-- what holds of each two of the lists holds of each two that one choice begins
pairs-one_more : (R : List Literal → List Literal → Type 0) (instance : Instance) (path : ℕ) (lists : List (List Literal)) → ((i : ℕ) (more others : List Literal) → R more others → R (literal path i ∷ more) (literal path i ∷ others)) → ((i j : ℕ) (more others : List Literal) → i < j → R (literal path i ∷ more) (literal path j ∷ others)) → AllPairs R lists → AllPairs R (one_more instance path lists)
pairs-one_more R instance path lists within across h =
    let count = count_at instance path in
    let f : ℕ → List (List Literal) = λ i. map (λ rest. literal path i ∷ rest) lists in
    pairs-flat_map R f (range_with_len 0 count)
    (All-from_members (λ i. AllPairs R (f i)) (range_with_len 0 count) (λ i _.
    pairs-map R (λ rest. literal path i ∷ rest) lists
    (pairs-weaker R (λ more others. R (literal path i ∷ more) (literal path i ∷ others)) (within i) lists h)))
    (pairs-weaker (λ i j. i < j) (λ i j. (a b : List Literal) → Contains (f i) a → Contains (f j) b → R a b)
    (λ i j l a b ma mb.
    let u = from-map (λ rest. literal path i ∷ rest) lists a ma in
    let v = from-map (λ rest. literal path j ∷ rest) lists b mb in
    subst (λ z. R a z) v.2 (subst (λ z. R z (literal path j ∷ v.0)) u.2 (across i j u.0 v.0 l)))
    (range_with_len 0 count) (rising 0 count))

-- the parts of two lists that are one
same_rest : (a b : Literal) (more others : List Literal) → a ∷ more ≡ b ∷ others → more ≡ others
same_rest a b more others e = cc

same_first : (a b : Literal) (more others : List Literal) → a ∷ more ≡ b ∷ others → a ≡ b
same_first a b more others e = cc

same_choice : (path i j : ℕ) (more others : List Literal) → literal path i ∷ more ≡ literal path j ∷ others → i ≡ j
same_choice path i j more others e = ap (λ a. a.choice) (same_first (literal path i) (literal path j) more others e)

-- each stands once where the lists do
pub once-one_more : (instance : Instance) (path : ℕ) (lists : List (List Literal)) → AllPairs (λ a b. a ≢ b) lists → AllPairs (λ a b. a ≢ b) (one_more instance path lists)
once-one_more instance path lists h =
    pairs-one_more (λ a b. a ≢ b) instance path lists
    (λ i more others apart e. apart (same_rest (literal path i) (literal path i) more others e))
    (λ i j more others l e. absurd (let same = same_choice path i j more others e in omega arith))
    h

-- and in order where the lists do
pub ordered-one_more : (instance : Instance) (path : ℕ) (lists : List (List Literal)) → AllPairs IsListBefore lists → AllPairs IsListBefore (one_more instance path lists)
ordered-one_more instance path lists h =
    pairs-one_more IsListBefore instance path lists
    (λ i more others before. inr (refl, before))
    (λ i j more others l. inl l)
    h

-- ---- the lists along the first few paths

pub in-lists_along : (instance : Instance) (paths : List ℕ) (literals : List Literal) → IsAlong instance paths literals → Contains (lists_along instance paths) literals
in-lists_along instance [] [] h = at_front [] []
in-lists_along instance [] (a ∷ more) h = absurd h
in-lists_along instance (path ∷ paths) [] h = at_front [] (one_more instance path (lists_along instance paths))
in-lists_along instance (path ∷ paths) (a ∷ more) h =
    behind [] (one_more instance path (lists_along instance paths)) (a ∷ more)
    (subst (λ z. Contains (one_more instance path (lists_along instance paths)) (z ∷ more)) (by_parts a path h.0)
    (in-one_more instance path a.choice (lists_along instance paths) more h.1 (in-lists_along instance paths more h.2)))

pub from-lists_along : (instance : Instance) (paths : List ℕ) (literals : List Literal) → Contains (lists_along instance paths) literals → IsAlong instance paths literals
from-lists_along instance [] literals m = ⊎_elim
    (λ e. subst (λ z. IsAlong instance [] z) e tt)
    (λ none. absurd (no_member literals none))
    (front_or_behind [] [] literals m)
from-lists_along instance (path ∷ paths) literals m = ⊎_elim
    (λ e. subst (λ z. IsAlong instance (path ∷ paths) z) e tt)
    (λ later.
    let b = from-one_more instance path (lists_along instance paths) literals later in
    subst (λ z. IsAlong instance (path ∷ paths) z) b.is (refl, b.below, from-lists_along instance paths b.more b.member))
    (front_or_behind [] (one_more instance path (lists_along instance paths)) literals m)

pub once-lists_along : (instance : Instance) (paths : List ℕ) → AllPairs (λ a b. a ≢ b) (lists_along instance paths)
once-lists_along instance [] = pairs-cons (λ a b. a ≢ b) [] [] (λ k d l. absurd (omega arith)) (pairs-nil (λ a b. a ≢ b))
once-lists_along instance (path ∷ paths) =
    pairs-cons (λ a b. a ≢ b) [] (one_more instance path (lists_along instance paths))
    (All-from_members (λ z. [] ≢ z) (one_more instance path (lists_along instance paths)) (λ z m e.
    let b = from-one_more instance path (lists_along instance paths) z m in
    let bad : [] ≡ literal path b.index ∷ b.more = e ∙ sym b.is in cc))
    (once-one_more instance path (lists_along instance paths) (once-lists_along instance paths))

pub length-lists_along : (instance : Instance) (path : ℕ) (paths : List ℕ) → length (lists_along instance (path ∷ paths)) ≡ 1 + count_at instance path * length (lists_along instance paths)
length-lists_along instance path paths = omega (arith, length-one_more instance path (lists_along instance paths))

-- ---- the lists along all paths

pub in-choice_lists : (instance : Instance) (paths : List ℕ) (literals : List Literal) → IsAlong instance paths literals → length literals ≡ length paths → Contains (choice_lists instance paths) literals
in-choice_lists instance [] [] h e = at_front [] []
in-choice_lists instance [] (a ∷ more) h e = absurd h
in-choice_lists instance (path ∷ paths) [] h e = absurd (omega arith)
in-choice_lists instance (path ∷ paths) (a ∷ more) h e =
    subst (λ z. Contains (one_more instance path (choice_lists instance paths)) (z ∷ more)) (by_parts a path h.0)
    (in-one_more instance path a.choice (choice_lists instance paths) more h.1 (in-choice_lists instance paths more h.2 (omega arith)))

pub from-choice_lists : (instance : Instance) (paths : List ℕ) (literals : List Literal) → Contains (choice_lists instance paths) literals → IsAlong instance paths literals × (length literals ≡ length paths)
from-choice_lists instance [] literals m = ⊎_elim
    (λ e. subst (λ z. IsAlong instance [] z × (length z ≡ 0)) e (tt, refl))
    (λ none. absurd (no_member literals none))
    (front_or_behind [] [] literals m)
from-choice_lists instance (path ∷ paths) literals m =
    let b = from-one_more instance path (choice_lists instance paths) literals m in
    let r = from-choice_lists instance paths b.more b.member in
    subst (λ z. IsAlong instance (path ∷ paths) z × (length z ≡ suc (length paths))) b.is ((refl, b.below, r.0), ap suc r.1)

pub ordered-choice_lists : (instance : Instance) (paths : List ℕ) → AllPairs IsListBefore (choice_lists instance paths)
ordered-choice_lists instance [] = pairs-cons IsListBefore [] [] (λ k d l. absurd (omega arith)) (pairs-nil IsListBefore)
ordered-choice_lists instance (path ∷ paths) = ordered-one_more instance path (choice_lists instance paths) (ordered-choice_lists instance paths)

pub length-choice_lists : (instance : Instance) (paths : List ℕ) → length (choice_lists instance paths) ≡ ways instance paths
length-choice_lists instance [] = refl
length-choice_lists instance (path ∷ paths) =
    length-one_more instance path (choice_lists instance paths) ∙ ap (λ n. count_at instance path * n) (length-choice_lists instance paths)

-- no list stands before itself
not_before_itself : (literals : List Literal) → IsListBefore literals literals → ⊥
not_before_itself [] h = h
not_before_itself (a ∷ more) (inl l) = absurd (omega arith)
not_before_itself (a ∷ more) (inr h) = not_before_itself more h.1

pub before-apart : (a b : List Literal) → IsListBefore a b → a ≢ b
before-apart a b h e = not_before_itself b (subst (λ z. IsListBefore z b) e h)

pub once-choice_lists : (instance : Instance) (paths : List ℕ) → AllPairs (λ a b. a ≢ b) (choice_lists instance paths)
once-choice_lists instance paths =
    pairs-weaker IsListBefore (λ a b. a ≢ b) before-apart (choice_lists instance paths) (ordered-choice_lists instance paths)
