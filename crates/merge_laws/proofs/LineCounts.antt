-- How many lines the arcs and the tree have.
use Rattle.std.proofs.Common.{◌≡◌, ◌≢◌, ℕ, suc, ◌+◌, ◌*◌, ◌<◌, ◌≤◌, List, [], ◌∷◌, ◌++◌, length, map, flat_map, sum_by, get_or, refl, ap, sym, subst, ◌∙◌, ⊎_elim, arith, AllPairs, Contains}
use Rattle.std.specs.List.{range_with_len}
use Rattle.std.proofs.lemmas.List.{get_or_default, length-append, length-map}
use Rattle.std.proofs.lemmas.List.Concat.{length-flat_map}
use Rattle.std.proofs.lemmas.List.FromFn.{length-range_with_len}
use Rattle.std.proofs.lemmas.List.Elements.{All-contains, Contains-append_cases, Contains-append_left, Contains-append_right}
use Rattle.std.proofs.lemmas.List.Sums.{sum_by-cons}
use Rattle.fapp_model.specs.declared.instance.Instance.{Instance}
use Rattle.fapp_model.specs.declared.instance.Path.{Path}
use Rattle.fapp_model.specs.declared.literal.Literal.{Literal}
use Rattle.fapp_model.specs.declared.tag.Tag.{Tag}
use Rattle.fapp_model.specs.Assignments.{count_at, no_path}
use Rattle.fapp_model.specs.Choices.{choices}
use Rattle.fapp_model.specs.search.LineBound.{choice_total}
use Rattle.fapp_model.specs.search.Partials.{IsLiteral, literal}
use Rattle.fapp_model.specs.search.Prefixes.{lists_along}
use Rattle.fapp_model.proofs.InOrder.{pairs-head, pairs-map, pairs-tail}
use Rattle.fapp_model.proofs.Members.{at_front, behind, from-map, front_or_behind, in-flat_map, in-map, in-range, no_member}
use Rattle.tries_laws.proofs.Lists.{length-lists_along}
use Rattle.cert_lines.specs.declared.answer.Line.{Line}
use Rattle.arc_levels.specs.ArcLines.{AreArcLines, IsLineOf}
use Rattle.merge_laws.specs.Levels.{all_longer, emit_tree, longer}
use Rattle.merge_laws.proofs.Tree.{length-longer}
use Rattle.merge_laws.proofs.Trees.{length-level, length-prefixes}

-- ---- members of one list in another

-- where a member stands
record Standing {X : Type 0} (ys : List X) (x : X) : Type 0 where
  pub before : List X
  pub after : List X
  pub is : ys ≡ before ++ x ∷ after

standing : {X : Type 0} (ys : List X) (x : X) → Contains ys x → Standing ys x
standing [] x m = absurd (no_member x m)
standing (y ∷ ys) x m = ⊎_elim
    (λ here. record { before = []; after = ys; is = ap (λ z. z ∷ ys) here })
    (λ later. let r = standing ys x later in record { before = y ∷ r.before; after = r.after; is = ap (λ zs. y ∷ zs) r.is })
    (front_or_behind y ys x m)

without : {X : Type 0} (before after : List X) (x y : X) → x ≢ y → Contains (before ++ x ∷ after) y → Contains (before ++ after) y
without before after x y apart m = ⊎_elim
    (λ front. Contains-append_left before after y front)
    (λ back. ⊎_elim
    (λ same. absurd (apart same))
    (λ later. Contains-append_right before after y later)
    (front_or_behind x after y back))
    (Contains-append_cases before (x ∷ after) y m)

-- distinct members of a list are no more than it has
pub few-distinct : {X : Type 0} (xs ys : List X) → AllPairs (λ a b. a ≢ b) xs → ((x : X) → Contains xs x → Contains ys x) → length xs ≤ length ys
few-distinct [] ys apart inside = omega arith
few-distinct {X} (x ∷ xs) ys apart inside =
    let s = standing ys x (inside x (at_front x xs)) in
    let Apart : X → X → Type 0 = λ a b. a ≢ b in
    let rest = few-distinct xs (s.before ++ s.after) (pairs-tail (λ a b. a ≢ b) x xs apart)
    (λ y m. without s.before s.after x y (All-contains (λ b. x ≢ b) xs y (pairs-head (λ a b. a ≢ b) x xs apart) m) (subst (λ zs. Contains zs y) s.is (inside y (behind x xs y m)))) in
    let e = ap length s.is in
    omega (arith, rest, e, length-append s.before s.after, length-append s.before (x ∷ s.after))

-- ---- all choices

sum-from : {X : Type 0} (f : X → ℕ) (g : ℕ → ℕ) (xs : List X) (from : ℕ) → ((k : ℕ) (d : X) → k < length xs → g (from + k) ≡ f (get_or xs k d)) → sum_by g (range_with_len from (length xs)) ≡ sum_by f xs
sum-from f g [] from h = refl
sum-from f g (x ∷ xs) from h =
    let first : g (from + 0) ≡ f x = h 0 x (omega arith) in
    let same : from + 0 ≡ from = omega arith in
    let here : g from ≡ f x = subst (λ n. g n ≡ f x) same first in
    let rest = sum-from f g xs (from + 1) (λ k d l. subst (λ n. g n ≡ f (get_or xs k d)) (let e : from + suc k ≡ from + 1 + k = omega arith in e) (h (suc k) d (omega arith))) in
    let begun : range_with_len from (length (x ∷ xs)) ≡ from ∷ range_with_len (from + 1) (length xs) = refl in
    omega (arith, here, rest, ap (sum_by g) begun, sum_by-cons g from (range_with_len (from + 1) (length xs)), sum_by-cons f x xs)

abbrev choices_at : Instance → ℕ → List Literal
choices_at instance path = map (literal path) (range_with_len 0 (count_at instance path))

abbrev all_choices : Instance → List Literal
all_choices instance = flat_map (choices_at instance) (range_with_len 0 (length instance.paths))

length-choices_at : (instance : Instance) (path : ℕ) → length (choices_at instance path) ≡ count_at instance path
length-choices_at instance path = length-map (range_with_len 0 (count_at instance path)) (literal path) ∙ length-range_with_len 0 (count_at instance path)

length-all : (instance : Instance) → length (all_choices instance) ≡ choice_total instance
length-all instance = length-flat_map (choices_at instance) (range_with_len 0 (length instance.paths))
    ∙ sum-from (λ (path : Path). length (choices path)) (λ path. length (choices_at instance path)) instance.paths 0 at
  where
    at : (k : ℕ) (d : Path) → k < length instance.paths → length (choices_at instance (0 + k)) ≡ length (choices (get_or instance.paths k d))
    at k d small =
        let same : 0 + k ≡ k = omega arith in
        subst (λ n. length (choices_at instance n) ≡ length (choices (get_or instance.paths k d))) (sym same)
        (length-choices_at instance k ∙ ap (λ (p : Path). length (choices p)) (get_or_default instance.paths k no_path d small))

in-all : (instance : Instance) (a : Literal) → IsLiteral instance a → Contains (all_choices instance) a
in-all instance a home = in-flat_map (choices_at instance) (range_with_len 0 (length instance.paths)) a.path a (in-range (length instance.paths) a.path home.path)
    (in-map (literal a.path) (range_with_len 0 (count_at instance a.path)) a.choice (in-range (count_at instance a.path) a.choice home.choice))

-- the arc lines are no more than the choices
pub few-arcs : (instance : Instance) (arcs : List Line) → AreArcLines instance arcs → length arcs ≤ choice_total instance
few-arcs instance arcs lined =
    let each : List (List Literal) = map (λ (line : Line). line.lits) arcs in
    let alone : List (List Literal) = map (λ (a : Literal). a ∷ []) (all_choices instance) in
    let few = few-distinct each alone (pairs-map (λ (a b : List Literal). a ≢ b) (λ (line : Line). line.lits) arcs lined.once) inside in
    omega (arith, few, length-map arcs (λ (line : Line). line.lits), length-map (all_choices instance) (λ (a : Literal). a ∷ []), length-all instance)
  where
    inside : (lits : List Literal) → Contains (map (λ (line : Line). line.lits) arcs) lits → Contains (map (λ (a : Literal). a ∷ []) (all_choices instance)) lits
    inside lits m =
        let found = from-map (λ (line : Line). line.lits) arcs lits m in
        let formed = All-contains (λ (line : Line). (a : Literal) × IsLiteral instance a × IsLineOf instance a line) arcs found.0 lined.formed found.1 in
        subst (Contains (map (λ (a : Literal). a ∷ []) (all_choices instance))) (sym formed.2.lits ∙ found.2)
        (in-map (λ (a : Literal). a ∷ []) (all_choices instance) formed.0 (in-all instance formed.0 formed.1))

-- ---- the tree

length-all_longer : (instance : Instance) (path : ℕ) (lists : List (List Literal)) → length (all_longer instance path lists) ≡ length lists * count_at instance path
length-all_longer instance path [] = omega arith
length-all_longer instance path (literals ∷ lists) =
    length-append (longer instance path literals) (all_longer instance path lists)
    ∙ (sums (length-longer instance path literals) (length-all_longer instance path lists) ∙ one-more (length lists) (count_at instance path))
  where
    sums : {a b c d : ℕ} → a ≡ c → b ≡ d → a + b ≡ c + d
    sums e g = rw (e, g) refl

    one-more : (n c : ℕ) → c + n * c ≡ suc n * c
    one-more n c = grind arith

pub length-tree : (instance : Instance) (t : Tag) (number : ℕ → ℕ) (paths : List ℕ) (lists : List (List Literal)) (out : List Line) → length (emit_tree instance t number paths lists out) ≡ length out + length lists * length (lists_along instance paths)
length-tree instance t number [] lists out = length-prefixes t number lists 0 out ∙ once (length out) (length lists)
  where
    once : (a n : ℕ) → a + n ≡ a + n * 1
    once a n = grind arith
length-tree instance t number (path ∷ paths) lists out =
    let below = emit_tree instance t number paths (all_longer instance path lists) out in
    length-level instance t path lists _ below
    ∙ (ap (λ n. n + length lists) (length-tree instance t number paths (all_longer instance path lists) out ∙ ap (λ m. length out + m * length (lists_along instance paths)) (length-all_longer instance path lists))
    ∙ (sums (length out) (length lists) (count_at instance path) (length (lists_along instance paths))
    ∙ ap (λ m. length out + length lists * m) (sym (length-lists_along instance path paths))))
  where
    sums : (a n c m : ℕ) → a + n * c * m + n ≡ a + n * (1 + c * m)
    sums a n c m = grind arith
