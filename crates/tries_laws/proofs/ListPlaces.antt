-- Lists of choices by place and by length.
use Rattle.std.proofs.Common.{◌≡◌, ℕ, zero, suc, ◌+◌, ◌*◌, ◌/◌, ◌%◌, ◌<◌, List, [], ◌∷◌, length, get_or, take, map, flat_map, All, sum_by, refl, ap, sym, ◌∙◌, inl, inr, ⊎_elim, arith, mul-pos, add-one, length-take-le}
use Rattle.std.specs.List.{range_with_len}
use Rattle.std.proofs.lemmas.List.{get_or-map, length-map}
use Rattle.std.proofs.lemmas.List.Concat.{get_or-flat_map}
use Rattle.std.proofs.lemmas.List.Elements.{All-head, All-tail}
use Rattle.std.proofs.lemmas.List.FromFn.{length-range_with_len, get_or-range_with_len}
use Rattle.std.proofs.lemmas.List.Sums.{sum_by-cons}
use Rattle.std.proofs.lemmas.Nat.{div_below, mod_below, div-add-mod'}
use Rattle.fapp_model.specs.declared.instance.Instance.{Instance}
use Rattle.fapp_model.specs.declared.instance.Path.{Path}
use Rattle.fapp_model.specs.declared.literal.Literal.{Literal}
use Rattle.fapp_model.specs.Assignments.{count_at, no_path, path_at}
use Rattle.fapp_model.specs.Choices.{choices}
use Rattle.fapp_model.specs.Instances.{IsInstance, IsPath}
use Rattle.fapp_model.specs.search.Jobs.{ways}
use Rattle.fapp_model.specs.search.Partials.{literal}
use Rattle.fapp_model.specs.search.Prefixes.{one_more, lists_along, choice_lists}
use Rattle.fapp_model.proofs.ChoiceLemmas.{fixed_count, free_count}
use Rattle.tries_laws.proofs.Lists.{length-pieces, length-one_more, length-lists_along, length-choice_lists}
use Rattle.fapp_model.proofs.Sums.{sum_by-same-members}

-- ---- by place

piece_at : (instance : Instance) (path : ℕ) (lists : List (List Literal)) (i j : ℕ) → i < count_at instance path → j < length lists → get_or (one_more instance path lists) (i * length lists + j) [] ≡ literal path i ∷ get_or lists j []
piece_at instance path lists i j l m =
    let count = count_at instance path in
    let f : ℕ → List (List Literal) = λ k. map (λ rest. literal path k ∷ rest) lists in
    let at : get_or (range_with_len 0 count) i 0 ≡ i = omega (arith, get_or-range_with_len 0 count i 0 l) in
    let before : length (flat_map f (take i (range_with_len 0 count))) ≡ i * length lists =
    length-pieces path lists (take i (range_with_len 0 count)) ∙ ap (λ n. n * length lists) (length-take-le i (range_with_len 0 count) (omega (arith, length-range_with_len 0 count))) in
    let wide : j < length (f (get_or (range_with_len 0 count) i 0)) = omega (arith, length-map lists (λ rest. literal path (get_or (range_with_len 0 count) i 0) ∷ rest)) in
    let whole = get_or-flat_map f (range_with_len 0 count) i j 0 [] (omega (arith, length-range_with_len 0 count)) wide in
    ap (λ n. get_or (one_more instance path lists) (n + j) []) (sym before)
    ∙ (whole
    ∙ (ap (λ k. get_or (f k) j []) at
    ∙ get_or-map (λ rest. literal path i ∷ rest) lists j [] [] m))

pub list_at_place : (instance : Instance) (path : ℕ) (paths : List ℕ) (place : ℕ) → place < ways instance (path ∷ paths) → get_or (choice_lists instance (path ∷ paths)) place [] ≡ literal path (place / ways instance paths) ∷ get_or (choice_lists instance paths) (place % ways instance paths) []
list_at_place instance path paths place l =
    let w = ways instance paths in
    let count = count_at instance path in
    let long : length (choice_lists instance paths) ≡ w = length-choice_lists instance paths in
    let some : 0 < w = positive w count place l in
    let i : place / w < count = div_below place w count some l in
    let j : place % w < w = mod_below place w some in
    let whole : place / w * length (choice_lists instance paths) + place % w ≡ place =
    ap (λ n. place / w * n + place % w) long ∙ div-add-mod' place w in
    ap (λ n. get_or (choice_lists instance (path ∷ paths)) n []) (sym whole)
    ∙ piece_at instance path (choice_lists instance paths) (place / w) (place % w) i (omega arith)
  where
    positive : (w count place : ℕ) → place < count * w → 0 < w
    positive zero count place h = absurd (omega arith)
    positive (suc w) count place h = omega arith

-- ---- by length

shifted : (f : ℕ → ℕ) (a n : ℕ) → sum_by f (range_with_len (a + 1) n) ≡ sum_by (λ k. f (k + 1)) (range_with_len a n)
shifted f a zero = refl
shifted f a (suc n) = omega (arith, sum_by-cons f (a + 1) (range_with_len (a + 1 + 1) n), sum_by-cons (λ k. f (k + 1)) a (range_with_len (a + 1) n), shifted f (a + 1) n)

scaled : {X : Type 0} (c : ℕ) (f : X → ℕ) (xs : List X) → sum_by (λ x. c * f x) xs ≡ c * sum_by f xs
scaled c f [] = omega arith
scaled c f (x ∷ xs) =
    let parts : sum_by (λ y. c * f y) (x ∷ xs) ≡ c * (f x + sum_by f xs) = omega (arith, sum_by-cons (λ y. c * f y) x xs, scaled c f xs) in
    parts ∙ ap (λ n. c * n) (sym (sum_by-cons f x xs))

pub length-by_length : (instance : Instance) (paths : List ℕ) → length (lists_along instance paths) ≡ sum_by (λ n. length (choice_lists instance (take n paths))) (range_with_len 0 (length paths + 1))
length-by_length instance [] = refl
length-by_length instance (path ∷ paths) =
    let f : ℕ → ℕ = λ n. length (choice_lists instance (take n (path ∷ paths))) in
    let g : ℕ → ℕ = λ n. length (choice_lists instance (take n paths)) in
    let long : suc (length paths) + 1 ≡ suc (length paths + 1) = omega arith in
    let unfold_one : sum_by f (range_with_len 0 (suc (length paths + 1))) ≡ 1 + sum_by f (range_with_len (0 + 1) (length paths + 1)) =
    sum_by-cons f 0 (range_with_len (0 + 1) (length paths + 1)) in
    let each : sum_by (λ k. f (k + 1)) (range_with_len 0 (length paths + 1)) ≡ sum_by (λ k. count_at instance path * g k) (range_with_len 0 (length paths + 1)) =
    sum_by-same-members (λ k. f (k + 1)) (λ k. count_at instance path * g k) (range_with_len 0 (length paths + 1)) (λ k d l. step instance path paths (get_or (range_with_len 0 (length paths + 1)) k d)) in
    let scale = scaled (count_at instance path) g (range_with_len 0 (length paths + 1)) in
    let shift = shifted f 0 (length paths + 1) in
    let rest : count_at instance path * length (lists_along instance paths) ≡ count_at instance path * sum_by g (range_with_len 0 (length paths + 1)) =
    ap (λ n. count_at instance path * n) (length-by_length instance paths) in
    let whole = length-lists_along instance path paths in
    let total : length (lists_along instance (path ∷ paths)) ≡ sum_by f (range_with_len 0 (suc (length paths + 1))) = omega arith in
    total ∙ ap (λ n. sum_by f (range_with_len 0 n)) (sym long)
  where
    step : (instance : Instance) (path : ℕ) (paths : List ℕ) (k : ℕ) → length (choice_lists instance (take (k + 1) (path ∷ paths))) ≡ count_at instance path * length (choice_lists instance (take k paths))
    step instance path paths k = rw add-one (length-one_more instance path (choice_lists instance (take k paths)))

-- ---- some list

some_choice : (path : Path) → IsPath path → 0 < length (choices path)
some_choice path h = ⊎_elim
    (λ e. omega (arith, fixed_count path (inl e), h.some))
    (λ u. ⊎_elim
    (λ e. omega (arith, free_count path e, h.some))
    (λ e. omega (arith, fixed_count path (inr e), h.some))
    u)
    h.polarization

pub some_count : (instance : Instance) → IsInstance instance → (path : ℕ) → path < length instance.paths → 0 < count_at instance path
some_count instance v path l = some_choice (path_at instance path) (v.paths path no_path l)

pub some_ways : (instance : Instance) → IsInstance instance → (paths : List ℕ) → All (λ p. p < length instance.paths) paths → 0 < ways instance paths
some_ways instance v [] h = omega arith
some_ways instance v (path ∷ paths) h =
    mul-pos (some_count instance v path (All-head (λ p. p < length instance.paths) path paths h)) (some_ways instance v paths (All-tail (λ p. p < length instance.paths) path paths h))
