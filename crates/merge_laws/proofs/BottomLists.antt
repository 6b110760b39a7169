-- The lists that are longest in a tree are all lists of choices of its paths.
use Rattle.std.proofs.Common.{◌≡◌, ℕ, List, [], ◌∷◌, ◌++◌, append_assoc, map, flat_map, refl, ap, sym, ◌∙◌}
use Rattle.std.specs.List.{range_with_len}
use Rattle.std.proofs.lemmas.List.{append-nil, map-append, map-id}
use Rattle.std.proofs.lemmas.List.Folds.{flat_map-map}
use Rattle.std.proofs.lemmas.Grind.{flat_map-append}
use Rattle.std.proofs.lemmas.Simd.{map-map}
use Rattle.fapp_model.specs.declared.instance.Instance.{Instance}
use Rattle.fapp_model.specs.declared.literal.Literal.{Literal}
use Rattle.fapp_model.specs.Assignments.{count_at}
use Rattle.fapp_model.specs.search.Partials.{literal}
use Rattle.fapp_model.specs.search.Prefixes.{choice_lists}
use Rattle.merge_laws.specs.Levels.{all_longer, longer}

flat-flat : {X Y Z : Type 0} (f : X → List Y) (g : Y → List Z) (xs : List X) → flat_map g (flat_map f xs) ≡ flat_map (λ x. flat_map g (f x)) xs
flat-flat f g [] = refl
flat-flat f g (x ∷ xs) = flat_map-append g (f x) (flat_map f xs) ∙ ap (λ r. flat_map g (f x) ++ r) (flat-flat f g xs)

flat-same : {X Y : Type 0} (f g : X → List Y) → ((x : X) → f x ≡ g x) → (xs : List X) → flat_map f xs ≡ flat_map g xs
flat-same f g h [] = refl
flat-same f g h (x ∷ xs) = ap (λ r. r ++ flat_map f xs) (h x) ∙ ap (λ r. g x ++ r) (flat-same f g h xs)

map-over-flat : {X Y Z : Type 0} (f : X → List Y) (g : Y → Z) (xs : List X) → map g (flat_map f xs) ≡ flat_map (λ x. map g (f x)) xs
map-over-flat f g [] = refl
map-over-flat f g (x ∷ xs) = map-append g (f x) (flat_map f xs) ∙ ap (λ r. map g (f x) ++ r) (map-over-flat f g xs)

maps-same : {X Y : Type 0} (f g : X → Y) → ((x : X) → f x ≡ g x) → (xs : List X) → map f xs ≡ map g xs
maps-same f g h [] = refl
maps-same f g h (x ∷ xs) = ap (λ y. y ∷ map f xs) (h x) ∙ ap (λ r. g x ∷ r) (maps-same f g h xs)

flat-ones : {X : Type 0} (f : X → X) → ((x : X) → f x ≡ x) → (xs : List X) → flat_map (λ x. f x ∷ []) xs ≡ xs
flat-ones f h [] = refl
flat-ones f h (x ∷ xs) = ap (λ y. y ∷ flat_map (λ x. f x ∷ []) xs) (h x) ∙ ap (λ r. x ∷ r) (flat-ones f h xs)

-- the lists that are longer than some by a choice of each of some paths
abbrev pub bottom : Instance → List ℕ → List (List Literal) → List (List Literal)
bottom instance [] lists = lists
bottom instance (path ∷ paths) lists = bottom instance paths (all_longer instance path lists)

-- what goes on from a list
abbrev onward : Instance → List ℕ → List Literal → List (List Literal)
onward instance paths l = map (λ m. l ++ m) (choice_lists instance paths)

module _ (instance : Instance) (path : ℕ) (paths : List ℕ) where
  abbrev each-way : List Literal → ℕ → List (List Literal)
  each-way l index = map (λ m. (l ++ literal path index ∷ []) ++ m) (choice_lists instance paths)

  by-choice : (l : List Literal) → flat_map (onward instance paths) (longer instance path l) ≡ onward instance (path ∷ paths) l
  by-choice l = flat_map-map (onward instance paths) (λ index. l ++ literal path index ∷ []) (range_with_len 0 (count_at instance path))
      ∙ (flat-same (each-way l) (λ index. map (λ m. l ++ m) (map (λ more. literal path index ∷ more) (choice_lists instance paths)))
      (λ index. maps-same (λ m. (l ++ literal path index ∷ []) ++ m) (λ m. l ++ literal path index ∷ m) (λ m. append_assoc l (literal path index ∷ []) m) (choice_lists instance paths)
      ∙ sym (map-map (λ m. l ++ m) (λ more. literal path index ∷ more) (choice_lists instance paths))) (range_with_len 0 (count_at instance path))
      ∙ sym (map-over-flat (λ index. map (λ more. literal path index ∷ more) (choice_lists instance paths)) (λ m. l ++ m) (range_with_len 0 (count_at instance path))))

bottom-onward : (instance : Instance) (paths : List ℕ) (lists : List (List Literal)) → bottom instance paths lists ≡ flat_map (onward instance paths) lists
bottom-onward instance [] lists = sym (flat-ones (λ l. l ++ []) append-nil lists)
bottom-onward instance (path ∷ paths) lists = bottom-onward instance paths (all_longer instance path lists)
    ∙ (flat-flat (longer instance path) (onward instance paths) lists ∙ flat-same (λ l. flat_map (onward instance paths) (longer instance path l)) (onward instance (path ∷ paths)) (by-choice instance path paths) lists)

pub bottom-all : (instance : Instance) (paths : List ℕ) → bottom instance paths ([] ∷ []) ≡ choice_lists instance paths
bottom-all instance paths = bottom-onward instance paths ([] ∷ []) ∙ (append-nil (onward instance paths []) ∙ map-id (choice_lists instance paths))
