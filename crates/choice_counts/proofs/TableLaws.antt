-- Tables of links that a loop makes anew.
use Rattle.std.proofs.Common.{◌≡◌, ℕ, ◌+◌, ◌<◌, List, [], length, set, get_or, sym, ap, ◌∙◌, subst, inl, inr, arith}
use Rattle.std.proofs.lemmas.Bool.{cases_eq}
use Rattle.std.proofs.lemmas.List.{get_or-set_other, get_or-set_same, get_or_default, length-set}
use Rattle.fapp_model.specs.declared.instance.Instance.{Instance}
use Rattle.fapp_tables.specs.Indexes.{neighbours_of}
use Rattle.choice_counts.specs.declared.fill.PairCells.{PairCells}
use Rattle.choice_counts.specs.Links.{IsPairCells}
use Rattle.choice_counts.specs.Tables.{ArePairCells, HasLinks, pair_cells_at, links_of, no_pair_cells}

-- what holds of each item so far, and of the next one, when it is written
pub one_more : {X : Type 0} (P : ℕ → X → Type 0) (xs : List X) (index : ℕ) (x d : X) → index < length xs → ((k : ℕ) → k < index → P k (get_or xs k d)) → P index x →
    (k : ℕ) → k < index + 1 → P k (get_or (set xs index x) k d)
one_more P xs index x d inside before here k below = elim (cases_eq k index) [
  | inl same ↦ subst (λ j. P j (get_or (set xs index x) j d)) (sym same) (subst (P index) (sym (get_or-set_same xs index x d inside)) here)
  | inr other ↦ subst (P k) (sym (get_or-set_other xs index k x d other)) (before k (omega (arith, below, other)))
]

-- a link of what is said in other words
pub same_link : (i j : Instance) (k l p q o r : ℕ) (link : PairCells) → i ≡ j → k ≡ l → p ≡ q → o ≡ r → IsPairCells i k p o link → IsPairCells j l q r link
same_link i j k l p q o r link ei ek ep eo is =
    subst (λ (x : Instance). IsPairCells x l q r link) ei (subst (λ (x : ℕ). IsPairCells i x q r link) ek (subst (λ (x : ℕ). IsPairCells i k x r link) ep (subst (λ (x : ℕ). IsPairCells i k p x link) eo is)))

-- as many links as before
pub shaped_more : (instance : Instance) (table : List (List PairCells)) (paths index : ℕ) (links : List PairCells) → index < length table → HasLinks instance table paths →
    length links ≡ length (neighbours_of instance index) → HasLinks instance (set table index links) paths
shaped_more instance table paths index links inside shaped count = record {
  count = length-set table index links ∙ shaped.count;
  each = λ k below. elim (cases_eq k index) [
    | inl same ↦ subst (λ j. length (links_of (set table index links) j) ≡ length (neighbours_of instance j)) (sym same) (ap (λ (ls : List PairCells). length ls) (get_or-set_same table index links [] inside) ∙ count)
    | inr other ↦ ap (λ (ls : List PairCells). length ls) (get_or-set_other table index k links [] other) ∙ shaped.each k below
  ];
}

-- the link of a path and place
pub link_found : (instance : Instance) (level : ℕ) (table : List (List PairCells)) (path place : ℕ) (row : List PairCells) (link : PairCells) → ArePairCells instance level table → path < length instance.paths →
    place < length (neighbours_of instance path) → row ≡ get_or table path row → link ≡ get_or row place link → IsPairCells instance level path (get_or (neighbours_of instance path) place 0) link
link_found instance level table path place row link are below inside er el =
    let links = are.each path below in
    let row_is : row ≡ links_of table path = er ∙ get_or_default table path row [] (omega (arith, below, are.count)) in
    let count : length row ≡ length (neighbours_of instance path) = ap (λ (ls : List PairCells). length ls) row_is ∙ links.count in
    let link_is : link ≡ pair_cells_at (links_of table path) place = el ∙ (get_or_default row place link no_pair_cells (omega (arith, inside, count)) ∙ ap (λ (ls : List PairCells). pair_cells_at ls place) row_is) in
    subst (λ (x : PairCells). IsPairCells instance level path (get_or (neighbours_of instance path) place 0) x) (sym link_is) (links.each place inside)
