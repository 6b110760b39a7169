-- What a literal adds to the rows of all paths is what the rows of one literal more have.
use Rattle.std.proofs.Common.{◌≡◌, ℕ, ◌+◌, ◌-◌, ◌<◌, ◌≤◌, Bool, true, false, cond, List, length, map, get_or, refl, sym, ap, ◌∙◌, subst, arith, All, zero-add}
use Rattle.std.specs.List.{range_with_len}
use Rattle.std.proofs.lemmas.List.Elements.{All-from_get_or}
use Rattle.std.proofs.lemmas.List.FromFn.{fill_by_all, get_or-map-range_with_len, length-map-range_with_len}
use Rattle.fapp_model.specs.declared.instance.Instance.{Instance}
use Rattle.fapp_model.specs.declared.literal.Literal.{Literal}
use Rattle.fapp_model.specs.Assignments.{count_at}
use Rattle.fapp_model.specs.Instances.{IsInstance}
use Rattle.fapp_model.specs.search.Clashes.{shares_record}
use Rattle.fapp_model.specs.search.Partials.{IsPartial, literal}
use Rattle.fapp_tables.proofs.IndexMembers.{records-turned}
use Rattle.choice_counts.specs.declared.rows.PathTallies.{PathTallies}
use Rattle.choice_counts.specs.Counts.{pair_tally, rows_of, tally_of, tallies_of}
use Rattle.choice_counts.specs.Moves.{CanMoveAll, moved, rows_with, tallies_with}
use Rattle.choice_counts.specs.Totals.{AreRows}
use Rattle.choice_counts.specs.Tallies.{least_of_tallies, no_tallies, tallies_at, tallies_by, tally_at}
use Rattle.choice_counts.proofs.Bounds.{tally_small}
use Rattle.choice_counts.proofs.Clash.{none_apart, pair_turned}
use Rattle.choice_counts.proofs.OneMore.{IsOneMore, tally_more}
use Rattle.fapp_model.specs.declared.level.TheConstants.{MAX_LEVELS}

map_same : {X : Type 0} (f g : ℕ → X) (n : ℕ) (d : X) → ((k : ℕ) → k < n → f k ≡ g k) → map f (range_with_len 0 n) ≡ map g (range_with_len 0 n)
map_same f g n d same =
    fill_by_all g (map f (range_with_len 0 n)) n d (length-map-range_with_len f 0 n) (λ k below. get_or-map-range_with_len f 0 n k k d below (zero-add k) ∙ same k below)

module _ (instance : Instance) (level : ℕ) (arc : Literal → Bool) where
  pub row_is : (literals : List Literal) (path : ℕ) → path < length instance.paths → tallies_at (rows_of instance level arc literals) path ≡ tallies_by (tallies_of instance level arc literals path)
  row_is literals path below = get_or-map-range_with_len (λ q. tallies_by (tallies_of instance level arc literals q)) 0 (length instance.paths) path path no_tallies below (zero-add path)

  pub tally_count : (literals : List Literal) (path : ℕ) → length (tallies_of instance level arc literals path) ≡ count_at instance path
  tally_count literals path = length-map-range_with_len (λ k. tally_of instance level arc literals (literal path k)) 0 (count_at instance path)

  pub tally_in : (literals : List Literal) (path index : ℕ) → index < count_at instance path → tally_at (tallies_of instance level arc literals path) index ≡ tally_of instance level arc literals (literal path index)
  tally_in literals path index inside = get_or-map-range_with_len (λ k. tally_of instance level arc literals (literal path k)) 0 (count_at instance path) index index 0 inside (zero-add index)

  -- the tally of a choice stands in its path's row
  pub tally_is : (literals : List Literal) (path index : ℕ) → path < length instance.paths → index < count_at instance path →
      tally_at (tallies_at (rows_of instance level arc literals) path).tallies index ≡ tally_of instance level arc literals (literal path index)
  tally_is literals path index below inside = ap (λ (r : PathTallies). tally_at r.tallies index) (row_is literals path below) ∙ tally_in literals path index inside

  pub rows_are : (literals : List Literal) → AreRows instance (rows_of instance level arc literals)
  rows_are literals = record {
    count = length-map-range_with_len (λ p. tallies_by (tallies_of instance level arc literals p)) 0 (length instance.paths);
    tallies = λ path below. ap (λ (r : PathTallies). length r.tallies) (row_is literals path below) ∙ tally_count literals path;
    least = All-from_get_or (λ (r : PathTallies). r.least ≡ least_of_tallies r.tallies) (rows_of instance level arc literals) no_tallies (λ q below.
        subst (λ (r : PathTallies). r.least ≡ least_of_tallies r.tallies) (sym (row_is literals q (omega (arith, length-map-range_with_len (λ p. tallies_by (tallies_of instance level arc literals p)) 0 (length instance.paths))))) refl);
  }

  module _ (less more : List Literal) (now : Literal) (one : IsOneMore less more now) where
    tallies_taken : (other : ℕ) → tallies_with false instance level now other (tallies_of instance level arc less other) ≡ tallies_of instance level arc more other
    tallies_taken other =
        let old = tallies_of instance level arc less other in
        let wide : ℕ → ℕ = λ k. tally_at old k + pair_tally instance level (literal other k) now in
        ap (λ n. map wide (range_with_len 0 n)) (tally_count less other)
        ∙ map_same wide (λ k. tally_of instance level arc more (literal other k)) (count_at instance other) 0
        (λ k below. ap (λ w. w + pair_tally instance level (literal other k) now) (tally_in less other k below) ∙ sym (tally_more instance less more now one level arc (literal other k)))

    tallies_back : (other : ℕ) → tallies_with true instance level now other (tallies_of instance level arc more other) ≡ tallies_of instance level arc less other
    tallies_back other =
        let old = tallies_of instance level arc more other in
        let narrow : ℕ → ℕ = λ k. tally_at old k - pair_tally instance level (literal other k) now in
        ap (λ n. map narrow (range_with_len 0 n)) (tally_count more other)
        ∙ map_same narrow (λ k. tally_of instance level arc less (literal other k)) (count_at instance other) 0
        (λ k below. let e = tally_in more other k below in let m = tally_more instance less more now one level arc (literal other k) in omega (arith, e, m))

    tallies_kept : (other : ℕ) → shares_record instance now.path other ≡ false → tallies_of instance level arc less other ≡ tallies_of instance level arc more other
    tallies_kept other apart =
        map_same (λ k. tally_of instance level arc less (literal other k)) (λ k. tally_of instance level arc more (literal other k)) (count_at instance other) 0
        (λ k below. let z = pair_turned instance level (literal other k) now ∙ none_apart instance level now (literal other k) apart in omega (arith, tally_more instance less more now one level arc (literal other k), z))

    pub rows_taken : rows_with false instance level now (rows_of instance level arc less) ≡ rows_of instance level arc more
    rows_taken =
        map_same (λ q. cond (shares_record instance now.path q) (tallies_by (tallies_with false instance level now q (tallies_at (rows_of instance level arc less) q).tallies)) (tallies_at (rows_of instance level arc less) q))
        (λ q. tallies_by (tallies_of instance level arc more q)) (length instance.paths) no_tallies
        (λ q below. by_cases q below (shares_record instance now.path q) refl)
      where
        by_cases : (q : ℕ) → q < length instance.paths → (b : Bool) → shares_record instance now.path q ≡ b →
            cond b (tallies_by (tallies_with false instance level now q (tallies_at (rows_of instance level arc less) q).tallies)) (tallies_at (rows_of instance level arc less) q) ≡ tallies_by (tallies_of instance level arc more q)
        by_cases q below true e = ap (λ (r : PathTallies). tallies_by (tallies_with false instance level now q r.tallies)) (row_is less q below) ∙ ap tallies_by (tallies_taken q)
        by_cases q below false e = row_is less q below ∙ ap tallies_by (tallies_kept q e)

    pub rows_back : rows_with true instance level now (rows_of instance level arc more) ≡ rows_of instance level arc less
    rows_back =
        map_same (λ q. cond (shares_record instance now.path q) (tallies_by (tallies_with true instance level now q (tallies_at (rows_of instance level arc more) q).tallies)) (tallies_at (rows_of instance level arc more) q))
        (λ q. tallies_by (tallies_of instance level arc less q)) (length instance.paths) no_tallies
        (λ q below. by_cases q below (shares_record instance now.path q) refl)
      where
        by_cases : (q : ℕ) → q < length instance.paths → (b : Bool) → shares_record instance now.path q ≡ b →
            cond b (tallies_by (tallies_with true instance level now q (tallies_at (rows_of instance level arc more) q).tallies)) (tallies_at (rows_of instance level arc more) q) ≡ tallies_by (tallies_of instance level arc less q)
        by_cases q below true e = ap (λ (r : PathTallies). tallies_by (tallies_with true instance level now q r.tallies)) (row_is more q below) ∙ ap tallies_by (tallies_back q)
        by_cases q below false e = row_is more q below ∙ ap tallies_by (sym (tallies_kept q e))

    pub can_take_back : CanMoveAll true instance level now (rows_of instance level arc more)
    can_take_back other below index inside =
        let small : index < count_at instance other = omega (arith, ap (λ (r : PathTallies). length r.tallies) (row_is more other below), tally_count more other) in
        omega (arith, tally_is more other index below small, tally_more instance less more now one level arc (literal other index))

  pub can_add : IsInstance instance → level ≤ MAX_LEVELS → (literals : List Literal) → IsPartial instance literals → (now : Literal) → CanMoveAll false instance level now (rows_of instance level arc literals)
  can_add valid within literals partial now other below index inside =
      let small : index < count_at instance other = omega (arith, ap (λ (r : PathTallies). length r.tallies) (row_is literals other below), tally_count literals other) in
      omega (arith, tally_is literals other index below small, tally_small instance valid level within arc literals partial (literal other index))
