use Rattle.std.proofs.Common.{◌≡◌, ◌+◌, ◌<◌, ◌≤◌, ◌∙◌, ℕ, List, ap, arith, get_or, length, set, subst, sym, take}
use Rattle.std.proofs.lemmas.List.{take_all}
use Rattle.fapp_model.specs.Assignments.{count_at}
use Rattle.fapp_model.specs.search.Clashes.{shares_record}
use Rattle.fapp_tables.specs.Indexes.{neighbours_of}
use Rattle.choice_counts.specs.declared.rows.PathTallies.{PathTallies}
use Rattle.choice_counts.specs.Moves.{CanMoveRow, tallies_with}
use Rattle.choice_counts.specs.Tallies.{tallies_at, tallies_by}
use Rattle.forward_count.proofs.Added.{IsAdded, added_all, added_more, waits}
use Rattle.forward_count.specs.Floors.{IsFloor}
use Rattle.forward_count.proofs.RowLaws.{row_floor}
use Rattle.forward_count.proofs.Neighbours.{leads, leads_elsewhere, leads_here, near_all, near_below, near_new, near_shares}
use Rattle.choice_counts.proofs.NeighbourLaws.{shares_apart}
use Rattle.forward_count.proofs.moves.move_all.Goals as goal

pub refresh-counted-requires-clause-other : goal.refresh-counted-requires-clause-other
refresh-counted-requires-clause-other c =
    let step = c.args.step.now in
    let near = c.neighbours-neighbours.ensures in
    let place = c.loop-place.place in
    let inside : place < length (neighbours_of step.tables.now step.literal.path) = subst (λ (ns : List ℕ). place < length ns) near c.loop-place-test.true in
    subst (λ (ns : List ℕ). get_or ns place 0 < length step.tables.now.paths) (sym near) (near_below step.tables.now step.literal.path place inside)

pub refresh-counted-requires-clause-apart : goal.refresh-counted-requires-clause-apart
refresh-counted-requires-clause-apart c =
    let step = c.args.step.now in
    let near = c.neighbours-neighbours.ensures in
    let place = c.loop-place.place in
    let inside : place < length (neighbours_of step.tables.now step.literal.path) = subst (λ (ns : List ℕ). place < length ns) near c.loop-place-test.true in
    let shares = near_shares step.tables.now step.literal.path place inside in
    λ same. shares_apart step.tables.now c.requires.instance step.literal.path _ shares (same ∙ ap (λ (ns : List ℕ). get_or ns place 0) near)

pub refresh-counted-requires-clause-count : goal.refresh-counted-requires-clause-count
refresh-counted-requires-clause-count c =
    let step = c.args.step.now in
    let near = c.neighbours-neighbours.ensures in
    let place = c.loop-place.place in
    let inside : place < length (neighbours_of step.tables.now step.literal.path) = subst (λ (ns : List ℕ). place < length ns) near c.loop-place-test.true in
    let q = get_or (neighbours_of step.tables.now step.literal.path) place 0 in
    let below = near_below step.tables.now step.literal.path place inside in
    let old = waits _ _ c.args.rows.now c.loop-place.rows c.loop-place.invariant.added q (omega (arith, below, c.requires.rows.count)) (near_new step.tables.now step.literal.path place inside) in
    subst (λ (ns : List ℕ). length (tallies_at c.loop-place.rows (get_or ns place 0)).tallies ≡ count_at step.tables.now (get_or ns place 0)) (sym near)
    (ap (λ (r : PathTallies). length r.tallies) old ∙ c.requires.rows.tallies q below)

pub refresh-counted-requires-clause-can : goal.refresh-counted-requires-clause-can
refresh-counted-requires-clause-can c =
    let step = c.args.step.now in
    let near = c.neighbours-neighbours.ensures in
    let place = c.loop-place.place in
    let inside : place < length (neighbours_of step.tables.now step.literal.path) = subst (λ (ns : List ℕ). place < length ns) near c.loop-place-test.true in
    let q = get_or (neighbours_of step.tables.now step.literal.path) place 0 in
    let below = near_below step.tables.now step.literal.path place inside in
    let old = waits _ _ c.args.rows.now c.loop-place.rows c.loop-place.invariant.added q (omega (arith, below, c.requires.rows.count)) (near_new step.tables.now step.literal.path place inside) in
    subst (λ (ns : List ℕ). CanMoveRow step.taking step.tables.now step.level step.literal (get_or ns place 0) (tallies_at c.loop-place.rows (get_or ns place 0)).tallies) (sym near)
    (subst (λ (r : PathTallies). CanMoveRow step.taking step.tables.now step.level step.literal q r.tallies) (sym old) (c.requires.can q below))

pub refresh-counted-requires-clause-least : goal.refresh-counted-requires-clause-least
refresh-counted-requires-clause-least c =
    let step = c.args.step.now in
    let near = c.neighbours-neighbours.ensures in
    let place = c.loop-place.place in
    let inside : place < length (neighbours_of step.tables.now step.literal.path) = subst (λ (ns : List ℕ). place < length ns) near c.loop-place-test.true in
    let q = get_or (neighbours_of step.tables.now step.literal.path) place 0 in
    let below = near_below step.tables.now step.literal.path place inside in
    let old = waits _ _ c.args.rows.now c.loop-place.rows c.loop-place.invariant.added q (omega (arith, below, c.requires.rows.count)) (near_new step.tables.now step.literal.path place inside) in
    subst (λ (ns : List ℕ). IsFloor (tallies_at c.loop-place.rows (get_or ns place 0)).tallies (tallies_at c.loop-place.rows (get_or ns place 0)).least) (sym near)
    (subst (λ (r : PathTallies). IsFloor r.tallies r.least) (sym old) (row_floor c.args.rows.now c.requires.rows.least q (omega (arith, below, c.requires.rows.count))))

pub loop-place-preserved : goal.loop-place-preserved
loop-place-preserved c =
    let step = c.args.step.now in
    let near = c.neighbours-neighbours.ensures in
    let place = c.loop-place.place in
    let ns = neighbours_of step.tables.now step.literal.path in
    let inside : place < length ns = subst (λ (xs : List ℕ). place < length xs) near c.loop-place-test.true in
    let old = c.args.rows.now in
    let q = get_or ns place 0 in
    let q_is : get_or c.neighbours-neighbours.result.now place 0 ≡ q = ap (λ (xs : List ℕ). get_or xs place 0) near in
    let made : ℕ → List ℕ = λ k. tallies_with step.taking step.tables.now step.level step.literal k (tallies_at old k).tallies in
    let below = near_below step.tables.now step.literal.path place inside in
    let waiting = waits made (leads (take place ns)) old c.loop-place.rows c.loop-place.invariant.added q (omega (arith, below, c.requires.rows.count)) (near_new step.tables.now step.literal.path place inside) in
    let row : PathTallies = tallies_by (tallies_with step.taking step.tables.now step.level step.literal q (tallies_at c.loop-place.rows q).tallies) in
    let is : row ≡ tallies_by (made q) = ap (λ (r : PathTallies). tallies_by (tallies_with step.taking step.tables.now step.level step.literal q r.tallies)) waiting in
    let added = added_more made (leads (take place ns)) (leads (take (place + 1) ns)) old c.loop-place.rows q row c.loop-place.invariant.added (omega (arith, below, c.requires.rows.count))
    (leads_here ns place inside) (λ k other. leads_elsewhere ns place k inside other) is in
    let written : c.refresh-counted.new.rows ≡ set c.loop-place.rows q row = c.refresh-counted.ensures.rows ∙ ap (λ (k : ℕ). set c.loop-place.rows k (tallies_by (tallies_with step.taking step.tables.now step.level step.literal k (tallies_at c.loop-place.rows k).tallies))) q_is in
    record {
      added = subst (λ (rs : List PathTallies). IsAdded made (leads (take (place + 1) ns)) old rs) (sym written) added;
      open_paths = c.refresh-counted.ensures.open;
    }

pub returns-clause-rows : goal.returns-clause-rows
returns-clause-rows c =
    let step = c.args.step.now in
    let near = c.neighbours-neighbours.ensures in
    let ns = neighbours_of step.tables.now step.literal.path in
    let old = c.args.rows.now in
    let made : ℕ → List ℕ = λ k. tallies_with step.taking step.tables.now step.level step.literal k (tallies_at old k).tallies in
    let past : length ns ≤ c.loop-place.place = omega (arith, ap (λ (xs : List ℕ). length xs) near) in
    let all = take_all c.loop-place.place ns past in
    added_all made (leads (take c.loop-place.place ns)) (shares_record step.tables.now step.literal.path) old c.loop-place.rows (length step.tables.now.paths) c.requires.rows.count c.loop-place.invariant.added
    (λ q below. ap (λ (xs : List ℕ). leads xs q) all ∙ near_all step.tables.now step.literal.path q below)
