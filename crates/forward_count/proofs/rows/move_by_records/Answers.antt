use Rattle.std.proofs.Common.{◌≡◌, ◌+◌, ◌<◌, ◌≤◌, ◌∙◌, ℕ, List, refl, ap, length, min, set, subst, sym, arith}
use Rattle.fapp_model.specs.search.Partials.{literal}
use Rattle.choice_counts.specs.Counts.{pair_tally}
use Rattle.choice_counts.specs.Moves.{CanMove, moved}
use Rattle.choice_counts.specs.Tallies.{tally_at}
use Rattle.forward_count.specs.Floors.{IsFloor}
use Rattle.forward_count.proofs.RowLaws.{IsMapped, floor_write, mapped_all, mapped_more, mapped_none}
use Rattle.forward_count.proofs.rows.move_by_records.Goals as goal

pub loop-index-init : goal.loop-index-init
loop-index-init c = record { mapped = mapped_none _ _; floor = c.requires.floor }

pub move_tally-lowest-requires-clause-can : goal.move_tally-lowest-requires-clause-can
move_tally-lowest-requires-clause-can c =
    let step = c.args.step.now in
    let index = c.loop-index.index in
    let tally_is : c.pair_tally-pair.result ≡ pair_tally step.tables.now step.level (literal c.args.other index) step.literal = c.pair_tally-pair.ensures.tally in
    let inside : index < length c.args.tallies.now = omega (arith, c.loop-index.invariant.mapped.count, c.count-index-end.ensures.count, c.requires.count, c.loop-index-test.true) in
    subst (λ (n : ℕ). CanMove step.taking (tally_at c.loop-index.tallies index) n) (sym tally_is)
    (subst (λ (w : ℕ). CanMove step.taking w (pair_tally step.tables.now step.level (literal c.args.other index) step.literal)) (sym (c.loop-index.invariant.mapped.waiting index (omega arith)))
    (c.requires.can index inside))

pub loop-index-preserved : goal.loop-index-preserved
loop-index-preserved c =
    let step = c.args.step.now in
    let index = c.loop-index.index in
    let tally_is : c.pair_tally-pair.result ≡ pair_tally step.tables.now step.level (literal c.args.other index) step.literal = c.pair_tally-pair.ensures.tally in
    let f = λ (k : ℕ) (tally : ℕ). moved step.taking tally (pair_tally step.tables.now step.level (literal c.args.other k) step.literal) in
    let old = c.args.tallies.now in
    let tallies = c.loop-index.tallies in
    let inside : index < length tallies = omega (arith, c.loop-index.invariant.mapped.count, c.count-index-end.ensures.count, c.requires.count, c.loop-index-test.true) in
    let tally = f index (tally_at tallies index) in
    let is : moved step.taking (tally_at tallies index) c.pair_tally-pair.result ≡ tally = ap (moved step.taking (tally_at tallies index)) tally_is in
    let same : c.move_tally-lowest.new.tallies ≡ set tallies index tally = c.move_tally-lowest.ensures.tallies ∙ ap (set tallies index) is in
    let low : c.move_tally-lowest.result ≡ min c.loop-index.lowest tally = c.move_tally-lowest.ensures.floor ∙ ap (min c.loop-index.lowest) is in
    record {
      mapped = subst (λ (ws : List ℕ). IsMapped f old ws (index + 1)) (sym same) (mapped_more f old tallies index tally c.loop-index.invariant.mapped inside refl);
      floor = subst (λ (ws : List ℕ). IsFloor ws c.move_tally-lowest.result) (sym same) (floor_write tallies index tally c.loop-index.lowest c.move_tally-lowest.result inside c.loop-index.invariant.floor low);
    }

pub returns-clause-tallies : goal.returns-clause-tallies
returns-clause-tallies c =
    let step = c.args.step.now in
    let f = λ (k : ℕ) (tally : ℕ). moved step.taking tally (pair_tally step.tables.now step.level (literal c.args.other k) step.literal) in
    let past : length c.loop-index.tallies ≤ c.loop-index.index = omega (arith, c.loop-index.invariant.mapped.count, c.count-index-end.ensures.count, c.requires.count, c.loop-index-test.false) in
    mapped_all f c.args.tallies.now c.loop-index.tallies c.loop-index.index c.loop-index.invariant.mapped past
