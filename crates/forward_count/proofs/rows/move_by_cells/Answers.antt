use Rattle.std.proofs.Common.{◌≡◌, ◌+◌, ◌<◌, ◌≤◌, ◌∙◌, ℕ, List, refl, ap, length, min, set, subst, sym, arith}
use Rattle.fapp_model.specs.declared.choice.Choice.{Choice}
use Rattle.fapp_model.specs.declared.instance.Path.{Path}
use Rattle.fapp_model.specs.Assignments.{count_at, path_at}
use Rattle.fapp_model.specs.Choices.{choice, choices}
use Rattle.fapp_model.specs.Instances.{IsPath}
use Rattle.fapp_model.specs.search.Partials.{choice_of, literal}
use Rattle.choice_counts.proofs.LinkLaws.{pair_small, tally_found}
use Rattle.choice_counts.specs.Counts.{pair_tally}
use Rattle.choice_counts.specs.Moves.{CanMove, moved}
use Rattle.choice_counts.specs.Tallies.{tally_at}
use Rattle.forward_count.specs.Floors.{IsFloor}
use Rattle.forward_count.proofs.RowLaws.{IsMapped, floor_write, mapped_all, mapped_more, mapped_none}
use Rattle.forward_count.proofs.WindowLaws.{before_stays, choices_rise, mapped_skip, past_stays}
use Rattle.forward_count.proofs.rows.move_by_cells.Goals as goal

pub loop-index-init : goal.loop-index-init
loop-index-init c =
    let step = c.args.step.now in
    let instance = step.tables.now in
    let tallies = c.args.tallies.now in
    let f = λ (k : ℕ) (tally : ℕ). moved step.taking tally (pair_tally instance step.level (literal c.args.other k) step.literal) in
    let owner = c.owner-owner.ensures.path in
    let first : c.first_within-start.result ≤ count_at instance c.args.other = subst (λ (p : Path). c.first_within-start.result ≤ length (choices p)) owner c.first_within-start.ensures.inside in
    record {
      mapped = mapped_skip f tallies tallies 0 c.first_within-start.result (mapped_none f tallies) (omega arith) (λ k from before.
          before_stays instance c.requires.instance step.level step.literal step.home c.args.other c.requires.apart c.requires.other c.args.link.now c.requires.link step.taking (tally_at tallies k) k (omega (arith, first, before))
          (omega (arith, subst (λ (p : Path). (choice p k).freq + c.args.link.now.far ≤ step.choice.freq) owner (c.first_within-start.ensures.below k before), ap (λ x. x.freq) step.chosen)));
      floor = c.requires.floor;
    }

pub move_tally-lowest-requires-clause-can : goal.move_tally-lowest-requires-clause-can
move_tally-lowest-requires-clause-can c =
    let step = c.args.step.now in
    let index = c.loop-index.index in
    let second_is : c.choice_at-second.result ≡ choice_of step.tables.now (literal c.args.other index) = c.choice_at-second.ensures ∙ ap (λ (p : Path). choice p index) c.owner-owner.ensures.path in
    let tally_is = tally_found step.tables.now step.level step.literal (literal c.args.other index) c.requires.apart c.args.link.now c.requires.link
    step.choice c.choice_at-second.result c.tally-pair.result step.chosen second_is c.tally-pair.ensures in
    let inside : index < length c.args.tallies.now = omega (arith, c.loop-index.invariant.mapped.count, c.choice_count-count.ensures.count, ap (λ (p : Path). length (choices p)) c.owner-owner.ensures.path, c.requires.count, c.loop-index-test.true) in
    subst (λ (n : ℕ). CanMove step.taking (tally_at c.loop-index.tallies index) n) (sym tally_is)
    (subst (λ (w : ℕ). CanMove step.taking w (pair_tally step.tables.now step.level (literal c.args.other index) step.literal)) (sym (c.loop-index.invariant.mapped.waiting index (omega arith)))
    (c.requires.can index inside))

pub move_tally-lowest-requires-clause-small : goal.move_tally-lowest-requires-clause-small
move_tally-lowest-requires-clause-small c =
    let step = c.args.step.now in
    let index = c.loop-index.index in
    let second_is : c.choice_at-second.result ≡ choice_of step.tables.now (literal c.args.other index) = c.choice_at-second.ensures ∙ ap (λ (p : Path). choice p index) c.owner-owner.ensures.path in
    let tally_is = tally_found step.tables.now step.level step.literal (literal c.args.other index) c.requires.apart c.args.link.now c.requires.link
    step.choice c.choice_at-second.result c.tally-pair.result step.chosen second_is c.tally-pair.ensures in
    let small = pair_small step.tables.now c.requires.instance step.level step.low (literal c.args.other index) step.literal in
    omega (arith, small, tally_is)

pub loop-index-preserved : goal.loop-index-preserved
loop-index-preserved c =
    let step = c.args.step.now in
    let index = c.loop-index.index in
    let second_is : c.choice_at-second.result ≡ choice_of step.tables.now (literal c.args.other index) = c.choice_at-second.ensures ∙ ap (λ (p : Path). choice p index) c.owner-owner.ensures.path in
    let tally_is = tally_found step.tables.now step.level step.literal (literal c.args.other index) c.requires.apart c.args.link.now c.requires.link
    step.choice c.choice_at-second.result c.tally-pair.result step.chosen second_is c.tally-pair.ensures in
    let f = λ (k : ℕ) (tally : ℕ). moved step.taking tally (pair_tally step.tables.now step.level (literal c.args.other k) step.literal) in
    let old = c.args.tallies.now in
    let tallies = c.loop-index.tallies in
    let inside : index < length tallies = omega (arith, c.loop-index.invariant.mapped.count, c.choice_count-count.ensures.count, ap (λ (p : Path). length (choices p)) c.owner-owner.ensures.path, c.requires.count, c.loop-index-test.true) in
    let tally = f index (tally_at tallies index) in
    let is : moved step.taking (tally_at tallies index) c.tally-pair.result ≡ tally = ap (moved step.taking (tally_at tallies index)) tally_is in
    let same : c.move_tally-lowest.new.tallies ≡ set tallies index tally = c.move_tally-lowest.ensures.tallies ∙ ap (set tallies index) is in
    let low : c.move_tally-lowest.result ≡ min c.loop-index.lowest tally = c.move_tally-lowest.ensures.floor ∙ ap (min c.loop-index.lowest) is in
    record {
      mapped = subst (λ (ws : List ℕ). IsMapped f old ws (index + 1)) (sym same) (mapped_more f old tallies index tally c.loop-index.invariant.mapped inside refl);
      floor = subst (λ (ws : List ℕ). IsFloor ws c.move_tally-lowest.result) (sym same) (floor_write tallies index tally c.loop-index.lowest c.move_tally-lowest.result inside c.loop-index.invariant.floor low);
    }

pub returns-clause-tallies : goal.returns-clause-tallies
returns-clause-tallies c =
    let step = c.args.step.now in
    let f = λ (k : ℕ) (tally : ℕ). moved step.taking tally (pair_tally step.tables.now step.level (literal c.args.other k) step.literal) in
    let past : length c.loop-index.tallies ≤ c.loop-index.index = omega (arith, c.loop-index.invariant.mapped.count, c.choice_count-count.ensures.count, ap (λ (p : Path). length (choices p)) c.owner-owner.ensures.path, c.requires.count, c.loop-index-test.false) in
    mapped_all f c.args.tallies.now c.loop-index.tallies c.loop-index.index c.loop-index.invariant.mapped past

pub returns-then-from-end-clause-tallies : goal.returns-then-from-end-clause-tallies
returns-then-from-end-clause-tallies c =
    let step = c.args.step.now in
    let instance = step.tables.now in
    let old = c.args.tallies.now in
    let tallies = c.loop-index.tallies in
    let index = c.loop-index.index in
    let count = count_at instance c.args.other in
    let f = λ (k : ℕ) (tally : ℕ). moved step.taking tally (pair_tally instance step.level (literal c.args.other k) step.literal) in
    let owner = c.owner-owner.ensures.path in
    let inside : index < count = omega (arith, c.choice_count-count.ensures.count, ap (λ (p : Path). length (choices p)) owner, c.loop-index-test.true) in
    let second : c.choice_at-second.result ≡ choice_of instance (literal c.args.other index) = c.choice_at-second.ensures ∙ ap (λ (p : Path). choice p index) owner in
    let chosen : step.choice.freq ≡ (choice_of instance step.literal).freq = ap (λ (x : Choice). x.freq) step.chosen in
    let near : (choice_of instance step.literal).freq + c.args.link.now.far ≤ (choice_of instance (literal c.args.other index)).freq =
    omega (arith, c.if-from-end.true, ap (λ (x : Choice). x.freq) second, c.from-in-loop-index.ensures, c.saturating_add-end.ensures, c.from.ensures, chosen) in
    let skipped = mapped_skip f old tallies index count c.loop-index.invariant.mapped (omega (arith, inside)) (λ k from below.
    let rise = choices_rise (path_at instance c.args.other) (subst IsPath owner c.owner-owner.ensures.valid) index k from below in
    past_stays instance c.requires.instance step.level step.literal step.home c.args.other c.requires.apart c.requires.other c.args.link.now c.requires.link step.taking (tally_at old k) k below (omega (arith, near, rise))) in
    mapped_all f old tallies count skipped (omega (arith, c.loop-index.invariant.mapped.count, c.requires.count))
