use Rattle.std.proofs.Common.{◌∙◌, [], length, arith}
use Rattle.std.proofs.lemmas.List.FromFn.{fill_by_all}
use Rattle.choice_counts.specs.Counts.{tallies_of}
use Rattle.choice_counts.specs.Tallies.{no_tallies, tallies_by}
use Rattle.forward_count.proofs.start.reset_rows.Goals as goal

pub returns : goal.returns
returns c arc arcs =
    let instance = c.args.instance.now in
    fill_by_all (λ q. tallies_by (tallies_of instance c.args.level arc [] q)) c.loop-path.rows (length instance.paths) no_tallies (c.loop-path.invariant.count ∙ c.requires.rows.count)
    (λ q below. c.loop-path.invariant.done q (omega (arith, below, c.loop-path-test.false, c.len-path-end.ensures)) arc arcs)
