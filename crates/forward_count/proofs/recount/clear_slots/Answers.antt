use Rattle.std.proofs.Common.{◌∙◌, None, sym, arith}
use Rattle.std.proofs.lemmas.List.{ext_get_or, length-replicate}
use Rattle.choice_counts.proofs.Slots.{blank_slot, blanks}
use Rattle.forward_count.proofs.recount.clear_slots.Goals as goal

pub returns : goal.returns
returns c =
    ext_get_or None c.loop-path.partial (blanks c.args.paths) (c.loop-path.invariant.count ∙ sym (length-replicate c.args.paths None))
    (λ i below. c.loop-path.invariant.done i (omega (arith, below, c.loop-path.invariant.count, c.loop-path-test.false)) ∙ sym (blank_slot c.args.paths i))
