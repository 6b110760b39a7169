use Rattle.std.proofs.Common.{arith, ◌∙◌, sym, subst, ◌-◌}
use Rattle.std.proofs.lemmas.Bool.{true≢false}
use Rattle.std.proofs.lemmas.Option.{get_or_from_slice_get}
use Rattle.search_log.specs.Shares.{FitsPart, row_content}
use Rattle.search_log.specs.declared.shared.Cite.{Cite}
use Rattle.row_copies.proofs.Finding.{goes-on}
use Rattle.row_copies.proofs.copies.find_in.Goals as goal

pub loop-left-smaller : goal.loop-left-smaller
loop-left-smaller c = let h = c.requires.filed.2 in let low = h.before_low (c.loop-left.left - 1) in let some = c.loop-left-test.true in omega (arith, low, some)

pub loop-left-preserved : goal.loop-left-preserved
loop-left-preserved c = let h = c.requires.filed.2 in let inv = c.loop-left.invariant in
    goes-on c.requires.filed.0 c.args.cites.now c.args.filed.now c.args.before.now c.args.last.now c.requires.filed.1 h c.args.part.now c.args.target.code c.args.bucket c.loop-left.left
    c.loop-left-test.true inv.0 inv.1 inv.2
    (λ cite at fit. true≢false (sym (c.fits.ensures.1 (subst (λ (x : Cite). FitsPart c.args.part.now c.args.target.code (row_content x.content))
    (sym (get_or_from_slice_get c.args.cites.now (c.loop-left.left - 1) cite c.index-cites-place.result at)) fit)) ∙ c.if-fits.false))
