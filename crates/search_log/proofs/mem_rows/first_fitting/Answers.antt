use Rattle.std.proofs.Common.{◌∙◌, subst}
use Rattle.std.proofs.lemmas.Option.{get_or_from_slice_get}
use Rattle.nogood.specs.declared.row.Row.{Row}
use Rattle.search_log.specs.Shares.{FitsPart, row_content}
use Rattle.search_log.proofs.mem_rows.first_fitting.Goals as goal

pub returns-then-fits : goal.returns-then-fits
returns-then-fits c = (
  c.loop-place-test.true,
  λ row e.
      subst (λ (r : Row). FitsPart c.args.part.now c.args.target.code (row_content r))
      (c.index-rows-place.is ∙ get_or_from_slice_get c.args.rows.now c.loop-place.place row c.index-rows-place.result e)
      (c.fits.ensures.0 c.if-fits.true),
)
