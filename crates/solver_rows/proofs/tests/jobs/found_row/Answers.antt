use Rattle.std.specs.declared.alloc.AllocError.{AllocError}
use Rattle.solver_rows.proofs.FoundRows.{row-alone}
use Rattle.solver_rows.proofs.tests.jobs.found_row.Goals as goal

pub returns-clause-row : goal.returns-clause-row
returns-clause-row c =
    row-alone AllocError c.args.forward.now.instance c.args.job.now.level c.args.job.now.prefix _ _ c.in_ok-outcome.outcome c.in-Refuted.line c.in-Refuted.tag c.in-Own.place c.lines.result.now c.index-lines-place.result
    c.in_ok-outcome.ensures.settles.is c.in-Refuted.is c.in-Own.is c.requires.root c.lines.ensures c.index-lines-place.is
