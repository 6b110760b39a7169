use Rattle.std.proofs.Common.{List, length, refl, sym, ap, subst, arith, ◌∙◌}
use Rattle.nogood.specs.declared.row.Row.{Row}
use Rattle.search_log.specs.Shares.{OffersRow}
use Rattle.search_log.proofs.Numbering.{numbered-length, stated}
use Rattle.search_log.proofs.mem_rows.MemRowsShared.offer.Goals as goal
use Rattle.search_log.proofs.mem_rows.MemRowsShared.offer.Goals.{then-lits-gt8, else-lits-gt8}

pub returns-clause-offered : goal.returns-clause-offered
returns-clause-offered c =
    let rows = c.args.self.now in
    elim c.if-lits-gt8.branch [
      | then-lits-gt8 w ↦ subst (OffersRow (stated rows) (stated rows) c.args.lits.now c.args.tag.code) (sym w.result-is) (record {
        copied = refl;
        takes = refl;
        refusals = omega arith;
        answers = (refl, w.if-lits-gt8.true);
      })
      | else-lits-gt8 w ↦ subst (OffersRow (stated rows) (stated rows) c.args.lits.now c.args.tag.code) (sym w.result-is) (record {
        copied = refl;
        takes = refl;
        refusals = omega arith;
        answers = ((refl, omega arith), (λ e. cc), (λ e. w.len.ensures ∙ ap (λ (all : List Row). length all) c.self.view_is ∙ sym (numbered-length rows)));
      })
    ]
