use Rattle.fapp_text.proofs.FieldLemmas.{next_field, last_field}
use Rattle.std.proofs.Common.{length, sym, ◌∙◌, arith}
use Rattle.std.proofs.lemmas.Bool.{eqb-true, eqb-false}
use Rattle.fapp_text.proofs.field.Fields.next.Goals as goal

pub returns-then-is_empty : goal.returns-then-is_empty
returns-then-is_empty c =
    let run = c.first_run.ensures in
    rw (← c.self.view_is) (last_field c.self.inside.rest.now c.after_blanks.result.now c.first_run.result.0.now c.first_run.result.1.now c.after_blanks.ensures run.run run.rest (eqb-true (length c.first_run.result.0.now) 0 (sym c.is_empty.ensures ∙ c.if-is_empty.true)))

pub returns : goal.returns
returns c =
    let run = c.first_run.ensures in
    rw (← c.self.view_is) (next_field c.self.inside.rest.now c.after_blanks.result.now c.first_run.result.0.now c.first_run.result.1.now c.after_blanks.ensures run.run run.rest (omega (arith, eqb-false (length c.first_run.result.0.now) 0 (sym c.is_empty.ensures ∙ c.if-is_empty.false))))
