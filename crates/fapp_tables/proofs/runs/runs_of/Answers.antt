use Rattle.std.proofs.Common.{ℕ, Vec, Global, ap, sym, ◌∙◌}
use Rattle.fapp_tables.specs.declared.links.Side.{Side}
use Rattle.fapp_tables.proofs.RunLaws.{more_begun, more_same}
use Rattle.fapp_tables.proofs.runs.runs_of.Goals as goal
use Rattle.fapp_tables.proofs.runs.runs_of.Goals.{then-begins_run+in_ok-push+in_ok-push-2, else-begins_run}

pub loop-place-preserved : goal.loop-place-preserved
loop-place-preserved c = elim c.if-begins_run.branch [
  | then-begins_run+in_ok-push+in_ok-push-2 w ↦
      more_begun c.args.links.now c.loop-place.heads.items c.if-begins_run.heads.items c.loop-place.firsts.items c.if-begins_run.firsts.items c.loop-place.place
      (sym c.begins_run.ensures ∙ w.if-begins_run.true) c.loop-place.invariant
      (ap (λ (v : Vec Side Global). v.items) w.heads-is ∙ w.in_ok-push.ensures.items)
      (ap (λ (v : Vec ℕ Global). v.items) w.firsts-is ∙ w.in_ok-push-2.ensures.items)
  | else-begins_run w ↦
      let heads = ap (λ (v : Vec Side Global). v.items) w.heads-is in
      let firsts = ap (λ (v : Vec ℕ Global). v.items) w.firsts-is in
      let same = more_same c.args.links.now c.loop-place.heads.items c.loop-place.firsts.items c.loop-place.place (sym c.begins_run.ensures ∙ w.if-begins_run.false) c.loop-place.invariant in
      record { firsts_are = firsts ∙ same.firsts_are; heads_are = heads ∙ same.heads_are }
]
