use Rattle.std.proofs.Common.{◌≡◌, ◌++◌, ◌∷◌, [], true, false, Bool, sym, ap, ◌∙◌, to_z, of_z, w8}
use Rattle.std.proofs.lemmas.Bool.{and_from, and_left, and_right}
use Rattle.std.specs.Ordering.{int_eq}
use Rattle.fapp_model.specs.declared.choice.Choice.{Choice}
use Rattle.fapp_model.specs.declared.instance.Path.{Path}
use Rattle.fapp_model.specs.Choices.{choice}
use Rattle.fapp_model.specs.search.Partials.{choice_of, literal}
use Rattle.arc_levels.specs.Left.{left_freqs}
use Rattle.arc_levels.proofs.LeftLaws.{left_more, left_same}
use Rattle.arc_levels.proofs.left.left_at.Goals.{then-is_in+then-is_at+in_ok-push, else-is_in, else-is_in-via-then-is_in+else-is_at, else-is_in-via-else-is_in}
use Rattle.arc_levels.proofs.left.left_at.Goals as goal

pub loop-index-preserved : goal.loop-index-preserved
loop-index-preserved c =
    let instance = c.args.instance.now in
    let rows = c.args.removals.now.rows.items in
    let z = to_z w8 (of_z w8 c.args.polarization) in
    let n = c.loop-index.index in
    let before : c.loop-index.freqs.items ≡ left_freqs instance c.args.level rows c.args.path z n = c.loop-index.invariant in
    let chosen : c.choice_at-choice.result ≡ choice_of instance (literal c.args.path n) = c.choice_at-choice.ensures ∙ ap (λ (p : Path). choice p n) c.path_at-owner.ensures.path in
    let polarized : (b : Bool) → int_eq c.choice_at-choice.result.pol z ≡ b → int_eq (choice_of instance (literal c.args.path n)).pol z ≡ b = λ b h. ap (λ (x : Choice). int_eq x.pol z) (sym chosen) ∙ h in
    elim c.if-is_in.branch [
      | then-is_in+then-is_at+in_ok-push w ↦
          ap (λ v. v.items) w.freqs-is ∙ (w.in_ok-push.ensures.items ∙ (ap (λ xs. xs ++ c.choice_at-choice.result.freq ∷ []) before ∙ (ap (λ (x : Choice). left_freqs instance c.args.level rows c.args.path z n ++ x.freq ∷ []) chosen
          ∙ sym (left_more instance c.args.level rows c.args.path z n (and_from _ _ (sym c.is_in.ensures ∙ w.if-is_in.true) (polarized true (sym w.is_at.ensures ∙ w.if-is_at.true)))))))
      | else-is_in w ↦ elim w.else-is_in.branch [
        | else-is_in-via-then-is_in+else-is_at v ↦
            ap (λ v. v.items) w.freqs-is ∙ (before ∙ sym (left_same instance c.args.level rows c.args.path z n (and_right _ _ (polarized false (sym v.is_at.ensures ∙ v.if-is_at.false)))))
        | else-is_in-via-else-is_in v ↦
            ap (λ v. v.items) w.freqs-is ∙ (before ∙ sym (left_same instance c.args.level rows c.args.path z n (and_left _ _ (sym c.is_in.ensures ∙ v.if-is_in.false))))
      ]
    ]
