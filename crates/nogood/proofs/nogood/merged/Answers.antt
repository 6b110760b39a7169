use Rattle.std.proofs.Common.{◌⊎◌, ◌≤◌, List, ◌++◌, drop, length, ap, sym, subst, ◌∙◌, inl, inr, arith}
use Rattle.std.proofs.lemmas.List.{take_rest}
use Rattle.fapp_model.specs.declared.literal.Literal.{Literal}
use Rattle.nogood.specs.Literals.{IsJoin}
use Rattle.nogood.proofs.Merges.{Merging, step_left, step_right, step_both, finish}
use Rattle.nogood.proofs.nogood.merged.Goals as goal
use Rattle.nogood.proofs.nogood.merged.Goals.{then-loop-i-test+else-j-right, else-loop-i-test}

pub loop-i-preserved-then-a-b-2 : goal.loop-i-preserved-then-a-b-2
loop-i-preserved-then-a-b-2 c = record {
  left_within = omega arith;
  right_within = omega arith;
  merging = subst (Merging c.args.left.now c.args.right.now _ _) (sym c.in_ok-push.ensures.items)
      (step_both c.args.left.now c.args.right.now c.loop-i.i c.loop-i.j _ c.loop-i.literals.items c.loop-i-test.true c.if-j-right.true c.requires.agree c.if-a-b-2.true c.loop-i.invariant.merging);
}

pub loop-i-preserved-else-a-b-2 : goal.loop-i-preserved-else-a-b-2
loop-i-preserved-else-a-b-2 c = record {
  left_within = omega arith;
  right_within = omega arith;
  merging = subst (Merging c.args.left.now c.args.right.now _ _) (sym c.in_ok-push.ensures.items)
      (step_left c.args.left.now c.args.right.now c.loop-i.i c.loop-i.j _ c.loop-i.literals.items c.loop-i-test.true c.if-j-right.true (omega arith) c.loop-i.invariant.merging);
}

pub loop-i-preserved : goal.loop-i-preserved
loop-i-preserved c = record {
  left_within = omega arith;
  right_within = omega arith;
  merging = subst (Merging c.args.left.now c.args.right.now _ _) (sym c.in_ok-push-2.ensures.items)
      (step_right c.args.left.now c.args.right.now c.loop-i.i c.loop-i.j _ c.loop-i.literals.items c.loop-i-test.true c.if-j-right.true c.if-a-b.false c.loop-i.invariant.merging);
}

past : (c : goal.In_ok-extend_from_slice-2) → (length c.args.left.now ≤ c.loop-i.i) ⊎ (length c.args.right.now ≤ c.loop-i.j)
past c = elim c.loop-i-test.branch [
  | then-loop-i-test+else-j-right w ↦ inr w.if-j-right.false
  | else-loop-i-test w ↦ inl w.loop-i-test.false
]

pub returns : goal.returns
returns c =
    let left = c.args.left.now in
    let right = c.args.right.now in
    let first = c.in_ok-extend_from_slice.ensures.items ∙ ap (λ (xs : List Literal). c.loop-i.literals.items ++ xs) (take_rest left c.loop-i.i) in
    let second = c.in_ok-extend_from_slice-2.ensures.items ∙ ap (λ (xs : List Literal). c.extend_from_slice.new.self.items ++ xs) (take_rest right c.loop-i.j) in
    subst (IsJoin left right) (sym (second ∙ ap (λ (xs : List Literal). xs ++ drop c.loop-i.j right) first))
    (finish left right c.loop-i.i c.loop-i.j c.loop-i.literals.items (past c) c.loop-i.invariant.merging)
