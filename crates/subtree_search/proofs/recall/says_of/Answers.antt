use Rattle.std.proofs.Common.{◌≡◌, List, [], ◌∷◌, ◌++◌, Some, sym, ap, subst, ◌∙◌, arith}
use Rattle.std.specs.List.{slice_get}
use Rattle.std.proofs.lemmas.Option.{slice_get-get_or}
use Rattle.fapp_model.specs.declared.literal.Literal.{Literal}
use Rattle.fapp_model.specs.search.Partials.{HasAll}
use Rattle.subtree_search.proofs.recall.says_of.Goals as goal

pub returns-else-line-tag : goal.returns-else-line-tag
returns-else-line-tag c = λ t.
    let line = c.in-Some.line.now in
    let lookup = c.in-Some.ensures.lookup in
    let there : slice_get c.args.log.now.lines c.args.place ≡ Some line = subst (λ ls. slice_get ls c.args.place ≡ Some line) c.lines.ensures
    (slice_get-get_or c.lines.result.now c.args.place line lookup.3.0 ∙ ap (λ l. Some l) (sym lookup.1)) in
    record {
      line = line;
      there = there;
      reaches = omega (arith, c.if-line-tag.false);
      contained = subst (λ (ls : List Literal). HasAll (c.args.forward.now.pushed ++ c.args.a ∷ []) ls) c.as_slice.ensures (c.are_within.ensures t);
    }
