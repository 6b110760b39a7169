use Rattle.std.proofs.Common.{◌+◌, ◌∙◌, ap, List, [], ℕ, slice_set}
use Rattle.std.proofs.lemmas.List.{get_or_default}
use Rattle.arc_levels.proofs.removals.Removals.remove.Goals as goal

pub returns : goal.returns
returns c = record {
  line = c.in_ok-line.line;
  is = c.in_ok-line.ensures;
  lines = c.in_ok-push.ensures.ok;
  rows = ap (λ (r : List ℕ). slice_set c.args.self.now.rows.items c.args.path r)
      (c.set.ensures ∙ ap (λ (r : List ℕ). slice_set r c.args.choice (c.args.level + 1))
      (c.index_mut.ensures.value ∙ get_or_default c.args.self.now.rows.items c.args.path _ [] c.requires.path));
}
