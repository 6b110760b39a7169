use Rattle.std.proofs.Common.{◌≡◌, List, Some, refl, sym, ap, subst, ◌∙◌}
use Rattle.fapp_model.specs.declared.literal.Literal.{Literal}
use Rattle.search_log.specs.declared.line.Ref.TheVariants.{Own}
use Rattle.nogood.specs.Rows.{row_literals}
use Rattle.settle_laws.specs.declared.found.Found.TheVariants.{Settled}
use Rattle.settle_laws.specs.Lines.{AreSorted}
use Rattle.settle_laws.proofs.Adding.{has-same}
use Rattle.subtree_search.proofs.by_row.add_by_row.Goals as goal

pub returns : goal.returns
returns c = λ instance are.
    let lits = row_literals c.args.cite.content in
    let lits_are : c.from_vec-lits.result ≡ lits = c.from_vec-lits.ensures ∙ (c.in_ok-from_slice.ensures.items ∙ c.literals.ensures) in
    record {
      refs = c.in_ok-refs.refs;
      all = c.in_ok-refs.ensures;
      adds = record {
        line = record { tag = c.args.tag; lits = c.from_vec-lits.result; path = Some c.args.path; refs = c.in_ok-refs.refs };
        added = c.in_ok-place.ensures.ok.1;
        sorted = subst (λ (ls : List Literal). AreSorted instance lits ls) (sym lits_are) (record { are = are; has = has-same lits; only = has-same lits });
        tag_is = refl;
        path_is = refl;
        refs_are = refl;
        found_is = ap (λ n. Settled (Own n) c.args.tag) c.in_ok-place.ensures.ok.0;
      };
    }
