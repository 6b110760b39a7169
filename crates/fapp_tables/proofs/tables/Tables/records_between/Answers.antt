use Rattle.std.proofs.Common.{ℕ, Result, subst}
use Rattle.std.specs.List.Sorted.{IsBinarySearchResult}
use Rattle.std.specs.Ordering.{nat_cmp}
use Rattle.fapp_tables.proofs.PartLaws.{none_found}
use Rattle.fapp_tables.proofs.tables.Tables.records_between.Goals as goal

pub returns-in-Err : goal.returns-in-Err
returns-in-Err c = none_found c.args.self.now c.args.i c.args.j c.neighbours.result.now c.in-Err.field-0 c.neighbours.ensures c.requires.second
    (subst (λ (r : Result ℕ ℕ). IsBinarySearchResult (λ y. nat_cmp y c.args.j) c.neighbours.result.now r) c.in-Err.is c.binary_search.ensures.position)
