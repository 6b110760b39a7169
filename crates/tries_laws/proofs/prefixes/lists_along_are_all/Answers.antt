use Rattle.tries_laws.proofs.Lists.{in-lists_along, from-lists_along, once-lists_along}
use Rattle.tries_laws.proofs.prefixes.lists_along_are_all.Goals as goal

pub returns : goal.returns
returns c = record {
  all = λ instance paths literals. (from-lists_along instance paths literals, in-lists_along instance paths literals);
  once = once-lists_along;
}
