use Rattle.tries_laws.proofs.Lists.{in-choice_lists, from-choice_lists, ordered-choice_lists, once-choice_lists, length-choice_lists}
use Rattle.tries_laws.proofs.prefixes.choice_lists_are_all.Goals as goal

pub returns : goal.returns
returns c = record {
  all = λ instance paths literals. (from-choice_lists instance paths literals, λ h. in-choice_lists instance paths literals h.0 h.1);
  ordered = ordered-choice_lists;
  once = once-choice_lists;
  count = length-choice_lists;
}
