use Rattle.std.proofs.Common.{◌<◌, length, take, arith}
use Rattle.std.proofs.lemmas.List.Elements.{All-take}
use Rattle.fapp_model.specs.search.Jobs.{depth}
use Rattle.fapp_model.specs.search.WorkOrder.{work_order}
use Rattle.tries_laws.proofs.JobParts.{prefixes-all, prefixes-few}
use Rattle.tries_laws.proofs.ListPlaces.{some_ways}
use Rattle.tries_laws.proofs.Lists.{length-choice_lists, once-choice_lists, ordered-choice_lists}
use Rattle.fapp_model.proofs.WorkOrders.{order-is}
use Rattle.tries_laws.proofs.jobs.prefixes_are_all.Goals as goal

pub returns : goal.returns
returns c = record {
  all = prefixes-all;
  ordered = λ instance split. ordered-choice_lists instance (take (depth instance split) (work_order instance));
  once = λ instance split. once-choice_lists instance (take (depth instance split) (work_order instance));
  few = prefixes-few;
  some = λ instance split valid.
      let paths = take (depth instance split) (work_order instance) in
      let small = All-take (λ p. p < length instance.paths) (depth instance split) (work_order instance) (order-is instance).in_range in
      omega (arith, length-choice_lists instance paths, some_ways instance valid paths small);
}
