use Rattle.std.proofs.Common.{List, get_or, ap, ◌∙◌}
use Rattle.fapp_model.specs.declared.record.Record.{Record}
use Rattle.fapp_model.specs.Records.{first_path, second_path}
use Rattle.fapp_tables.specs.Indexes.{no_record}
use Rattle.fapp_tables.proofs.LinkLaws.{links_more}
use Rattle.fapp_tables.proofs.links.links_of.Goals as goal

pub loop-index-preserved : goal.loop-index-preserved
loop-index-preserved c =
    let first = c.in_ok-push.ensures.items in
    let second = c.in_ok-push-2.ensures.items in
    let records = c.as_slice-records.ensures in
    let i = c.first_path-path.ensures ∙ ap (λ (rs : List Record). first_path (get_or rs c.loop-index.index no_record)) records in
    let j = c.second_path-other.ensures ∙ ap (λ (rs : List Record). second_path (get_or rs c.loop-index.index no_record)) records in
    links_more c.args.instance.now c.loop-index.index c.first_path-path.result c.second_path-other.result _ _ _ i j c.loop-index.invariant first second
