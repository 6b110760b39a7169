use Rattle.std.proofs.Common.{rules, ap, ◌∙◌}
use Rattle.std.specs.Option.{unwrap_or}
use Rattle.record_reader.proofs.Frequencies.{gets_frequency, has_then, counted_then}
use Rattle.record_reader.proofs.reader.add_frequency.Goals as goal

pub returns : goal.returns
returns c =
    let found = c.or_insert-frequencies.ensures.value ∙ ap (λ o. unwrap_or o c.new.result) c.in_ok-domains.ensures.value in
    let gets = gets_frequency c.args.entry c.args.domains.now c.new.result c.or_insert-frequencies.result.now c.insert.new.self c.new.ensures.empty found c.in_ok-insert.ensures.keys in
    let has = has_then c.args.entry c.args.domains.now c.insert.new.self gets in
    let counted = counted_then c.insert.new.self c.len.result c.len.ensures.len in
    (λ domain. search (rules, has), search (rules, counted))
