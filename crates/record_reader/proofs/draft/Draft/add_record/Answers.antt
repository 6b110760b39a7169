use Rattle.record_reader.proofs.Drafts.{record_more, placed}
use Rattle.record_reader.proofs.draft.Draft.add_record.Goals as goal

pub returns-in_ok-push-in-Some : goal.returns-in_ok-push-in-Some
returns-in_ok-push-in-Some c = λ earlier draft.
    let entry = c.args.entry in
    let by = placed _ _ _ _ _ entry.rule c.in-Some.ensures (c.requires entry.first) (c.requires entry.second) in
    record_more c.args.reader.now earlier entry c.in-Some.record c.args.self.now c.push.new.self draft by c.in_ok-push-in-Some.ensures.items
