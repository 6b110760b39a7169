use Rattle.std.proofs.Common.{sym, subst}
use Rattle.fapp_model.specs.Instances.{IsPath}
use Rattle.record_reader.specs.declared.cause.Cause.TheVariants as causes
use Rattle.record_reader.specs.Instances.{paths_of}
use Rattle.record_reader.specs.Readers.{domains_of}
use Rattle.record_reader.proofs.ValidInstances.{path_valid}
use Rattle.record_reader.proofs.Drafts.{refuses, unknown_domain, known_domain, too_many, path_more}
use Rattle.record_reader.proofs.draft.Draft.add_path.Goals as goal

pub returns-then-is_empty : goal.returns-then-is_empty
returns-then-is_empty c = λ earlier draft.
    let domains = domains_of c.args.reader.now in
    refuses c.args.entry.line _ causes.UnknownDomain c.fault_at.result c.fault_at.ensures (unknown_domain domains (paths_of earlier) c.args.entry c.in_ok-path.path c.is_empty.result c.in_ok-path.ensures c.is_empty.ensures c.if-is_empty.true)

pub choice_count-requires : goal.choice_count-requires
choice_count-requires c =
    let domains = domains_of c.args.reader.now in
    let knows = known_domain domains c.args.entry c.in_ok-path.path c.is_empty.result c.in_ok-path.ensures c.is_empty.ensures c.if-is_empty.false in
    subst IsPath (sym c.in_ok-path.ensures) (path_valid domains c.args.entry c.requires.domains c.requires.entry knows)

pub returns-then-choices-gt-MAX_CHOICES : goal.returns-then-choices-gt-MAX_CHOICES
returns-then-choices-gt-MAX_CHOICES c = λ earlier draft.
    let domains = domains_of c.args.reader.now in
    let knows = known_domain domains c.args.entry c.in_ok-path.path c.is_empty.result c.in_ok-path.ensures c.is_empty.ensures c.if-is_empty.false in
    refuses c.args.entry.line _ causes.TooManyChoices c.fault_at-then-choices-gt-MAX_CHOICES.result c.fault_at-then-choices-gt-MAX_CHOICES.ensures
    (too_many c.args.reader.now earlier c.args.entry c.in_ok-path.path c.args.self.now c.choice_count.result draft c.in_ok-path.ensures c.choice_count.ensures.count knows c.if-choices-gt-MAX_CHOICES.true)

pub returns : goal.returns
returns c = λ earlier draft.
    let domains = domains_of c.args.reader.now in
    let knows = known_domain domains c.args.entry c.in_ok-path.path c.is_empty.result c.in_ok-path.ensures c.is_empty.ensures c.if-is_empty.false in
    path_more c.args.reader.now earlier c.args.entry c.in_ok-path.path c.args.self.now c.choice_count.result c.push.new.self draft c.in_ok-path.ensures c.choice_count.ensures.count knows c.if-choices-gt-MAX_CHOICES.false c.in_ok-push.ensures.items
