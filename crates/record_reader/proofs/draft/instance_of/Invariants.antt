use Rattle.std.proofs.Common.{◌≡◌, [], take, drop}
use Rattle.record_reader.specs.Instances.{paths_of}
use Rattle.record_reader.specs.Links.{first_link_refusal}
use Rattle.record_reader.specs.Readers.{domains_of}
use Rattle.record_reader.specs.Drafts.{IsDraft}
use Rattle.record_reader.proofs.draft.instance_of.Given as goal

abbrev pub invariant-loop-link : goal.invariant-loop-link
invariant-loop-link l =
    IsDraft l.reader (take l.link-index l.reader.links) l.draft
    × (first_link_refusal (domains_of l.reader) (paths_of l.reader.links) (take l.link-index l.reader.links) (drop l.link-index l.reader.links)
    ≡ first_link_refusal (domains_of l.reader) (paths_of l.reader.links) [] l.reader.links)
