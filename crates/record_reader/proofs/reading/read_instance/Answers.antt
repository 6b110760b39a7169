use Rattle.std.proofs.Common.{sym, ap, ◌∙◌, subst}
use Rattle.fapp_text.specs.Lines.{lines}
use Rattle.fapp_text.specs.Reading.{◌>>=◌, Gives}
use Rattle.record_reader.specs.Contents.{no_contents}
use Rattle.record_reader.specs.Readers.{domains_of}
use Rattle.record_reader.specs.Texts.{instance_of_contents}
use Rattle.record_reader.proofs.ValidContents.{lines_valid, nothing_valid}
use Rattle.record_reader.proofs.ValidTexts.{valid_instance, domains_held, links_held, positions_held, instance_held}
use Rattle.record_reader.proofs.reading.read_instance.Goals as goal

pub instance_of-requires-clause-domains : goal.instance_of-requires-clause-domains
instance_of-requires-clause-domains c =
    let read = c.in_ok-reader.ensures in
    domains_held c.in_ok-reader.reader read.0 read.2 (lines_valid no_contents read.0 1 (lines c.args.bytes.now) nothing_valid read.1)

pub instance_of-requires-clause-links : goal.instance_of-requires-clause-links
instance_of-requires-clause-links c =
    let read = c.in_ok-reader.ensures in
    links_held c.in_ok-reader.reader read.0 read.2 (lines_valid no_contents read.0 1 (lines c.args.bytes.now) nothing_valid read.1)

pub instance_of-requires-clause-positions : goal.instance_of-requires-clause-positions
instance_of-requires-clause-positions c = positions_held c.in_ok-reader.reader c.in_ok-reader.ensures.0 c.in_ok-reader.ensures.2

pub returns-clause-reads : goal.returns-clause-reads
returns-clause-reads c =
    let read = c.in_ok-reader.ensures in
    subst (Gives (λ instance. instance) c.instance_of.result)
    (instance_held c.in_ok-reader.reader read.0 read.2 ∙ sym (ap (λ r. r >>= instance_of_contents) read.1)) c.instance_of.ensures

pub returns-clause-valid : goal.returns-clause-valid
returns-clause-valid c =
    let read = c.in_ok-reader.ensures in
    let valid = lines_valid no_contents read.0 1 (lines c.args.bytes.now) nothing_valid read.1 in
    valid_instance (domains_of c.in_ok-reader.reader) c.in_ok-reader.reader.links c.instance_of.result
    (domains_held c.in_ok-reader.reader read.0 read.2 valid) (links_held c.in_ok-reader.reader read.0 read.2 valid) c.instance_of.ensures
