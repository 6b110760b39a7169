use Rattle.std.proofs.Common.{refl}
use Rattle.fapp_model.specs.declared.limits.TheConstants.{MAX_DOMAIN_RECORDS}
use Rattle.record_reader.proofs.Additions.{domain_refused, domain_added, has_room}
use Rattle.record_reader.proofs.reader.Reader.add_domain.Goals as goal

pub returns-then-count-gt-MAX_DOMAIN_FREQUENCIES : goal.returns-then-count-gt-MAX_DOMAIN_FREQUENCIES
returns-then-count-gt-MAX_DOMAIN_FREQUENCIES c = λ contents held.
    rw c.fault_at-then-count-gt-MAX_DOMAIN_FREQUENCIES.ensures (domain_refused c.args.self.now (record c.args.self.now { domains = c.add_frequency.new.domains }) contents c.args.entry c.args.line c.in_ok-count.count held
    (has_room MAX_DOMAIN_RECORDS c.args.self.now.domain_records c.is_full.result c.is_full.ensures c.if-is_full.false) c.in_ok-count.ensures c.if-count-gt-MAX_DOMAIN_FREQUENCIES.true)

pub returns : goal.returns
returns c = λ contents held.
    domain_added c.args.self.now _ contents c.args.entry c.args.line c.in_ok-count.count held (has_room MAX_DOMAIN_RECORDS c.args.self.now.domain_records c.is_full.result c.is_full.ensures c.if-is_full.false)
    c.in_ok-count.ensures c.if-count-gt-MAX_DOMAIN_FREQUENCIES.false refl
