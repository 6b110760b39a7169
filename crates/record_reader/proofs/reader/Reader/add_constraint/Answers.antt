use Rattle.std.proofs.Common.{refl}
use Rattle.fapp_model.specs.declared.limits.TheConstants.{MAX_RECORDS}
use Rattle.record_reader.proofs.Additions.{constraint_added, has_room}
use Rattle.record_reader.proofs.reader.Reader.add_constraint.Goals as goal

pub returns : goal.returns
returns c = λ contents held.
    constraint_added c.args.self.now _ contents c.args.entry c.args.line held (has_room MAX_RECORDS c.args.self.now.constraints c.is_full.result c.is_full.ensures c.if-is_full.false) c.in_ok-push.ensures.ok refl
