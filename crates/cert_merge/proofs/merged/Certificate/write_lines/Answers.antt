use Rattle.std.proofs.Common.{◌<◌, length, ◌∙◌, arith}
use Rattle.cert_merge.proofs.GrowingLists.{way-end, way-more, way-short, way-start}
use Rattle.cert_merge.proofs.Numbers.{room-one, room-same}
use Rattle.cert_merge.proofs.merged.Certificate.write_lines.Goals as goal

pub loop-init : goal.loop-init
loop-init c = (c.requires, room-same c.args.self.now, way-start c.args.log c.args.count c.args.rest.now c.args.self.now)

pub returns-in_default-clause-lines : goal.returns-in_default-clause-lines
returns-in_default-clause-lines c =
    (way-short c.args.log c.args.count c.loop.counter c.args.rest.now c.args.self.now c.loop.rest c.loop.self c.loop.invariant.2 c.in_default.ensures.0).0

pub returns-in_default-clause-rest : goal.returns-in_default-clause-rest
returns-in_default-clause-rest c =
    c.in_default.ensures.1
    ∙ (way-short c.args.log c.args.count c.loop.counter c.args.rest.now c.args.self.now c.loop.rest c.loop.self c.loop.invariant.2 c.in_default.ensures.0).1

pub loop-preserved : goal.loop-preserved
loop-preserved c =
    let room = room-one c.args.log c.in-Some.line c.args.self.now c.loop.self c.write_line.new.self c.in_ok-write_line.ensures c.loop.invariant.1 in
    let inside : c.args.log < length c.write_line.new.self.own = omega (arith, room.own, c.requires) in (
      inside,
      room,
      way-more c.args.log c.args.count c.loop.counter c.args.rest.now c.args.self.now c.loop.rest c.loop.self c.loop.invariant.2
          c.in-Some.line c.next.new.self c.write_line.new.self c.loop-test.true c.in-Some.ensures c.in_ok-write_line.ensures,
    )

pub returns-clause-lines : goal.returns-clause-lines
returns-clause-lines c = (way-end c.args.log c.args.count c.loop.counter c.args.rest.now c.args.self.now c.loop.rest c.loop.self c.loop.invariant.2 c.loop-test.false).0

pub returns-clause-rest : goal.returns-clause-rest
returns-clause-rest c = (way-end c.args.log c.args.count c.loop.counter c.args.rest.now c.args.self.now c.loop.rest c.loop.self c.loop.invariant.2 c.loop-test.false).1
