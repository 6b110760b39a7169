use Rattle.std.proofs.Common.{◌≡◌, ◌≤◌, ◌-◌, None, vec_len, vec_capacity}
use Rattle.crossbeam_queue.specs.Passes.{view, IsPassOf}
use Rattle.cert_relay.specs.Pieces.{piece_count}
use Rattle.cert_relay.specs.Jobs.{job_of}
use Rattle.cert_relay.specs.Queue.{writer_hand, AreTaken}
use Rattle.cert_relay.specs.Writing.{slot_at, IsDesk, IsWrittenTo}
use Rattle.cert_relay.proofs.writer.Writer.write_pieces.Given as goal

abbrev pub invariant-loop-self : goal.invariant-loop-self
invariant-loop-self g l =
    let job = job_of l.task in
    let taken = (view l.self.pass).taken in
    IsPassOf l.line l.self.pass × (view l.self.pass ≡ writer_hand job taken) × IsDesk job taken l.self.desk × (piece_count job.answer ≤ vec_capacity l.self.desk.taken)
    × AreTaken job taken × (slot_at l.self.desk.waiting.items l.self.desk.next ≡ None)
    × IsWrittenTo job taken l.self.desk.next (g.K.Sink.moment l.fn.sink) (g.K.Sink.moment l.sink) l.self.desk.end

abbrev pub decreases-loop-self : goal.decreases-loop-self
decreases-loop-self g l = l.count - vec_len l.self.desk.taken
