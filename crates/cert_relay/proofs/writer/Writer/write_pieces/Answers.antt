use Rattle.std.proofs.Common.{◌≡◌, ◌++◌, ◌∷◌, [], ℕ, List, ap, sym, ◌∙◌, subst, arith, vec_capacity}
use Rattle.std.specs.Global.{Vec}
use Rattle.crossbeam_queue.specs.Passes.{view}
use Rattle.fapp_io.specs.Moments.{SinkMoment}
use Rattle.cert_relay.specs.declared.desk.End.{End}
use Rattle.cert_relay.specs.declared.desk.Desk.{Desk}
use Rattle.cert_relay.specs.declared.message.Message.{Message}
use Rattle.cert_relay.specs.declared.rule.Hand.{Hand}
use Rattle.cert_relay.specs.declared.rule.Job.{Job}
use Rattle.cert_relay.specs.Jobs.{job_of}
use Rattle.cert_relay.specs.Queue.{AreTaken, writer_hand}
use Rattle.cert_relay.specs.Writing.{IsDesk, IsWrittenTo}
use Rattle.cert_relay.proofs.QueueSteps.{takes}
use Rattle.cert_relay.proofs.Taken.{all_written, all_taken, last_below, told_of}
use Rattle.cert_relay.proofs.Wrote.{wrote_more, relayed}
use Rattle.cert_relay.proofs.writer.Writer.write_pieces.Goals as goal

pub take-message-requires-clause-rule : goal.take-message-requires-clause-rule
take-message-requires-clause-rule g c = takes _ (view c.loop-self.self.pass) (job_of c.args.task.now) (ap (λ (v : Hand). v.stage) c.loop-self.invariant.1) (ap (λ (v : Hand). v.writes) c.loop-self.invariant.1)

pub put-requires-clause-place : goal.put-requires-clause-place
put-requires-clause-place g c =
    let inv = c.loop-self.invariant in
    let job : Job = job_of c.args.task.now in
    let taken : List Message = (view c.loop-self.self.pass).taken in
    let x : Message = c.take-message.result in
    let told = told_of job taken (view c.loop-self.self.pass) (view c.take-message.new.pass) x inv.1 c.take-message.ensures.rule in
    let below = last_below job taken x told.0 in
    omega (arith, below, inv.2.size)

pub loop-self-preserved : goal.loop-self-preserved
loop-self-preserved g c =
    let inv = c.loop-self.invariant in
    let job : Job = job_of c.args.task.now in
    let desk : Desk = c.loop-self.self.desk in
    let taken : List Message = (view c.loop-self.self.pass).taken in
    let x : Message = c.take-message.result in
    let all : List Message = taken ++ x ∷ [] in
    let told = told_of job taken (view c.loop-self.self.pass) (view c.take-message.new.pass) x inv.1 c.take-message.ensures.rule in
    let queue = c.take-message.ensures.queue in
    let put = c.put.ensures in
    let wrote = c.write_ready.ensures in
    let list : (view c.take-message.new.pass).taken ≡ all = ap (λ (v : Hand). v.taken) told.1 in
    let kept = put.desk job taken inv.2 in
    let old : SinkMoment = g.K.Sink.moment c.args.sink.now in
    let now : SinkMoment = g.K.Sink.moment c.loop-self.sink in
    let more = wrote_more job taken x desk.next old now desk.end inv.6 in
    let before = subst (λ (y : ℕ × End). IsWrittenTo job all y.0 old now y.1) (λ i. (sym put.same.0 i, sym put.same.1 i)) more in (
      (queue.0 ∙ inv.0.0, queue.2 ∙ inv.0.1),
      told.1 ∙ ap (writer_hand job) (sym list),
      subst (λ (l : List Message). IsDesk job l c.write_ready.new.self) (sym list) (wrote.desk job all kept),
      omega (arith, inv.3, put.room, ap (λ (v : Vec ℕ). vec_capacity v) wrote.taken),
      subst (AreTaken job) (sym list) told.0,
      wrote.stops,
      subst (λ (l : List Message). IsWrittenTo job l c.write_ready.new.self.next old (g.K.Sink.moment c.write_ready.new.sink) c.write_ready.new.self.end) (sym list) (wrote.written job all kept told.0 old before),
    )

pub returns-clause-taken : goal.returns-clause-taken
returns-clause-taken g c =
    let inv = c.loop-self.invariant in
    let job : Job = job_of c.args.task.now in
    let desk : Desk = c.loop-self.self.desk in
    let taken : List Message = (view c.loop-self.self.pass).taken in
    let few = c.requires.job.some_senders in
    all_taken job taken desk few inv.2 inv.4 (all_written job taken desk few inv.2 inv.4 inv.5 (omega (arith, c.loop-self-test.false, c.len.ensures, c.piece_count-count.ensures, desk.taken.ok.0)))

pub returns-clause-written : goal.returns-clause-written
returns-clause-written g c =
    let inv = c.loop-self.invariant in
    let job : Job = job_of c.args.task.now in
    let desk : Desk = c.loop-self.self.desk in
    let taken : List Message = (view c.loop-self.self.pass).taken in
    let few = c.requires.job.some_senders in
    let all = all_written job taken desk few inv.2 inv.4 inv.5 (omega (arith, c.loop-self-test.false, c.len.ensures, c.piece_count-count.ensures, desk.taken.ok.0)) in
    relayed job taken desk _ _ inv.2 inv.4 (subst (λ (n : ℕ). IsWrittenTo job taken n (g.K.Sink.moment c.args.sink.now) (g.K.Sink.moment c.loop-self.sink) desk.end) all inv.6)
