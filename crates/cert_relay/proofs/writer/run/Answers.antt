use Rattle.std.proofs.Common.{◌≡◌, ap, ◌∙◌, arith, rules}
use Rattle.crossbeam_queue.specs.Passes.{view}
use Rattle.cert_relay.specs.declared.rule.Hand.{Hand}
use Rattle.cert_relay.specs.Jobs.{job_of}
use Rattle.cert_relay.specs.Queue.{left_at, right_at}
use Rattle.cert_relay.proofs.QueueSteps.{cuts}
use Rattle.cert_relay.proofs.writer.run.Goals as goal

pub another-requires-clause-rule : goal.another-requires-clause-rule
another-requires-clause-rule g c =
    let hand : Hand = view c.args.writer.pass in
    let first : hand.first ≡ 0 = ap (λ (v : Hand). v.first) c.requires.knows in
    cuts hand.first _ hand (job_of c.args.task.now) (ap (λ (v : Hand). v.stage) c.requires.knows) (omega arith) (omega (arith, first))

pub join_mut-requires-after_bounds : goal.join_mut-requires-after_bounds
join_mut-requires-after_bounds g c κs within =
    let given = c.requires in
    let apart = c.another.ensures in (
      ((search rules, given.job, (apart.queue.1, apart.rule.1 ∙ ap (λ (v : Hand). right_at v.first v) given.knows)), (search rules, search rules)),
      (
        (apart.queue.0.0 ∙ given.queue.0, apart.queue.0.2 ∙ given.queue.1),
        apart.rule.0 ∙ ap (λ (v : Hand). left_at v.first v) given.knows,
        given.job,
        given.desk,
      ),
    )
