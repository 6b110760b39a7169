use Rattle.std.proofs.Common.{ℕ, ◌<◌, ◌≤◌, length, All, refl, sym, ap, ◌∙◌, subst, arith}
use Rattle.fapp_model.specs.search.Jobs.{job_count}
use Rattle.steal_ring.specs.Jobs.{times}
use Rattle.fapp_workers.specs.declared.gather.Put.{Put}
use Rattle.search_log.specs.NumberedRows.{numbered_rows}
use Rattle.fapp_workers.specs.Puts.{ArePut, puts_from, put_ids}
use Rattle.fapp_workers.proofs.Gathering.{gathered, puts-inside, puts-once, put-by-workers}
use Rattle.fapp_workers.proofs.solve.solve_rows.Goals as goal

pub puts_of-requires : goal.puts_of-requires
puts_of-requires g c = omega (arith, ap length c.deref.ensures.value, c.in_ok-works.ensures.solved.count, c.requires.settings.few_workers)

pub collect-requires-clause-inside : goal.collect-requires-clause-inside
collect-requires-clause-inside g c =
    let split = c.args.plan.now in
    let solved = c.in_ok-works.ensures.solved in
    let are = c.deref-2.ensures.value ∙ (c.in_ok-puts.ensures ∙ ap (puts_from 0) c.deref.ensures.value) in
    subst (All (λ (put : Put). put.done.id < job_count split.instance split.split)) (sym are)
    (puts-inside split c.args.settings.now.fuel c.args.settings.now.workers (numbered_rows c.args.first_rows.now) c.in_ok-works.works.items c.in_ok-works.word.code solved)

pub collect-requires-clause-once : goal.collect-requires-clause-once
collect-requires-clause-once g c =
    let are = c.deref-2.ensures.value ∙ (c.in_ok-puts.ensures ∙ ap (puts_from 0) c.deref.ensures.value) in
    subst (λ puts. (job : ℕ) → times job (put_ids puts) ≤ 1) (sym are)
    (puts-once c.args.plan.now c.args.settings.now.fuel c.args.settings.now.workers (numbered_rows c.args.first_rows.now) c.in_ok-works.works.items c.in_ok-works.word.code c.in_ok-works.ensures.solved)

pub returns-clause-gathered : goal.returns-clause-gathered
returns-clause-gathered g c =
    let split = c.args.plan.now in
    let are = c.deref-2.ensures.value ∙ (c.in_ok-puts.ensures ∙ ap (puts_from 0) c.deref.ensures.value) in
    let put = subst (λ puts. ArePut (job_count split.instance split.split) puts c.in_ok-collected.collected c.in_ok-collected.ticks.items) are c.in_ok-collected.ensures in
    gathered split c.args.settings.now.fuel c.args.settings.now.workers (numbered_rows c.args.first_rows.now) c.in_ok-works.works.items c.in_ok-works.word.code c.in_ok-works.ensures.solved c.in_ok-collected.collected c.in_ok-collected.ticks.items put
    (record { logs = c.in_ok-logs.logs; collected = c.in_ok-collected.collected; word = c.in_ok-works.word; ticks = c.in_ok-collected.ticks }) c.in_ok-logs.ensures refl refl refl

pub returns-clause-put : goal.returns-clause-put
returns-clause-put g c =
    let split = c.args.plan.now in
    let are = c.deref-2.ensures.value ∙ (c.in_ok-puts.ensures ∙ ap (puts_from 0) c.deref.ensures.value) in
    let put = subst (λ puts. ArePut (job_count split.instance split.split) puts c.in_ok-collected.collected c.in_ok-collected.ticks.items) are c.in_ok-collected.ensures in
    put-by-workers split c.args.settings.now.fuel c.args.settings.now.workers (numbered_rows c.args.first_rows.now) c.in_ok-works.works.items c.in_ok-works.word.code c.in_ok-works.ensures.solved c.in_ok-collected.collected c.in_ok-collected.ticks.items put
    (record { logs = c.in_ok-logs.logs; collected = c.in_ok-collected.collected; word = c.in_ok-works.word; ticks = c.in_ok-collected.ticks }) c.in_ok-logs.ensures refl refl
