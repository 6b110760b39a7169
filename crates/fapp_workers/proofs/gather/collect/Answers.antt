use Rattle.std.proofs.Common.{◌≡◌, suc, ◌+◌, ◌<◌, ◌∷◌, [], ◌++◌, take, get_or, set, sym, ap, ◌∙◌, subst, arith}
use Rattle.fapp_model.specs.search.Jobs.{job_count}
use Rattle.fapp_workers.specs.declared.gather.Put.{Put}
use Rattle.fapp_workers.specs.Puts.{ArePut, put_ids}
use Rattle.steal_ring.specs.Jobs.{times}
use Rattle.fapp_workers.proofs.Putting.{put-one, put-once, take-next}
use Rattle.fapp_workers.proofs.gather.collect.Goals as goal

pub put-requires-clause-open : goal.put-requires-clause-open
put-requires-clause-open c =
    let puts = c.args.puts.now in
    let put = c.index-puts-k.result in
    let at : put ≡ get_or puts c.loop-k.k put = c.index-puts-k.is in
    (c.loop-k.invariant.others put.done.id (subst (λ (p : Put). p.done.id < job_count c.args.plan.now.instance c.args.plan.now.split) (sym at) (c.requires.inside c.loop-k.k put c.loop-k-test.true))
    (subst (λ (p : Put). times p.done.id (put_ids (take c.loop-k.k puts)) ≡ 0) (sym at) (put-once puts c.loop-k.k put c.loop-k-test.true c.requires.once))).0

pub loop-k-preserved : goal.loop-k-preserved
loop-k-preserved c =
    let puts = c.args.puts.now in
    let k = c.loop-k.k in
    let put = c.index-puts-k.result in
    let jobs = job_count c.args.plan.now.instance c.args.plan.now.split in
    let at : put ≡ get_or puts k put = c.index-puts-k.is in
    let inside : put.done.id < jobs = subst (λ (p : Put). p.done.id < jobs) (sym at) (c.requires.inside k put c.loop-k-test.true) in
    let none : times put.done.id (put_ids (take k puts)) ≡ 0 = subst (λ (p : Put). times p.done.id (put_ids (take k puts)) ≡ 0) (sym at) (put-once puts k put c.loop-k-test.true c.requires.once) in
    let next : take (k + 1) puts ≡ take k puts ++ put ∷ [] = ap (λ m. take m puts) (let e : k + 1 ≡ suc k = omega arith in e) ∙ (take-next puts k put c.loop-k-test.true ∙ ap (λ p. take k puts ++ p ∷ []) (sym at)) in
    let one = put-one jobs (take k puts) put c.loop-k.collected c.loop-k.ticks.items inside none c.loop-k.invariant in
    let ticks = set c.loop-k.ticks.items put.done.id put.done.ticks in
    subst (λ ps. ArePut jobs ps c.put.new.self ticks) (sym next) (subst (λ os. ArePut jobs (take k puts ++ put ∷ []) os ticks) (sym c.put.ensures) one)
