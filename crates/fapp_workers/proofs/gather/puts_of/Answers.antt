use Rattle.std.proofs.Common.{◌≡◌, suc, ◌+◌, ◌++◌, map, take, get_or, sym, ap, ◌∙◌, arith}
use Rattle.fapp_workers.specs.Puts.{puts_from, put_at}
use Rattle.fapp_workers.proofs.Putting.{puts-next}
use Rattle.fapp_workers.proofs.gather.puts_of.Goals as goal

pub loop-place-preserved : goal.loop-place-preserved
loop-place-preserved c =
    let works = c.args.works.now in
    let k = c.loop-place.place in
    let w = c.index-works-place.result in
    let done = (get_or works k w).done.items in
    let here : 0 + k ≡ k = omega arith in
    let up : suc k ≡ k + 1 = omega arith in
    c.in_ok-add_all.ensures
    ∙ (ap (λ xs. c.loop-place.puts.items ++ map (put_at k) xs) c.as_slice.ensures.value
    ∙ (ap (λ ps. ps ++ map (put_at k) done) c.loop-place.invariant
    ∙ (ap (λ m. puts_from 0 (take k works) ++ map (put_at m) done) (sym here)
    ∙ (sym (puts-next 0 works k w c.loop-place-test.true) ∙ ap (λ m. puts_from 0 (take m works)) up))))
