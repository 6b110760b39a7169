use Rattle.std.proofs.Common.{◌≡◌, ◌++◌, map, take}
use Rattle.fapp_workers.specs.Puts.{put_at}
use Rattle.fapp_workers.proofs.gather.add_all.Given as goal

abbrev pub invariant-loop-one : goal.invariant-loop-one
invariant-loop-one l = l.puts.items ≡ l.fn.puts.items ++ map (put_at l.place) (take l.one-index l.done)
