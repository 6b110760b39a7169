use Rattle.std.proofs.Common.{◌≡◌, take}
use Rattle.cert_merge.specs.Compacting.{noted}
use Rattle.cert_merge.proofs.citing.note_numbers.Given as goal

abbrev pub invariant-loop-cite : goal.invariant-loop-cite
invariant-loop-cite l = l.last ≡ noted l.fn.last l.n (take l.cite-index l.cites)
