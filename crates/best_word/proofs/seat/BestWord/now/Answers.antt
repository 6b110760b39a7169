use Rattle.std.proofs.Common.{rules}
use Rattle.best_word.proofs.Keeps.{looks}
use Rattle.best_word.proofs.seat.BestWord.now.Goals as goal

pub load-code-requires : goal.load-code-requires
load-code-requires c = (search rules, search rules, looks _ _ _ _ c.args.seat.now.empty c.args.seat.now.unspent)
