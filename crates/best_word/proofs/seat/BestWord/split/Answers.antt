use Rattle.std.proofs.Common.{rules}
use Rattle.best_word.proofs.Keeps.{splits}
use Rattle.best_word.proofs.seat.BestWord.split.Goals as goal

pub split_seat-other-requires : goal.split_seat-other-requires
split_seat-other-requires c = (search rules, search rules, splits _ _ _ c.args.seat.now.unspent c.requires.share)
