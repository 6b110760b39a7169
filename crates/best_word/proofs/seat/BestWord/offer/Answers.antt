use Rattle.std.proofs.Common.{rules}
use Rattle.best_word.proofs.Keeps.{lowers}
use Rattle.best_word.proofs.seat.BestWord.offer.Goals as goal

pub fetch_min-code-requires : goal.fetch_min-code-requires
fetch_min-code-requires c = (search rules, search rules, lowers _ _ _ _ _ c.args.seat.now.empty c.args.seat.now.unspent c.args.tag.of_tag c.requires.tag)
