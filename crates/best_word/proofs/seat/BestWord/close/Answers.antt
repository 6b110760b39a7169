use Rattle.best_word.proofs.Keeps.{closes}
use Rattle.best_word.proofs.seat.BestWord.close.Goals as goal

pub returns : goal.returns
returns c = (closes _ _ _ _ _ _ c.args.seat.unspent c.requires.share c.close_with-closed.ensures.values.2 c.word-code.ensures)
