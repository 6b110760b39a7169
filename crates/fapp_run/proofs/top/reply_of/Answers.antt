use Rattle.std.proofs.Common.{map, subst, rules}
use Rattle.std.specs.Prelude.{string_bytes}
use Rattle.fapp_words.specs.Promises.{ReadsWords}
use Rattle.fapp_run.specs.Made.{AreRequested}
use Rattle.fapp_run.proofs.Asked.{asked-in}
use Rattle.fapp_run.proofs.top.reply_of.Goals as goal

pub requested-requires-after_bounds : goal.requested-requires-after_bounds
requested-requires-after_bounds g c =
    let words = map string_bytes c.args.words.now in
    let asked : AreRequested c.in-Some.request = asked-in words c.in-Some.request (subst (ReadsWords words) c.in-Some.is c.in_ok-request.ensures.reads) in
    search rules
