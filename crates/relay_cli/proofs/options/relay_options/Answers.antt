use Rattle.std.proofs.Common.{None, Some, ap, sym, ◌∙◌, subst}
use Rattle.std.specs.Prelude.{IfSome, map, string_bytes}
use Rattle.fapp_words.specs.Promises.{ReadsWords}
use Rattle.fapp_run.specs.Answers.{AreOptions}
use Rattle.relay_cli.specs.Words.{ReadsRelay}
use Rattle.relay_cli.proofs.RelayWords.{relay_range, relay_read}
use Rattle.relay_cli.proofs.options.relay_options.Goals as goal

pub returns-in-Some-clause-words : goal.returns-in-Some-clause-words
returns-in-Some-clause-words c =
    let words = map string_bytes c.args.words.now in
    let read = subst (λ ws. ReadsWords ws (Some c.in-Some.request)) (ap (map string_bytes) c.deref.ensures.value ∙ c.in_ok-words.ensures) (subst (ReadsWords (map string_bytes c.deref.result.now)) c.in-Some.is c.in_ok-request.ensures.reads) in
    subst (ReadsRelay words) (sym c.whole_options.ensures) (relay_read words (Some c.in-Some.request) read)

pub returns-in-Some-clause-range : goal.returns-in-Some-clause-range
returns-in-Some-clause-range c =
    let read = subst (ReadsWords (map string_bytes c.deref.result.now)) c.in-Some.is c.in_ok-request.ensures.reads in
    subst (λ options. IfSome options AreOptions) (sym c.whole_options.ensures) (relay_range (map string_bytes c.deref.result.now) c.in-Some.request read)

pub returns-clause-words : goal.returns-clause-words
returns-clause-words c =
    let words = map string_bytes c.args.words.now in
    relay_read words None (subst (λ ws. ReadsWords ws None) (ap (map string_bytes) c.deref.ensures.value ∙ c.in_ok-words.ensures) (subst (ReadsWords (map string_bytes c.deref.result.now)) c.in-None.is c.in_ok-request.ensures.reads))
