use Rattle.std.proofs.Common.{◌≡◌, ap, ap₂, ◌∙◌, codes}
use Rattle.std.proofs.lemmas.Result.{IfOk-weaker}
use Rattle.clap.specs.Words.{App, app_of, new_app, with_rule}
use Rattle.fapp_words.specs.Commands.{option_rule}
use Rattle.fapp_words.proofs.commands.solve.Goals as goal

pub returns-clause-shape : goal.returns-clause-shape
returns-clause-shape c =
    let one : app_of c.in_ok-arg.field-0 ≡ with_rule (new_app (codes "solve")) (option_rule (codes "workers")) = c.in_ok-arg.ensures.shape c.option.ensures.local ∙ ap₂ with_rule c.new.ensures.app c.option.ensures.rule in
    let two = c.in_ok-arg-2.ensures.shape c.option-2.ensures.local ∙ ap₂ with_rule one c.option-2.ensures.rule in
    let three = c.in_ok-arg-3.ensures.shape c.option-3.ensures.local ∙ ap₂ with_rule two c.option-3.ensures.rule in
    let four = c.in_ok-arg-4.ensures.shape c.option-4.ensures.local ∙ ap₂ with_rule three c.option-4.ensures.rule in
    let five = c.in_ok-arg-5.ensures.shape c.option-5.ensures.local ∙ ap₂ with_rule four c.option-5.ensures.rule in
    IfOk-weaker c.arg-6.result _ _ (λ r h. ap (λ (a : App). a.top) (h.shape c.flag.ensures.local ∙ ap₂ with_rule five c.flag.ensures.rule)) c.arg-6.ensures

pub returns-clause-local : goal.returns-clause-local
returns-clause-local c =
    IfOk-weaker c.arg-6.result _ _ (λ r h. rw (h.globals, c.in_ok-arg-5.ensures.globals, c.in_ok-arg-4.ensures.globals, c.in_ok-arg-3.ensures.globals, c.in_ok-arg-2.ensures.globals, c.in_ok-arg.ensures.globals, c.new.ensures.local, c.option.ensures.local, c.option-2.ensures.local, c.option-3.ensures.local, c.option-4.ensures.local, c.option-5.ensures.local) c.flag.ensures.local) c.arg-6.ensures
