use Rattle.std.proofs.Common.{◌≡◌, ap, ap₂, ◌∙◌, true, []}
use Rattle.std.proofs.lemmas.Result.{IfOk-weaker}
use Rattle.clap.specs.Words.{App, app_of, with_subcommand}
use Rattle.fapp_words.specs.Commands.{top_shape}
use Rattle.fapp_words.proofs.commands.program.Goals as goal

pub returns : goal.returns
returns c =
    let top : app_of c.subcommand_required.result ≡ record { top = top_shape; subs = [] } =
    rw (c.subcommand_required.ensures, c.disable_help_subcommand.ensures, c.disable_help_flag.ensures, c.no_binary_name.ensures)
    (ap (λ (a : App). record { top = record a.top { no_binary_name = true; disable_help_flag = true; disable_help_subcommand = true; subcommand_required = true }; subs = a.subs }) c.new.ensures.app) in
    let one = c.in_ok-subcommand.ensures.shape c.in_ok-solve.ensures.local ∙ ap₂ with_subcommand top c.in_ok-solve.ensures.shape in
    let two = c.in_ok-subcommand-2.ensures.shape c.in_ok-check.ensures.local ∙ ap₂ with_subcommand one c.in_ok-check.ensures.shape in
    let three = c.in_ok-subcommand-3.ensures.shape c.in_ok-with_two_places.ensures.local ∙ ap₂ with_subcommand two c.in_ok-with_two_places.ensures.shape in
    IfOk-weaker c.subcommand-4.result _ _ (λ r h. h.shape c.in_ok-with_two_places-2.ensures.local ∙ ap₂ with_subcommand three c.in_ok-with_two_places-2.ensures.shape) c.subcommand-4.ensures
