-- The commands that the program takes, as clap reads them.
use Rattle.std.specs.Prelude.{true, Some, List, [], ◌∷◌, codes}
use Rattle.fapp_words.specs.declared.request.Maker.{Maker}
use Rattle.fapp_words.specs.declared.request.Maker.TheVariants.{Gen, Demo}
use Rattle.clap.specs.Words.{App, Rule, Shape, Text, new_rule, with_subcommand}
use Rattle.clap.specs.Simple.{new_shape}
use Rattle.clap.specs.declared.builder.action.ArgAction.TheVariants.{Set, SetTrue}

abbrev pub option_rule : Text → Rule
option_rule name = record (new_rule name) { long = Some name; action = Some Set }

abbrev pub flag_rule : Text → Rule
flag_rule name = record (new_rule name) { long = Some name; action = Some SetTrue }

abbrev pub place_rule : Text → Rule
place_rule name = record (new_rule name) { required = true; action = Some Set }

abbrev pub with_rules : Text → List Rule → Shape
with_rules name rules = record (new_shape name) { rules = rules }

abbrev pub solve_shape : Shape
solve_shape =
    with_rules (codes "solve") (option_rule (codes "workers") ∷ option_rule (codes "fuel")
    ∷ option_rule (codes "split") ∷ option_rule (codes "pool") ∷ option_rule (codes "cert")
    ∷ flag_rule (codes "answer-only") ∷ [])

abbrev pub check_shape : Shape
check_shape = with_rules (codes "check") (option_rule (codes "workers") ∷ [])

abbrev pub two_places : Text → Shape
two_places name = with_rules name (place_rule (codes "number") ∷ place_rule (codes "paths") ∷ [])

-- the first word of a command that makes a network
abbrev pub maker_name : Maker → Text
maker_name Gen = codes "gen"
maker_name Demo = codes "demo"

-- one command with four subcommands, and no help
abbrev pub top_shape : Shape
top_shape = record (new_shape (codes "zilmaute")) {
  no_binary_name = true;
  disable_help_flag = true;
  disable_help_subcommand = true;
  subcommand_required = true;
}

abbrev pub program : App
program =
    with_subcommand (with_subcommand (with_subcommand
    (with_subcommand (record { top = top_shape; subs = [] }) solve_shape) check_shape)
    (two_places (codes "gen"))) (two_places (codes "demo"))
