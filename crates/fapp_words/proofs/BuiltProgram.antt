-- The program's commands once clap has built them.
use Rattle.std.proofs.Common.{◌≡◌, ℕ, List, [], ◌∷◌, true, false, Option, Some, codes, refl}
use Rattle.clap.specs.Words.{App, Rule, Shape, Text, built, is_simple, is_simple_and_free, new_rule}
use Rattle.clap.specs.Simple.{new_shape}
use Rattle.clap.specs.declared.builder.action.ArgAction.TheVariants.{Set, SetTrue}
use Rattle.clap.specs.declared.builder.value_parser.ValueParser.TheVariants as vp
use Rattle.clap.proofs.OnLiterals.{clap_on_literals}
use Rattle.fapp_words.specs.Commands.{program}

abbrev pub option_rule : Text → Rule
option_rule name = record (new_rule name) {
  long = Some name;
  action = Some Set;
  range = Some (record { start_inclusive = 1; end_inclusive = 1 });
  parser = Some vp.String;
}

abbrev pub flag_rule : Rule
flag_rule = record (new_rule (codes "answer-only")) {
  long = Some (codes "answer-only");
  action = Some SetTrue;
  range = Some (record { start_inclusive = 0; end_inclusive = 0 });
  defaults = codes "false" ∷ [];
  missing = codes "true" ∷ [];
  parser = Some vp.Bool;
}

abbrev pub rules : List Rule
rules = option_rule (codes "workers") ∷ option_rule (codes "fuel") ∷ option_rule (codes "split") ∷ option_rule (codes "pool") ∷ option_rule (codes "cert") ∷ flag_rule ∷ []

abbrev pub check_rules : List Rule
check_rules = option_rule (codes "workers") ∷ []

abbrev pub leaf : Text → List Rule → Shape
leaf name rules = record (new_shape name) {
  rules = rules;
  no_binary_name = true;
  disable_help_flag = true;
  disable_help_subcommand = true;
  is_built = true;
}

abbrev pub place_rule : Text → Option ℕ → Rule
place_rule name at = record (new_rule name) {
  required = true;
  action = Some Set;
  index = at;
  range = Some (record { start_inclusive = 1; end_inclusive = 1 });
  parser = Some vp.String;
}

abbrev pub places : List Rule
places = place_rule (codes "number") (Some 1) ∷ place_rule (codes "paths") (Some 2) ∷ []

abbrev pub top : Shape
top = record (new_shape (codes "zilmaute")) {
  is_leaf = false;
  no_binary_name = true;
  disable_help_flag = true;
  disable_help_subcommand = true;
  subcommand_required = true;
  is_built = true;
}

abbrev pub whole : App
whole = record { top = top; subs = leaf (codes "solve") rules ∷ leaf (codes "check") check_rules ∷ leaf (codes "gen") places ∷ leaf (codes "demo") places ∷ [] }

pub built_is : built program ≡ whole
built_is = refl

pub simple : is_simple program ≡ true
unfolding clap_on_literals
simple = refl

pub simple_and_free : is_simple_and_free program ≡ true
unfolding clap_on_literals
simple_and_free = refl
