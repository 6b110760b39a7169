-- The whole parse of the words of `solve`.
use Rattle.std.proofs.Common.{◌≡◌, Bool, List, [], ◌∷◌, true, false, Some, codes, refl, ap, ◌∙◌, sym, drop}
use Rattle.std.specs.Prelude.{fold, flat_map, is_some}
use Rattle.std.specs.List.{All}
use Rattle.clap.specs.Words.{Row, Rule, Text, Kinds, fault_of, subcommand_of}
use Rattle.clap.specs.Kinds.{or_else}
use Rattle.clap.specs.Simple.{entered, names_of}
use Rattle.clap.specs.Walk.{Held, finished, has_row, nothing_held, settled, walk, walk_from, walked, with_default}
use Rattle.clap.specs.Faults.{check_fault, default_fault, defaults_fault, entered_fault, level_fault, settle_fault, walk_fault}
use Rattle.clap.proofs.WalkLemmas.{walk_stopped}
use Rattle.clap.proofs.FaultLemmas.{stopped_fault}
use Rattle.fapp_words.specs.Commands.{program}
use Rattle.fapp_words.specs.Solving.{Piece, words_of, AreNew}
use Rattle.fapp_words.proofs.BuiltProgram.{option_rule, flag_rule, rules, top, whole}
use Rattle.fapp_words.proofs.SolveWalk.{IsPlainPiece, after, pieces_walked}
use Rattle.fapp_words.proofs.SolveFaults.{or_else-both, or_else-none, or_else-last, solve, settles, taken, taken-new}

-- ---- the word `solve`

abbrev pub after_walk : Held → Kinds
after_walk end = or_else (settle_fault [] false end) (or_else (defaults_fault (settled [] end).rows []) (check_fault top (finished [] end) true))

pub nothing_after : after_walk nothing_held ≡ []
unfolding defaults_fault
nothing_after = refl

module _ (rest : List Text) where
  stop_is : (walk [] (names_of whole) nothing_held (codes "solve" ∷ rest)).stopped ≡ Some (codes "solve", rest)
  unfolding walked
  stop_is = sym (ap (λ w. w.stopped) (walk_stopped [] (names_of whole) (walk_from nothing_held) (codes "solve") [] rest))

  held_is : (walk [] (names_of whole) nothing_held (codes "solve" ∷ rest)).held ≡ nothing_held
  unfolding walked
  held_is = sym (ap (λ w. w.held) (walk_stopped [] (names_of whole) (walk_from nothing_held) (codes "solve") [] rest))

  top_fault : walk_fault top (names_of whole) (walk_from nothing_held) (codes "solve" ∷ rest) ≡ []
  unfolding walk_fault walked
  top_fault = stopped_fault top (names_of whole) (walk_from nothing_held) (codes "solve", []) rest

  -- what fails is a word of `solve`
  solve_fault : fault_of program (codes "solve" ∷ rest) ≡ level_fault solve [] nothing_held rest false []
  solve_fault =
      let inner = level_fault solve [] nothing_held rest false [] in
      ap (λ stop. level_fault top (names_of whole) nothing_held (codes "solve" ∷ rest) (is_some (entered whole stop)) (entered_fault whole stop)) stop_is
      ∙ (ap (λ x. or_else x (or_else inner (after_walk (walk [] (names_of whole) nothing_held (codes "solve" ∷ rest)).held))) top_fault
      ∙ (ap (λ e. or_else inner (after_walk e)) held_is ∙ (ap (or_else inner) nothing_after ∙ or_else-last inner)))

-- ---- defaults

option_default : (id : Text) (rows : List Row) → default_fault rows (option_rule id) ≡ []
option_default id rows = go (has_row id rows) refl
  where
    go : (b : Bool) → has_row id rows ≡ b → default_fault rows (option_rule id) ≡ []
    go true e = rw e refl
    go false e = rw e refl

flag_default : (rows : List Row) → default_fault rows flag_rule ≡ []
flag_default rows = go (has_row (codes "answer-only") rows) refl
  where
    go : (b : Bool) → has_row (codes "answer-only") rows ≡ b → default_fault rows flag_rule ≡ []
    go true e = rw e refl
    go false e = rw e refl

one_default : (id : Text) (rest : List Rule) (rows : List Row) → ((now : List Row) → defaults_fault now rest ≡ []) → defaults_fault rows (option_rule id ∷ rest) ≡ []
unfolding defaults_fault
one_default id rest rows more = or_else-none (default_fault rows (option_rule id)) (defaults_fault (with_default rows (option_rule id)) rest) (option_default id rows) (more (with_default rows (option_rule id)))

last_default : (rows : List Row) → defaults_fault rows (flag_rule ∷ []) ≡ []
unfolding defaults_fault
last_default rows = or_else-none (default_fault rows flag_rule) [] (flag_default rows) refl

defaults_none : (rows : List Row) → defaults_fault rows rules ≡ []
defaults_none rows = one_default (codes "workers") (drop 1 rules) rows (one_fuel one_split)
  where
    one_split : (now : List Row) → defaults_fault now (drop 2 rules) ≡ []
    one_split now = one_default (codes "split") (drop 3 rules) now (λ more. one_default (codes "pool") (drop 4 rules) more (λ rest. one_default (codes "cert") (drop 5 rules) rest last_default))

    one_fuel : ((now : List Row) → defaults_fault now (drop 2 rules) ≡ []) → (now : List Row) → defaults_fault now (drop 1 rules) ≡ []
    one_fuel more now = one_default (codes "fuel") (drop 2 rules) now more

-- ---- the words of `solve`

module _ (ps : List Piece) (plain : All IsPlainPiece ps) where
  abbrev end : Held
  end = (walk rules [] nothing_held (flat_map words_of ps)).held

  end_is : end ≡ fold after nothing_held ps
  end_is = ap (λ w. w.held) (pieces_walked ps nothing_held plain)

  -- where no option is written twice, nothing fails
  pub nothing_fails : AreNew [] ps → fault_of program (codes "solve" ∷ flat_map words_of ps) ≡ []
  nothing_fails new =
      let all = taken [] ps nothing_held plain refl refl new in
      solve_fault (flat_map words_of ps)
      ∙ or_else-none _ _ all.0 (or_else-none (settles end) _ (ap settles end_is ∙ all.1) (or_else-none _ (check_fault solve (finished rules end) false) (defaults_none _) refl))

  -- where nothing fails, no option is written twice
  pub is_new : fault_of program (codes "solve" ∷ flat_map words_of ps) ≡ [] → AreNew [] ps
  is_new none =
      let parts = or_else-both (walk_fault solve [] (walk_from nothing_held) (flat_map words_of ps)) _ (sym (solve_fault (flat_map words_of ps)) ∙ none) in
      let settled = or_else-both (settles end) _ parts.1 in
      taken-new [] ps nothing_held plain refl parts.0 (ap settles (sym end_is) ∙ settled.0)

  -- what clap finds
  pub found_is : subcommand_of program (codes "solve" ∷ flat_map words_of ps) ≡ Some (codes "solve", finished rules (fold after nothing_held ps))
  found_is = ap (entered whole) (stop_is (flat_map words_of ps)) ∙ ap (λ (h : Held). Some (codes "solve", finished rules h)) end_is
