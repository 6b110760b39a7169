-- The whole parse of the words of `check`.
use Rattle.std.proofs.Common.{◌≡◌, List, [], ◌∷◌, ◌++◌, false, Some, None, codes, refl, ap, ◌∙◌, sym}
use Rattle.std.specs.Prelude.{is_some}
use Rattle.clap.specs.Words.{Row, Shape, Text, fault_of, first_of, subcommand_of}
use Rattle.clap.specs.Kinds.{or_else}
use Rattle.clap.specs.Simple.{entered, names_of}
use Rattle.clap.specs.Walk.{finished, nothing_held, walk, walk_from, walked}
use Rattle.clap.specs.Faults.{defaults_fault, entered_fault, level_fault, walk_fault}
use Rattle.clap.proofs.WalkLemmas.{walk_stopped}
use Rattle.clap.proofs.FaultLemmas.{stopped_fault}
use Rattle.fapp_words.specs.Commands.{program}
use Rattle.fapp_words.proofs.BuiltProgram.{leaf, check_rules, top, whole}
use Rattle.fapp_words.proofs.SolveWalk.{IsPlain}
use Rattle.fapp_words.proofs.SolveLevel.{after_walk, nothing_after}
use Rattle.fapp_words.proofs.SolveFaults.{or_else-last}

abbrev checked : Shape
checked = leaf (codes "check") check_rules

abbrev check_rows : List Text → List Row
check_rows rest = finished check_rules (walk check_rules [] nothing_held rest).held

module _ (rest : List Text) where
  stop_is : (walk [] (names_of whole) nothing_held (codes "check" ∷ rest)).stopped ≡ Some (codes "check", rest)
  unfolding walked
  stop_is = sym (ap (λ w. w.stopped) (walk_stopped [] (names_of whole) (walk_from nothing_held) (codes "check") [] rest))

  held_is : (walk [] (names_of whole) nothing_held (codes "check" ∷ rest)).held ≡ nothing_held
  unfolding walked
  held_is = sym (ap (λ w. w.held) (walk_stopped [] (names_of whole) (walk_from nothing_held) (codes "check") [] rest))

  top_fault : walk_fault top (names_of whole) (walk_from nothing_held) (codes "check" ∷ rest) ≡ []
  unfolding walk_fault walked
  top_fault = stopped_fault top (names_of whole) (walk_from nothing_held) (codes "check", []) rest

  -- what fails is a word of `check`
  inner_fault : fault_of program (codes "check" ∷ rest) ≡ level_fault checked [] nothing_held rest false []
  inner_fault =
      let inner = level_fault checked [] nothing_held rest false [] in
      ap (λ stop. level_fault top (names_of whole) nothing_held (codes "check" ∷ rest) (is_some (entered whole stop)) (entered_fault whole stop)) stop_is
      ∙ (ap (λ x. or_else x (or_else inner (after_walk (walk [] (names_of whole) nothing_held (codes "check" ∷ rest)).held))) top_fault
      ∙ (ap (λ e. or_else inner (after_walk e)) held_is ∙ (ap (or_else inner) nothing_after ∙ or_else-last inner)))

  found_rows : subcommand_of program (codes "check" ∷ rest) ≡ Some (codes "check", check_rows rest)
  found_rows = ap (entered whole) stop_is

-- ---- `check` alone

alone_none : level_fault checked [] nothing_held [] false [] ≡ []
unfolding walk_fault walked defaults_fault
alone_none = refl

pub alone_taken : fault_of program (codes "check" ∷ []) ≡ []
alone_taken = inner_fault [] ∙ alone_none

alone_first : first_of (codes "workers") (check_rows []) ≡ None
unfolding walked
alone_first = refl

pub alone_found : (rows : List Row) × (subcommand_of program (codes "check" ∷ []) ≡ Some (codes "check", rows)) × (first_of (codes "workers") rows ≡ None)
alone_found = (check_rows [], found_rows [], alone_first)

-- ---- `check --workers VALUE`

apart_none : (v : Text) → IsPlain v → level_fault checked [] nothing_held (codes "--workers" ∷ v ∷ []) false [] ≡ []
unfolding walk_fault walked defaults_fault
apart_none v plain = rw (plain.dashes, plain.long, plain.short) refl

pub apart_taken : (v : Text) → IsPlain v → fault_of program (codes "check" ∷ codes "--workers" ∷ v ∷ []) ≡ []
apart_taken v plain = inner_fault (codes "--workers" ∷ v ∷ []) ∙ apart_none v plain

apart_first : (v : Text) → IsPlain v → first_of (codes "workers") (check_rows (codes "--workers" ∷ v ∷ [])) ≡ Some v
unfolding walked
apart_first v plain = rw (plain.dashes, plain.long, plain.short) refl

pub apart_found : (v : Text) → IsPlain v → (rows : List Row) × (subcommand_of program (codes "check" ∷ codes "--workers" ∷ v ∷ []) ≡ Some (codes "check", rows)) × (first_of (codes "workers") rows ≡ Some v)
apart_found v plain = (check_rows (codes "--workers" ∷ v ∷ []), found_rows (codes "--workers" ∷ v ∷ []), apart_first v plain)

-- ---- `check --workers=VALUE`

joined_none : (v : Text) → level_fault checked [] nothing_held ((codes "--workers=" ++ v) ∷ []) false [] ≡ []
unfolding walk_fault walked defaults_fault
joined_none v = refl

pub joined_taken : (v : Text) → fault_of program (codes "check" ∷ (codes "--workers=" ++ v) ∷ []) ≡ []
joined_taken v = inner_fault ((codes "--workers=" ++ v) ∷ []) ∙ joined_none v

joined_first : (v : Text) → first_of (codes "workers") (check_rows ((codes "--workers=" ++ v) ∷ [])) ≡ Some v
unfolding walked
joined_first v = refl

pub joined_found : (v : Text) → (rows : List Row) × (subcommand_of program (codes "check" ∷ (codes "--workers=" ++ v) ∷ []) ≡ Some (codes "check", rows)) × (first_of (codes "workers") rows ≡ Some v)
joined_found v = (check_rows ((codes "--workers=" ++ v) ∷ []), found_rows ((codes "--workers=" ++ v) ∷ []), joined_first v)
