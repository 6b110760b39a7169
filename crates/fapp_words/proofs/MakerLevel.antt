-- The whole parse of the words of a command that makes a network.
use Rattle.std.proofs.Common.{◌≡◌, List, [], ◌∷◌, true, false, Some, codes, refl, ap, ap₂, ◌∙◌, sym}
use Rattle.std.specs.Prelude.{is_some}
use Rattle.clap.specs.Words.{Row, Shape, Text, fault_of, first_of, subcommand_of}
use Rattle.clap.specs.Kinds.{or_else}
use Rattle.clap.specs.Simple.{entered, names_of}
use Rattle.clap.specs.Walk.{finished, nothing_held, walk, walk_from, walked}
use Rattle.clap.specs.Faults.{defaults_fault, entered_fault, level_fault, walk_fault}
use Rattle.clap.proofs.WalkLemmas.{walk_stopped}
use Rattle.clap.proofs.FaultLemmas.{stopped_fault}
use Rattle.fapp_words.specs.declared.request.Maker.{Maker}
use Rattle.fapp_words.specs.declared.request.Maker.TheVariants.{Gen, Demo}
use Rattle.fapp_words.specs.Commands.{maker_name, program}
use Rattle.fapp_words.proofs.BuiltProgram.{leaf, places, top, whole}
use Rattle.fapp_words.proofs.SolveWalk.{IsPlain}
use Rattle.fapp_words.proofs.SolveLevel.{after_walk, nothing_after}
use Rattle.fapp_words.proofs.SolveFaults.{or_else-last}

abbrev made : Maker → Shape
made maker = leaf (maker_name maker) places

module _ (rest : List Text) where
  made_stop : (maker : Maker) → (walk [] (names_of whole) nothing_held (maker_name maker ∷ rest)).stopped ≡ Some (maker_name maker, rest)
  unfolding walked
  made_stop Gen = sym (ap (λ w. w.stopped) (walk_stopped [] (names_of whole) (walk_from nothing_held) (codes "gen") [] rest))
  made_stop Demo = sym (ap (λ w. w.stopped) (walk_stopped [] (names_of whole) (walk_from nothing_held) (codes "demo") [] rest))

  made_held : (maker : Maker) → (walk [] (names_of whole) nothing_held (maker_name maker ∷ rest)).held ≡ nothing_held
  unfolding walked
  made_held Gen = sym (ap (λ w. w.held) (walk_stopped [] (names_of whole) (walk_from nothing_held) (codes "gen") [] rest))
  made_held Demo = sym (ap (λ w. w.held) (walk_stopped [] (names_of whole) (walk_from nothing_held) (codes "demo") [] rest))

  made_top : (maker : Maker) → walk_fault top (names_of whole) (walk_from nothing_held) (maker_name maker ∷ rest) ≡ []
  unfolding walk_fault walked
  made_top Gen = stopped_fault top (names_of whole) (walk_from nothing_held) (codes "gen", []) rest
  made_top Demo = stopped_fault top (names_of whole) (walk_from nothing_held) (codes "demo", []) rest

  entered_is : (maker : Maker) → entered_fault whole (Some (maker_name maker, rest)) ≡ level_fault (made maker) [] nothing_held rest false []
  entered_is Gen = refl
  entered_is Demo = refl

  is_entered : (maker : Maker) → is_some (entered whole (Some (maker_name maker, rest))) ≡ true
  is_entered Gen = refl
  is_entered Demo = refl

  made_fault : (maker : Maker) → fault_of program (maker_name maker ∷ rest) ≡ level_fault (made maker) [] nothing_held rest false []
  made_fault maker =
      let inner = level_fault (made maker) [] nothing_held rest false [] in
      let words = maker_name maker ∷ rest in
      ap (λ stop. level_fault top (names_of whole) nothing_held words (is_some (entered whole stop)) (entered_fault whole stop)) (made_stop maker)
      ∙ (ap₂ (λ known fault. level_fault top (names_of whole) nothing_held words known fault) (is_entered maker) (entered_is maker)
      ∙ (ap (λ x. or_else x (or_else inner (after_walk (walk [] (names_of whole) nothing_held words).held))) (made_top maker)
      ∙ (ap (λ e. or_else inner (after_walk e)) (made_held maker) ∙ (ap (or_else inner) nothing_after ∙ or_else-last inner))))

-- two words at their places are taken
level_none : (maker : Maker) (a b : Text) → IsPlain a → IsPlain b → level_fault (made maker) [] nothing_held (a ∷ b ∷ []) false [] ≡ []
unfolding walk_fault walked defaults_fault
level_none maker a b p q = rw (p.dashes, p.long, p.short, q.dashes, q.long, q.short) refl

pub made_taken : (maker : Maker) (a b : Text) → IsPlain a → IsPlain b → fault_of program (maker_name maker ∷ a ∷ b ∷ []) ≡ []
made_taken maker a b p q = made_fault (a ∷ b ∷ []) maker ∙ level_none maker a b p q

abbrev made_rows : Text → Text → List Row
made_rows a b = finished places (walk places [] nothing_held (a ∷ b ∷ [])).held

number_is : (a b : Text) → IsPlain a → IsPlain b → first_of (codes "number") (made_rows a b) ≡ Some a
unfolding walked
number_is a b p q = rw (p.dashes, p.long, p.short, q.dashes, q.long, q.short) refl

paths_is : (a b : Text) → IsPlain a → IsPlain b → first_of (codes "paths") (made_rows a b) ≡ Some b
unfolding walked
paths_is a b p q = rw (p.dashes, p.long, p.short, q.dashes, q.long, q.short) refl

rows_are : (maker : Maker) (a b : Text) → entered whole (Some (maker_name maker, a ∷ b ∷ [])) ≡ Some (maker_name maker, made_rows a b)
rows_are Gen a b = refl
rows_are Demo a b = refl

pub made_found : (maker : Maker) (a b : Text) → IsPlain a → IsPlain b → (rows : List Row) × (subcommand_of program (maker_name maker ∷ a ∷ b ∷ []) ≡ Some (maker_name maker, rows)) × (first_of (codes "number") rows ≡ Some a) × (first_of (codes "paths") rows ≡ Some b)
made_found maker a b p q = (made_rows a b, ap (entered whole) (made_stop (a ∷ b ∷ []) maker) ∙ rows_are maker a b, number_is a b p q, paths_is a b p q)
