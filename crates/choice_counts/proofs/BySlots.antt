-- Sums over literals, path by path.
use Rattle.std.proofs.Common.{◌≡◌, ℕ, ◌+◌, ◌*◌, ◌<◌, ◌≤◌, Bool, true, false, cond, Option, Some, None, List, length, get_or, refl, sym, ap, ◌∙◌, subst, arith, sum_by, filter}
use Rattle.std.specs.List.{range_with_len}
use Rattle.std.specs.Option.{is_some}
use Rattle.std.proofs.lemmas.List.Elements.{Contains-get_or}
use Rattle.dead_laws.proofs.Picks.{range-named}
use Rattle.fapp_model.specs.declared.instance.Instance.{Instance}
use Rattle.fapp_model.specs.declared.literal.Literal.{Literal}
use Rattle.fapp_model.specs.search.Clashes.{shares_record}
use Rattle.fapp_model.specs.search.Partials.{IsPartial, literal, names}
use Rattle.fapp_model.proofs.Sums.{range-sum-same, sum_by-same-members}
use Rattle.fapp_tables.specs.Indexes.{neighbours_of}
use Rattle.fapp_tables.proofs.PairLaws.{sum_by-filter}
use Rattle.nogood.specs.Partials.{choice_given}
use Rattle.choice_counts.specs.Counts.{pair_tally, slot_part}
use Rattle.choice_counts.specs.ForwardStates.{AreSlots}
use Rattle.choice_counts.proofs.Clash.{none_apart}
use Rattle.choice_counts.proofs.Slots.{named}

abbrev nothing : Bool → ℕ
nothing b = cond b 0 0

zero : (b : Bool) → nothing b ≡ 0
zero true = refl
zero false = refl

module _ (instance : Instance) (literals : List Literal) (slots : List (Option ℕ)) (held : AreSlots instance literals slots) where
  pub by_slots : IsPartial instance literals → (f : Literal → ℕ) → sum_by f literals ≡ sum_by (λ p. slot_part f p (choice_given slots p)) (range_with_len 0 (length instance.paths))
  by_slots partial f =
      let at : ℕ → ℕ = λ p. slot_part f p (choice_given slots p) in
      sum_by-same-members f (λ (a : Literal). at a.path) literals (λ k d inside. sym (ap (slot_part f (get_or literals k d).path) ((held.given (get_or literals k d)).1 (Contains-get_or literals k d inside))))
      ∙ (sym (range-named at (length instance.paths) literals partial.distinct (λ k d inside. (partial.in_range k d inside).path))
      ∙ range-sum-same (λ p. cond (names literals p) (at p) 0) at (length instance.paths) (λ p below. each p (choice_given slots p) refl))
    where
      each : (p : ℕ) (o : Option ℕ) → choice_given slots p ≡ o → cond (names literals p) (slot_part f p o) 0 ≡ slot_part f p o
      each p None e = zero (names literals p)
      each p (Some index) e = ap (λ b. cond b (f (literal p index)) 0) (sym (named instance literals slots held p) ∙ ap is_some e)

  -- what the literals count in a choice's tally comes from its neighbours
  pub by_neighbours : IsPartial instance literals → (level : ℕ) (a : Literal) → sum_by (pair_tally instance level a) literals ≡ sum_by (λ p. slot_part (pair_tally instance level a) p (choice_given slots p)) (neighbours_of instance a.path)
  by_neighbours partial level a =
      let at : ℕ → ℕ = λ p. slot_part (pair_tally instance level a) p (choice_given slots p) in
      by_slots partial (pair_tally instance level a)
      ∙ sym (sum_by-filter at (shares_record instance a.path) (range_with_len 0 (length instance.paths))
      ∙ range-sum-same (λ p. cond (shares_record instance a.path p) (at p) 0) at (length instance.paths) (λ p below. each p (shares_record instance a.path p) refl (choice_given slots p) refl))
    where
      each : (p : ℕ) (b : Bool) → shares_record instance a.path p ≡ b → (o : Option ℕ) → choice_given slots p ≡ o → cond b (slot_part (pair_tally instance level a) p o) 0 ≡ slot_part (pair_tally instance level a) p o
      each p true shares o e = refl
      each p false shares None e = refl
      each p false shares (Some index) e = sym (none_apart instance level a (literal p index) shares)
