-- A feasible plan has no fault as it is shown.
use Rattle.std.proofs.Common.{◌≡◌, ℕ, zero, suc, ◌*◌, ◌/◌, ◌%◌, ◌<◌, ◌≤◌, Bool, true, false, ◌&&◌, not, List, [], ◌∷◌, length, get_or, refl, ap, sym, subst, ◌∙◌, inl, inr, arith, Option, None, Some, Contains, eqb, cond, slice_index, zero-add, ℤ, pos}
use Rattle.std.specs.List.{list_all, range_with_len}
use Rattle.std.specs.Ordering.{int_eq}
use Rattle.std.proofs.lemmas.Bool.{and_from, eq-eqb}
use Rattle.std.proofs.lemmas.Bool.Decides.{Decides-int_eq}
use Rattle.std.proofs.lemmas.List.Elements.{All-contains, Contains-get_or}
use Rattle.std.proofs.lemmas.List.FromFn.{length-map-range_with_len, get_or-map-range_with_len}
use Rattle.std.proofs.lemmas.List.Sums.{AllPass-from_list_all}
use Rattle.fapp_text.specs.Signs.{IsSign}
use Rattle.fapp_model.specs.declared.choice.Choice.{Choice}
use Rattle.fapp_model.specs.declared.instance.Instance.{Instance}
use Rattle.fapp_model.specs.declared.instance.Path.{Path}
use Rattle.fapp_model.specs.declared.literal.Literal.{Literal}
use Rattle.fapp_model.specs.declared.record.Record.{Record}
use Rattle.fapp_model.specs.declared.tag.Tag.{Tag}
use Rattle.fapp_model.specs.declared.triple.Triple.{Triple}
use Rattle.fapp_model.specs.Assignments.{breaks, chosen, meets, no_path, path_at, violates}
use Rattle.fapp_model.specs.Choices.{both_polarizations, choice, choices, no_choice}
use Rattle.fapp_model.specs.Costs.{cost, cost_by, violations}
use Rattle.fapp_model.specs.Instances.{IsInstance, IsNumber, IsPath, IsPolarization, IsRecord}
use Rattle.fapp_model.specs.Least.{IsFeasible}
use Rattle.fapp_model.specs.Levels.{levels_of}
use Rattle.fapp_model.specs.Records.{first_path, is_bad, is_broken, second_path}
use Rattle.fapp_model.specs.Tags.{top_tag}
use Rattle.fapp_model.proofs.Anys.{any-member}
use Rattle.fapp_model.proofs.ChoiceLemmas.{IsFixed, fixed_choice, fixed_count, free_choice, free_count}
use Rattle.fapp_model.proofs.ClearLevels.{clear-le}
use Rattle.fapp_model.proofs.CostParts.{cost_agrees}
use Rattle.fapp_model.proofs.Members.{All-from_members, at_front, behind, from-map, from-range}
use Rattle.fapp_model.proofs.Sums.{sum_by-same-members}
use Rattle.cert_lines.specs.declared.answer.Verdict.TheVariants.{Best, NoneFeasible, Open}
use Rattle.cert_lines.specs.declared.reject.RejectCause.{RejectCause}
use Rattle.cert_lines.specs.declared.reject.RejectCause.TheVariants.{AssignmentLength, ChoiceNotInDomain, ImperativeBroken, TripleDiffers}
use Rattle.cert_lines.specs.WellFormed.{IsShownChoice}
use Rattle.cert_lines.specs.acceptance.LineFaults.{cause_unless}
use Rattle.cert_lines.specs.acceptance.PlanFaults.{all_offered, cost_fault, indices, is_offered, is_same_choice, is_same_triple, plan_fault, shown_at, shown_fault, shown_fault_by}
use Rattle.accept_laws.specs.ShownPlans.{IsWellShown, NoPlanHasNoFault, shown}
use Rattle.accept_laws.proofs.Options.{both-none}
use Rattle.accept_laws.proofs.ShownPlans.{same-triples, shown-chosen}

none-unless : (b : Bool) (cause : RejectCause) → b ≡ true → cause_unless b cause ≡ None
none-unless b cause e = rw e refl

same-int : (z : ℤ) → int_eq z z ≡ true
same-int z = (Decides-int_eq z z).1 refl

same-choice : (c : Choice) → is_same_choice c c ≡ true
same-choice c = and_from (eqb c.freq c.freq) (int_eq c.pol c.pol) (eq-eqb c.freq c.freq refl) (same-int c.pol)

same-triple : (t : Triple) → is_same_triple t t ≡ true
same-triple t = and_from (eqb t.k t.k) (eqb t.v t.v && eqb t.s t.s) (eq-eqb t.k t.k refl) (and_from (eqb t.v t.v) (eqb t.s t.s) (eq-eqb t.v t.v refl) (eq-eqb t.s t.s refl))

all-pass : {X : Type 0} (p : X → Bool) (xs : List X) → ((x : X) → Contains xs x → p x ≡ true) → list_all p xs ≡ true
all-pass p [] h = refl
all-pass p (x ∷ xs) h = and_from (p x) (list_all p xs) (h x (at_front x xs)) (all-pass p xs (λ y m. h y (behind x xs y m)))

-- ---- plans that choose alike

abbrev counted : Bool → ℕ
counted b = cond b 1 0

module _ (instance : Instance) (valid : IsInstance instance) (plan other : List ℕ) (alike : (position : ℕ) → position < length instance.paths → chosen instance other position ≡ chosen instance plan position) where
  record-of : (r : Record) → Contains instance.records r → IsRecord (levels_of instance) (length instance.paths) r
  record-of r m = All-contains (IsRecord (levels_of instance) (length instance.paths)) instance.records r valid.records m

  same-breaks : (r : Record) → Contains instance.records r → breaks instance other r ≡ breaks instance plan r
  same-breaks r m = let h = record-of r m in
      ap (λ (c : Choice). is_broken r c (chosen instance other (second_path r))) (alike (first_path r) h.first)
      ∙ ap (λ (c : Choice). is_broken r (chosen instance plan (first_path r)) c) (alike (second_path r) h.second)

  same-violates : (level : ℕ) (r : Record) → Contains instance.records r → violates instance other level r ≡ violates instance plan level r
  same-violates level r m = let h = record-of r m in
      ap (λ (c : Choice). is_bad level r c (chosen instance other (second_path r))) (alike (first_path r) h.first)
      ∙ ap (λ (c : Choice). is_bad level r (chosen instance plan (first_path r)) c) (alike (second_path r) h.second)

  same-meets : meets instance plan ≡ true → meets instance other ≡ true
  same-meets h = all-pass (λ r. not (breaks instance other r)) instance.records
      (λ r m. ap not (same-breaks r m) ∙ All-contains (λ r. not (breaks instance plan r) ≡ true) instance.records r (AllPass-from_list_all (λ r. not (breaks instance plan r)) instance.records h) m)

  same-violations : (level : ℕ) → violations instance other level ≡ violations instance plan level
  same-violations level = sum_by-same-members (λ r. counted (violates instance other level r)) (λ r. counted (violates instance plan level r)) instance.records
      (All-from_members (λ r. counted (violates instance other level r) ≡ counted (violates instance plan level r)) instance.records (λ r m. ap counted (same-violates level r m)))

  same-cost : cost instance other ≡ cost instance plan
  same-cost = cost_agrees (violations instance other) (violations instance plan) (levels_of instance) (λ level small. same-violations level)

-- ---- the choices of a path

signed : (r : ℕ) → r < 2 → IsSign (get_or both_polarizations r (pos 0))
signed zero h = inl refl
signed (suc zero) h = inr refl
signed (suc (suc r)) h = absurd (omega arith)

module _ (path : Path) (home : IsPath path) where
  freq-number : (k : ℕ) → k < length path.freqs → IsNumber (get_or path.freqs k 0)
  freq-number k small = home.numbers k 0 small

  fixed-shown : IsFixed path.pol → (index : ℕ) → index < length (choices path) → IsShownChoice (choice path index)
  fixed-shown fixed index small =
      let below : index < length path.freqs = (let e = fixed_count path fixed in omega arith) in
      subst IsShownChoice (sym (fixed_choice path index fixed below)) (record { freq = freq-number index below; pol = fixed })

  free-shown : path.pol ≡ pos 0 → (index : ℕ) → index < length (choices path) → IsShownChoice (choice path index)
  free-shown free index small =
      let below : index < 2 * length path.freqs = (let e = free_count path free in omega arith) in
      subst IsShownChoice (sym (free_choice path index free below)) (record { freq = freq-number (index / 2) (omega arith); pol = signed (index % 2) (omega arith) })

  choice-shown : (index : ℕ) → index < length (choices path) → IsShownChoice (choice path index)
  choice-shown index small = by_pol home.polarization
    where
      by_pol : IsPolarization path.pol → IsShownChoice (choice path index)
      by_pol (inl minus) = fixed-shown (inl minus) index small
      by_pol (inr (inl free)) = free-shown free index small
      by_pol (inr (inr plus)) = fixed-shown (inr plus) index small

-- ---- a feasible plan

cost-level : (levels : ℕ) (count : ℕ → ℕ) → (cost_by levels count).k ≤ levels
unfolding cost_by
cost-level levels count = clear-le levels count

module _ (instance : Instance) (valid : IsInstance instance) (plan : List ℕ) (feasible : IsFeasible instance plan) where
  abbrev list : List Choice
  list = shown instance plan

  whole : length plan ≡ length instance.paths
  whole = feasible.assignment.whole

  length-list : length list ≡ length instance.paths
  length-list = length-map-range_with_len (chosen instance plan) 0 (length plan) ∙ whole

  at-list : (position : ℕ) → position < length instance.paths → shown_at list position ≡ chosen instance plan position
  at-list position small = get_or-map-range_with_len (chosen instance plan) 0 (length plan) position position no_choice (omega (arith, small, whole)) (zero-add position)

  offered-at : (position : ℕ) → position < length instance.paths → is_offered (path_at instance position) (shown_at list position) ≡ true
  offered-at position small =
      let c = chosen instance plan position in
      subst (λ (d : Choice). is_offered (path_at instance position) d ≡ true) (sym (at-list position small))
      (any-member (is_same_choice c) (choices (path_at instance position)) c
      (Contains-get_or (choices (path_at instance position)) (slice_index plan position) no_choice (feasible.assignment.in_range position small)) (same-choice c))

  all-are : all_offered instance list ≡ true
  all-are = all-pass (λ position. is_offered (path_at instance position) (shown_at list position)) (range_with_len 0 (length instance.paths)) (λ position m. offered-at position (from-range (length instance.paths) position m))

  alike : (position : ℕ) → position < length instance.paths → chosen instance (indices instance list) position ≡ chosen instance plan position
  alike position small = shown-chosen instance list all-are position small ∙ at-list position small

  pub no-shown-fault : shown_fault instance list (cost instance plan) ≡ None
  no-shown-fault =
      both-none (cause_unless (eqb (length list) (length instance.paths)) AssignmentLength) _ (none-unless _ AssignmentLength (eq-eqb (length list) (length instance.paths) length-list))
      (both-none (cause_unless (all_offered instance list) ChoiceNotInDomain) _ (none-unless _ ChoiceNotInDomain all-are)
      (both-none (cause_unless (meets instance (indices instance list)) ImperativeBroken) _ (none-unless _ ImperativeBroken (same-meets instance valid plan (indices instance list) alike feasible.met))
      (subst (λ (t : Triple). cost_fault (cost instance plan) t ≡ None) (sym (same-cost instance valid plan (indices instance list) alike))
      (none-unless (is_same_triple (cost instance plan) (cost instance plan)) (TripleDiffers (cost instance plan) (cost instance plan)) (same-triple (cost instance plan))))))

  pub best-clean : plan_fault instance list (Best (cost instance plan)) ≡ None
  unfolding plan_fault
  best-clean = no-shown-fault

  pub open-clean : (lower : Tag) (level : ℕ) (prefix : List Literal) → plan_fault instance list (Open (cost instance plan) lower level prefix) ≡ None
  unfolding plan_fault
  open-clean lower level prefix = by_top (is_same_triple (cost instance plan) (top_tag instance)) refl
    where
      by_top : (b : Bool) → is_same_triple (cost instance plan) (top_tag instance) ≡ b → shown_fault_by instance list (let o : Option Triple = cond b None (Some (cost instance plan)) in o) ≡ None
      by_top true e =
          let same = ap (λ (t : Triple). t.k) (same-triples (cost instance plan) (top_tag instance) e) in
          let low = cost-level (levels_of instance) (violations instance plan) in
          absurd (omega arith)
      by_top false e = no-shown-fault

  path-home : (position : ℕ) → position < length instance.paths → IsPath (path_at instance position)
  path-home position small = valid.paths position no_path small

  pub well-shown : IsWellShown instance plan
  well-shown = record {
    few = (let e = length-list in omega arith);
    choices = All-from_members IsShownChoice list (λ c m.
        let found = from-map (chosen instance plan) (range_with_len 0 (length plan)) c m in
        let small : found.0 < length instance.paths = (let l = from-range (length plan) found.0 found.1 in let w = whole in omega arith) in
        subst IsShownChoice found.2 (choice-shown (path_at instance found.0) (path-home found.0 small) (slice_index plan found.0) (feasible.assignment.in_range found.0 small)));
    best = best-clean;
    open_at = open-clean;
  }

-- ---- where no plan is shown

none-clean : (instance : Instance) → plan_fault instance [] NoneFeasible ≡ None
unfolding plan_fault
none-clean instance = refl

top-clean : (instance : Instance) (lower : Tag) (level : ℕ) (prefix : List Literal) → plan_fault instance [] (Open (top_tag instance) lower level prefix) ≡ None
unfolding plan_fault
top-clean instance lower level prefix = rw (same-triple (top_tag instance)) refl

pub no-plan : NoPlanHasNoFault
no-plan = record { none = none-clean; open_at = top-clean }
