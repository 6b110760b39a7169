-- What two choices count in each other's tallies is a matter of how far apart they are, and whether their polarizations are
-- equal.
use Rattle.std.proofs.Common.{◌≡◌, ◌≢◌, ◌⊎◌, ℕ, ◌+◌, ◌*◌, ◌<◌, ◌≤◌, Bool, true, false, cond, ltb, ◌&&◌, ◌||◌, ◌-◌, slice_index, get_or, ◌==◌, not, refl, sym, ap, ◌∙◌, inl, inr, arith, count_by, All}
use Rattle.std.specs.List.{range_with_len}
use Rattle.std.proofs.lemmas.Bool.{cases_Bool}
use Rattle.fapp_model.specs.declared.choice.Choice.{Choice}
use Rattle.fapp_model.specs.declared.instance.Instance.{Instance}
use Rattle.fapp_model.specs.declared.limits.TheConstants.{S_SPAN}
use Rattle.fapp_model.specs.declared.literal.Literal.{Literal}
use Rattle.fapp_model.specs.declared.record.Record.{Record}
use Rattle.fapp_model.specs.declared.record.Record.TheVariants.{Freq, Pol, Same, Other}
use Rattle.fapp_model.specs.Records.{distance, first_path, is_bad, is_broken, is_closer, same_polarization}
use Rattle.fapp_model.specs.search.Partials.{choice_of}
use Rattle.fapp_model.proofs.Sums.{sum_by-same-members}
use Rattle.fapp_tables.specs.Indexes.{between_choices, record_at, records_of, turned}
use Rattle.fapp_tables.specs.Measures.{both_between, coded_part, hard_part}
use Rattle.fapp_tables.proofs.PairLaws.{both_is, over_positions}
use Rattle.choice_counts.specs.declared.rows.TheConstants.{HARD}
use Rattle.choice_counts.specs.Counts.{pair_tally}
use Rattle.choice_counts.proofs.Clash.{clash_found, flag, pair_turned}
use Rattle.choice_counts.specs.Breaks.{IsSteady}
use Rattle.choice_counts.specs.Distances.{choices_tally, far, near, tally_apart, tally_by}
use Rattle.fapp_tables.proofs.Turned.{far_turned, same_turned, closer_turned}

-- ---- a record says the same of two choices in either order

bad_turned : (level : ℕ) (r : Record) (a b : Choice) → is_bad level r a b ≡ is_bad level r b a
bad_turned level (Freq i j equal n) a b = refl
bad_turned level (Pol i j equal) a b = refl
bad_turned level (Same i j dist) a b = rw (same_turned a b, closer_turned level dist a b) refl
bad_turned level (Other i j dist) a b = rw (same_turned a b, closer_turned level dist a b) refl

broken_turned : (r : Record) (a b : Choice) → is_broken r a b ≡ is_broken r b a
broken_turned (Freq i j true n) a b = rw (far_turned a.freq b.freq) refl
broken_turned (Freq i j false n) a b = rw (far_turned a.freq b.freq) refl
broken_turned (Pol i j true) a b = rw (same_turned a b) refl
broken_turned (Pol i j false) a b = rw (same_turned a b) refl
broken_turned (Same i j dist) a b = refl
broken_turned (Other i j dist) a b = refl

-- ---- two pairs of choices of which a record says the same

pub record SaysSame (r : Record) (a b x y : Choice) : Type 0 where
  pub broken : is_broken r a b ≡ is_broken r x y
  pub bad : (level : ℕ) → is_bad level r a b ≡ is_bad level r x y

says_turned : (r : Record) (a b : Choice) → SaysSame r b a a b
says_turned r a b = record { broken = broken_turned r b a; bad = λ level. bad_turned level r b a }

-- tests that say the same of each number are one
ext : {p q : ℕ → Bool} → ((m : ℕ) → p m ≡ q m) → p ≡ q
ext h = λ i m. h m i

hard_same : (level : ℕ) (r : Record) (a b x y : Choice) → SaysSame r a b x y → hard_part level r a b ≡ hard_part level r x y
hard_same level r a b x y same = ap (λ t. cond (t || is_bad level r a b) 1 0) same.broken ∙ ap (λ t. cond (is_broken r x y || t) 1 0) (same.bad level)

further_same : (level : ℕ) (r : Record) (a b x y : Choice) → SaysSame r a b x y → coded_part level r a b ≡ coded_part level r x y
further_same level r a b x y same =
    ap (λ t. cond t 1 0 * S_SPAN + count_by (λ m. is_bad m r a b) (range_with_len 0 (level - 1))) (same.bad (level - 1))
    ∙ ap (λ (p : ℕ → Bool). cond (is_bad (level - 1) r x y) 1 0 * S_SPAN + count_by p (range_with_len 0 (level - 1))) (ext same.bad)

module _ (measure : Record → Choice → Choice → ℕ) (keeps : (r : Record) (a b x y : Choice) → SaysSame r a b x y → measure r a b ≡ measure r x y) where
  turned_is : (path : ℕ) (r : Record) (a b : Choice) → turned measure path a b r ≡ measure r a b
  turned_is path r a b = by_end (cases_Bool (first_path r == path))
    where
      by_end : ((first_path r == path) ≡ true) ⊎ ((first_path r == path) ≡ false) → turned measure path a b r ≡ measure r a b
      by_end (inl same) = rw same refl
      by_end (inr apart) = rw apart (keeps r b a a b (says_turned r a b))

  between_same : (instance : Instance) (path other : ℕ) → path ≢ other → (a b x y : Choice) → All (λ k. SaysSame (record_at instance k) a b x y) (records_of instance path other) →
      between_choices instance measure path other a b ≡ between_choices instance measure path other x y
  between_same instance path other apart a b x y all =
      sym (over_positions measure path other apart a b instance)
      ∙ (sum_by-same-members (λ k. turned measure path a b (record_at instance k)) (λ k. turned measure path x y (record_at instance k)) (records_of instance path other)
      (λ k d below. let r = record_at instance (get_or (records_of instance path other) k d) in
      turned_is path r a b ∙ (keeps r a b x y (all k d below) ∙ sym (turned_is path r x y)))
      ∙ over_positions measure path other apart x y instance)

module _ (instance : Instance) (level path other : ℕ) (apart : path ≢ other) where
  -- choices of which each record between two paths says the same count the same
  pub tallies_same : (a b x y : Choice) → All (λ k. SaysSame (record_at instance k) a b x y) (records_of instance path other) →
      choices_tally instance level path other a b ≡ choices_tally instance level path other x y
  tallies_same a b x y all =
      ap (λ h. tally_by h (between_choices instance (coded_part level) path other a b)) (between_same (hard_part level) (hard_same level) instance path other apart a b x y all)
      ∙ ap (tally_by (between_choices instance (hard_part level) path other x y)) (between_same (coded_part level) (further_same level) instance path other apart a b x y all)

  -- up to the reach of each record the tallies stay
  pub tallies_steady : (start reach : ℕ) → All (λ k. IsSteady (record_at instance k) start reach) (records_of instance path other) →
      (same : Bool) (d : ℕ) → start ≤ d → d < reach → tally_apart instance level path other same d ≡ tally_apart instance level path other same start
  tallies_steady start reach all same d from below =
      tallies_same near (far same d) near (far same start) (λ k e inside.
      let steady = all k e inside in
      record { broken = steady.broken same d from below; bad = λ m. steady.bad m same d from below })

  -- two choices count what those as far apart do
  pub tallies_apart : (a b : Choice) (same : Bool) (d : ℕ) → same_polarization a b ≡ same → distance a b ≡ d → choices_tally instance level path other a b ≡ tally_apart instance level path other same d
  tallies_apart a b same d es ed = tallies_same a b near (far same d) (λ k e inside. says_apart (record_at instance (get_or (records_of instance path other) k e)))
    where
      near_far : (t : Bool) → same_polarization near (far t d) ≡ t
      near_far true = refl
      near_far false = refl

      far_far : distance near (far same d) ≡ d
      far_far = omega arith

      polarizations : same_polarization a b ≡ same_polarization near (far same d)
      polarizations = es ∙ sym (near_far same)

      distances : distance a b ≡ distance near (far same d)
      distances = ed ∙ sym far_far

      says_apart : (r : Record) → SaysSame r a b near (far same d)
      says_apart (Freq i j true n) = record { broken = ap (λ m. not (m == n)) distances; bad = λ m. refl }
      says_apart (Freq i j false n) = record { broken = ap (λ m. m == n) distances; bad = λ m. refl }
      says_apart (Pol i j true) = record { broken = ap not polarizations; bad = λ m. refl }
      says_apart (Pol i j false) = record { broken = polarizations; bad = λ m. refl }
      says_apart (Same i j dist) = record { broken = refl; bad = λ m. ap (λ t. t && is_closer m dist a b) polarizations ∙ ap (λ n. same_polarization near (far same d) && ltb n (slice_index dist m)) distances }
      says_apart (Other i j dist) = record { broken = refl; bad = λ m. ap (λ t. not t && is_closer m dist a b) polarizations ∙ ap (λ n. not (same_polarization near (far same d)) && ltb n (slice_index dist m)) distances }

-- the tally of two literals, by their choices
pub tally_is : (instance : Instance) (level : ℕ) (a b : Literal) → choices_tally instance level a.path b.path (choice_of instance a) (choice_of instance b) ≡ pair_tally instance level b a
tally_is instance level a b =
    ap (λ h. tally_by h (between_choices instance (coded_part level) a.path b.path (choice_of instance a) (choice_of instance b))) (sym (both_is instance (hard_part level) a b))
    ∙ (ap (tally_by (both_between instance (hard_part level) a b)) (sym (both_is instance (coded_part level) a b))
    ∙ (by_cases (ltb 0 (both_between instance (hard_part level) a b)) (both_between instance (coded_part level) a b)
    ∙ (ap (λ t. flag t * HARD + both_between instance (coded_part level) a b) (sym (clash_found instance level a b)) ∙ pair_turned instance level a b)))
  where
    by_cases : (t : Bool) (n : ℕ) → cond t (HARD + n) n ≡ flag t * HARD + n
    by_cases true n = omega arith
    by_cases false n = omega arith
