-- What a link tells of the tallies of two literals.
use Rattle.std.proofs.Common.{◌≡◌, ◌≢◌, ℕ, ◌+◌, ◌^◌, ◌<◌, ◌≤◌, [], ◌∷◌, length, refl, sym, ap, subst, inl, inr, ◌∙◌, arith}
use Rattle.fapp_model.specs.declared.choice.Choice.{Choice}
use Rattle.fapp_model.specs.declared.instance.Instance.{Instance}
use Rattle.fapp_model.specs.declared.level.TheConstants.{MAX_LEVELS}
use Rattle.fapp_model.specs.declared.literal.Literal.{Literal}
use Rattle.fapp_model.specs.Instances.{IsInstance}
use Rattle.fapp_model.specs.Records.{distance, same_polarization}
use Rattle.fapp_model.specs.search.Clashes.{clashes}
use Rattle.fapp_model.specs.search.Partials.{choice_of}
use Rattle.fapp_tables.specs.Measures.{both_between, coded_part}
use Rattle.dead_laws.proofs.Picks.{AreDistinct}
use Rattle.choice_counts.specs.declared.rows.TheConstants.{HARD}
use Rattle.choice_counts.specs.Counts.{pair_tally}
use Rattle.choice_counts.proofs.Bounds.{sum_small}
use Rattle.choice_counts.proofs.Clash.{flag_most}
use Rattle.choice_counts.specs.declared.breaks.TheConstants.{NO_REACH}
use Rattle.choice_counts.specs.declared.fill.PairCells.{PairCells}
use Rattle.choice_counts.specs.Cells.{cell_at, start_of, tally_in}
use Rattle.choice_counts.specs.Links.{IsFound, IsPairCells}
use Rattle.choice_counts.specs.Distances.{choices_tally}
use Rattle.choice_counts.proofs.TallyLaws.{tally_is, tallies_apart}

module _ (instance : Instance) (level : ℕ) (a b : Literal) (apart : a.path ≢ b.path) (link : PairCells) (is : IsPairCells instance level a.path b.path link) where
  -- the cell of the distance has the tally
  pub cell_tally : (place : ℕ) → place < length link.cells → start_of link.cells place ≤ distance (choice_of instance a) (choice_of instance b) →
      distance (choice_of instance a) (choice_of instance b) < (cell_at link.cells place).reach →
      tally_in (cell_at link.cells place) (same_polarization (choice_of instance a) (choice_of instance b)) ≡ pair_tally instance level b a
  cell_tally place inside from below =
      let same = same_polarization (choice_of instance a) (choice_of instance b) in
      let d = distance (choice_of instance a) (choice_of instance b) in
      is.cells place inside same d from below
      ∙ (sym (tallies_apart instance level a.path b.path apart (choice_of instance a) (choice_of instance b) same d refl refl) ∙ tally_is instance level a b)

  -- from the far distance on the tally is 0
  pub far_tally : link.far ≤ distance (choice_of instance a) (choice_of instance b) → distance (choice_of instance a) (choice_of instance b) < NO_REACH → pair_tally instance level b a ≡ 0
  far_tally from below =
      let same = same_polarization (choice_of instance a) (choice_of instance b) in
      let d = distance (choice_of instance a) (choice_of instance b) in
      sym (tally_is instance level a b) ∙ (tallies_apart instance level a.path b.path apart (choice_of instance a) (choice_of instance b) same d refl refl ∙ is.far same d from below)

one_distinct : (b : Literal) → AreDistinct (b ∷ [])
one_distinct b = λ i j d less inside. absurd (omega (arith, less, inside))

-- a tally of two literals is small
pub pair_small : (instance : Instance) → IsInstance instance → (level : ℕ) → level ≤ MAX_LEVELS → (a b : Literal) → pair_tally instance level a b ≤ 2 ^ 49
pair_small instance valid level low a b =
    let sum = sum_small instance valid level low (b ∷ []) (one_distinct b) a in
    let one : 0 + both_between instance (coded_part level) a b < HARD = sum in
    omega (arith, one, flag_most (clashes instance level a b))

-- the tally that was found for choices that are told by equations
pub tally_found : (instance : Instance) (level : ℕ) (a b : Literal) → a.path ≢ b.path → (link : PairCells) → IsPairCells instance level a.path b.path link →
    (x y : Choice) (n : ℕ) → x ≡ choice_of instance a → y ≡ choice_of instance b → IsFound link (distance x y) (same_polarization x y) n → n ≡ pair_tally instance level b a
tally_found instance level a b apart link is x y n ex ey found =
    by_case (subst (λ p. IsFound link (distance p (choice_of instance b)) (same_polarization p (choice_of instance b)) n) ex
    (subst (λ q. IsFound link (distance x q) (same_polarization x q) n) ey found))
  where
    by_case : IsFound link (distance (choice_of instance a) (choice_of instance b)) (same_polarization (choice_of instance a) (choice_of instance b)) n → n ≡ pair_tally instance level b a
    by_case (inl none) = none.1.1 ∙ sym (far_tally instance level a b apart link is none.0 none.1.0)
    by_case (inr some) = some.4 ∙ cell_tally instance level a b apart link is some.0 some.1 some.2 some.3

pub tally_by_choices : (instance i : Instance) (level : ℕ) (a b : Literal) (x y : Choice) (n : ℕ) → i ≡ instance → x ≡ choice_of instance a → y ≡ choice_of instance b →
    n ≡ choices_tally i level a.path b.path x y → n ≡ pair_tally instance level b a
tally_by_choices instance i level a b x y n ei ex ey e =
    e ∙ (ap (λ (j : Instance). choices_tally j level a.path b.path x y) ei
    ∙ (ap (λ (c : Choice). choices_tally instance level a.path b.path c y) ex
    ∙ (ap (λ (c : Choice). choices_tally instance level a.path b.path (choice_of instance a) c) ey ∙ tally_is instance level a b)))
