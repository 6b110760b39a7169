-- The choices near a frequency, and the tallies of the others, which stay.
use Rattle.std.proofs.Common.{◌≡◌, ◌≢◌, ℕ, ◌+◌, ◌/◌, ◌<◌, ◌≤◌, Bool, true, false, List, length, get_or, sym, ap, ◌∙◌, inl, inr, arith}
use Rattle.std.specs.List.Sorted.{IsNonDecreasingBy, IsStrictlyIncreasing}
use Rattle.std.proofs.lemmas.Bool.{cases_eq, cases_lt}
use Rattle.std.proofs.lemmas.List.Kept.{AllPairs-from_increasing}
use Rattle.fapp_model.specs.declared.choice.Choice.{Choice}
use Rattle.fapp_model.specs.declared.instance.Instance.{Instance}
use Rattle.fapp_model.specs.declared.instance.Path.{Path}
use Rattle.fapp_model.specs.declared.literal.Literal.{Literal}
use Rattle.fapp_model.specs.Assignments.{count_at}
use Rattle.fapp_model.specs.Choices.{choice, choices}
use Rattle.fapp_model.specs.Instances.{IsInstance, IsPath, IsPolarization}
use Rattle.fapp_model.specs.Records.{distance}
use Rattle.fapp_model.specs.search.Partials.{IsLiteral, choice_of, literal}
use Rattle.fapp_model.proofs.ChoiceLemmas.{fixed_choice, fixed_count, free_choice, free_count}
use Rattle.arc_levels.proofs.LeftLaws.{own_number}
use Rattle.choice_counts.specs.declared.fill.PairCells.{PairCells}
use Rattle.choice_counts.specs.Links.{IsPairCells}
use Rattle.choice_counts.proofs.LinkLaws.{far_tally}
use Rattle.choice_counts.specs.Counts.{pair_tally}
use Rattle.choice_counts.specs.Moves.{moved}
use Rattle.choice_counts.specs.Tallies.{tally_at}
use Rattle.forward_count.proofs.RowLaws.{IsMapped}

pub rising_by : (freqs : List ℕ) → IsStrictlyIncreasing freqs → IsNonDecreasingBy (λ n. n) freqs
rising_by freqs ascending i j d upto within = elim (cases_eq i j) [
  | inl same ↦ omega (arith, ap (λ x. get_or freqs x d) same)
  | inr apart ↦ omega (arith, AllPairs-from_increasing freqs ascending i j d (omega (arith, upto, apart)) within)
]

-- the choices of a path, by ascending frequencies
pub choices_rise : (path : Path) → IsPath path → (i j : ℕ) → i ≤ j → j < length (choices path) → (choice path i).freq ≤ (choice path j).freq
choices_rise path valid i j upto inside = by_polarization valid.polarization
  where
    fixed : IsPolarization path.pol → length (choices path) ≡ length path.freqs → (choice path i).freq ≡ get_or path.freqs i 0 → (choice path j).freq ≡ get_or path.freqs j 0 → (choice path i).freq ≤ (choice path j).freq
    fixed polarization count at_i at_j = omega (arith, at_i, at_j, rising_by path.freqs valid.ascending i j 0 upto (omega (arith, count, inside)))

    by_polarization : IsPolarization path.pol → (choice path i).freq ≤ (choice path j).freq
    by_polarization (inl e) =
        let count = fixed_count path (inl e) in
        fixed (inl e) count (ap (λ (c : Choice). c.freq) (fixed_choice path i (inl e) (omega (arith, count, upto, inside)))) (ap (λ (c : Choice). c.freq) (fixed_choice path j (inl e) (omega (arith, count, inside))))
    by_polarization (inr (inr e)) =
        let count = fixed_count path (inr e) in
        fixed (inr (inr e)) count (ap (λ (c : Choice). c.freq) (fixed_choice path i (inr e) (omega (arith, count, upto, inside)))) (ap (λ (c : Choice). c.freq) (fixed_choice path j (inr e) (omega (arith, count, inside))))
    by_polarization (inr (inl e)) =
        let count = free_count path e in
        let at_i = ap (λ (c : Choice). c.freq) (free_choice path i e (omega (arith, count, upto, inside))) in
        let at_j = ap (λ (c : Choice). c.freq) (free_choice path j e (omega (arith, count, inside))) in
        omega (arith, at_i, at_j, rising_by path.freqs valid.ascending (i / 2) (j / 2) 0 (omega (arith, upto)) (omega (arith, count, inside)))

moved_none : (taking : Bool) (tally : ℕ) → moved taking tally 0 ≡ tally
moved_none true tally = omega arith
moved_none false tally = omega arith

-- tallies that nothing is counted in stay, so that they are made as they are
pub mapped_skip : (f : ℕ → ℕ → ℕ) (old tallies : List ℕ) (index past : ℕ) → IsMapped f old tallies index → index ≤ past → ((k : ℕ) → index ≤ k → k < past → f k (tally_at old k) ≡ tally_at old k) → IsMapped f old tallies past
mapped_skip f old tallies index past m upto stays = record {
  count = m.count;
  done = λ k below. elim (cases_lt k index) [
    | inl before ↦ m.done k before
    | inr from ↦ m.waiting k (omega (arith, from)) ∙ sym (stays k (omega (arith, from)) below)
  ];
  waiting = λ k above. m.waiting k (omega (arith, above, upto));
}

module _ (instance : Instance) (valid : IsInstance instance) (level : ℕ) (a : Literal) (home : IsLiteral instance a) (other : ℕ) (apart : a.path ≢ other) (below : other < length instance.paths)
    (link : PairCells) (is : IsPairCells instance level a.path other link) where
  -- a far choice of the other path counts nothing
  far_none : (k : ℕ) → k < count_at instance other → link.far ≤ distance (choice_of instance a) (choice_of instance (literal other k)) → pair_tally instance level (literal other k) a ≡ 0
  far_none k inside from =
      let one = own_number instance valid a.path a.choice home.path home.choice in
      let two = own_number instance valid other k below inside in
      far_tally instance level a (literal other k) apart link is from (omega (arith, one, two))

  -- what stands before the window
  pub before_stays : (taking : Bool) (tally : ℕ) (k : ℕ) → k < count_at instance other → (choice_of instance (literal other k)).freq + link.far ≤ (choice_of instance a).freq →
      moved taking tally (pair_tally instance level (literal other k) a) ≡ tally
  before_stays taking tally k inside from = ap (moved taking tally) (far_none k inside (omega (arith, from))) ∙ moved_none taking tally

  -- and past its end
  pub past_stays : (taking : Bool) (tally : ℕ) (k : ℕ) → k < count_at instance other → (choice_of instance a).freq + link.far ≤ (choice_of instance (literal other k)).freq →
      moved taking tally (pair_tally instance level (literal other k) a) ≡ tally
  past_stays taking tally k inside from = ap (moved taking tally) (far_none k inside (omega (arith, from))) ∙ moved_none taking tally
