-- What a Forward's tallies say of its literals.
use Rattle.std.proofs.Common.{◌≡◌, ◌↔◌, ℕ, ◌%◌, ◌<◌, ◌≤◌, ltb, Option, Some, None, List, length, sym, ap, ◌∙◌, subst, arith, IsTrue}
use Rattle.std.proofs.lemmas.Bool.{lt-ltb, ltb-true}
use Rattle.fapp_model.specs.declared.instance.Instance.{Instance}
use Rattle.fapp_model.specs.declared.literal.Literal.{Literal}
use Rattle.fapp_model.specs.Assignments.{count_at}
use Rattle.fapp_model.specs.search.Partials.{literal}
use Rattle.fapp_model.specs.search.Weights.{added_pair}
use Rattle.fapp_tables.specs.Measures.{pair_code}
use Rattle.choice_counts.specs.declared.rows.PathTallies.{PathTallies}
use Rattle.choice_counts.specs.declared.rows.TheConstants.{HARD}
use Rattle.choice_counts.specs.declared.totals.Totals.{Totals}
use Rattle.choice_counts.specs.Counts.{tally_of, tallies_of}
use Rattle.choice_counts.specs.CountedSums.{IsLeastSum, RemainsAt}
use Rattle.choice_counts.specs.ForwardStates.{ForwardState}
use Rattle.choice_counts.specs.Tallies.{least_of_tallies, tallies_at, tally_at}
use Rattle.choice_counts.proofs.Coded.{added_code}
use Rattle.choice_counts.proofs.DeadByBound.{level_few}
use Rattle.choice_counts.proofs.Remaining.{least-found, none-left, remains-tally, tally-low, tally-remains}
use Rattle.choice_counts.proofs.RowMoves.{row_is, tally_is}
use Rattle.forward_count.specs.Forwards.{IsForward}
use Rattle.forward_count.specs.Starts.{AreShaped}
use Rattle.forward_count.proofs.StepLaws.{forward_rows}
use Rattle.fapp_model.specs.declared.level.TheConstants.{MAX_LEVELS}

module _ (instance : Instance) (level : ℕ) (pushed : List Literal) (slots : List (Option ℕ)) (rows : List PathTallies) (totals : Totals) (room : ℕ) (f : IsForward instance level pushed slots rows totals room) where
  within : level ≤ MAX_LEVELS
  within = level_few instance level f.low

  abbrev state : ForwardState
  state = record { instance = instance; level = level; pushed = pushed }

  pub shaped : AreShaped instance rows (length instance.paths)
  shaped = let are = forward_rows instance level pushed slots rows totals room f in record { count = are.count; tallies = are.tallies }

  tally_read : (path choice : ℕ) → path < length instance.paths → choice < count_at instance path → tally_at (tallies_at rows path).tallies choice ≡ tally_of instance level f.kept.arc pushed (literal path choice)
  tally_read path choice below small = ap (λ (rs : List PathTallies). tally_at (tallies_at rs path).tallies choice) f.kept.counted.rows_are ∙ tally_is instance level f.kept.arc pushed path choice below small

  least_read : (path : ℕ) → path < length instance.paths → (tallies_at rows path).least ≡ least_of_tallies (tallies_of instance level f.kept.arc pushed path)
  least_read path below = ap (λ (rs : List PathTallies). (tallies_at rs path).least) f.kept.counted.rows_are ∙ ap (λ (r : PathTallies). r.least) (row_is instance level f.kept.arc pushed path below)

  -- ---- by the state that callers see

  module _ (st : ForwardState) (e : record { instance = instance; level = level; pushed = pushed } ≡ st) where
    pub row_there : (path : ℕ) → path < length st.instance.paths → path < length rows
    row_there path below =
        let here : path < length instance.paths = subst (λ (s : ForwardState). path < length s.instance.paths) (sym e) below in
        omega (arith, here, shaped.count)

    pub tally_there : (path choice : ℕ) → path < length st.instance.paths → choice < count_at st.instance path → choice < length (tallies_at rows path).tallies
    tally_there path choice below small =
        let here : path < length instance.paths = subst (λ (s : ForwardState). path < length s.instance.paths) (sym e) below in
        let few : choice < count_at instance path = subst (λ (s : ForwardState). choice < count_at s.instance path) (sym e) small in
        omega (arith, few, shaped.tallies path here)

    pub remains_read : (path choice : ℕ) → path < length st.instance.paths → choice < count_at st.instance path → (w : ℕ) → w ≡ tally_at (tallies_at rows path).tallies choice →
        IsTrue (ltb w HARD) ↔ RemainsAt st.instance st.level st.pushed (literal path choice)
    remains_read path choice below small w is =
        let here : path < length instance.paths = subst (λ (s : ForwardState). path < length s.instance.paths) (sym e) below in
        let few : choice < count_at instance path = subst (λ (s : ForwardState). choice < count_at s.instance path) (sym e) small in
        let tally : w ≡ tally_of instance level f.kept.arc pushed (literal path choice) = is ∙ tally_read path choice here few in (
          λ low. subst (λ (s : ForwardState). RemainsAt s.instance s.level s.pushed (literal path choice)) e
              (tally-remains instance level f.kept.arc f.kept.arcs f.valid within pushed f.partial (literal path choice) (omega (arith, tally, ltb-true w HARD low))),
          λ r. lt-ltb w HARD (omega (
            arith,
            tally,
            remains-tally instance level f.kept.arc f.kept.arcs f.valid within pushed f.partial (literal path choice)
                (subst (λ (s : ForwardState). RemainsAt s.instance s.level s.pushed (literal path choice)) (sym e) r),
          )),
        )

    pub sum_read : (path choice : ℕ) → path < length st.instance.paths → choice < count_at st.instance path → (w : ℕ) → w ≡ tally_at (tallies_at rows path).tallies choice →
        w % HARD ≡ pair_code (added_pair st.instance st.level st.pushed (literal path choice))
    sum_read path choice below small w is =
        let here : path < length instance.paths = subst (λ (s : ForwardState). path < length s.instance.paths) (sym e) below in
        let few : choice < count_at instance path = subst (λ (s : ForwardState). choice < count_at s.instance path) (sym e) small in
        ap (λ x. x % HARD) (is ∙ tally_read path choice here few) ∙ (tally-low instance level f.kept.arc f.kept.arcs f.valid within pushed f.partial (literal path choice)
        ∙ (added_code instance level pushed (literal path choice) ∙ ap (λ (s : ForwardState). pair_code (added_pair s.instance s.level s.pushed (literal path choice))) e))

    pub least_some : (path : ℕ) → path < length st.instance.paths → (n : ℕ) → n ≡ (tallies_at rows path).least → n < HARD → IsLeastSum st.instance st.level st.pushed path (Some n)
    least_some path below n is low =
        let here : path < length instance.paths = subst (λ (s : ForwardState). path < length s.instance.paths) (sym e) below in
        let least : n ≡ least_of_tallies (tallies_of instance level f.kept.arc pushed path) = is ∙ least_read path here in
        let found = least-found instance level f.kept.arc f.kept.arcs f.valid within pushed f.partial path (omega (arith, least, low)) in
        subst (λ (s : ForwardState). IsLeastSum s.instance s.level s.pushed path (Some n)) e (found.0, found.1, least ∙ found.2)

    pub least_none : (path : ℕ) → path < length st.instance.paths → (n : ℕ) → n ≡ (tallies_at rows path).least → HARD ≤ n → IsLeastSum st.instance st.level st.pushed path None
    least_none path below n is high =
        let here : path < length instance.paths = subst (λ (s : ForwardState). path < length s.instance.paths) (sym e) below in
        let least : n ≡ least_of_tallies (tallies_of instance level f.kept.arc pushed path) = is ∙ least_read path here in
        subst (λ (s : ForwardState). IsLeastSum s.instance s.level s.pushed path None) e
        (none-left instance level f.kept.arc f.kept.arcs f.valid within pushed f.partial path (omega (arith, least, high)))
