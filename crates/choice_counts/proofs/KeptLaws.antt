-- What is counted for literals stays so where one is pushed or taken back.
use Rattle.std.proofs.Common.{◌≡◌, ◌≢◌, ◌⊎◌, ℕ, ◌+◌, ◌*◌, ◌/◌, ◌%◌, ◌-◌, ◌^◌, ◌<◌, ◌≤◌, Bool, true, false, Option, Some, None, List, [], ◌∷◌, ◌++◌, length, set, refl, sym, ap, ◌∙◌, subst, arith, sum_by, Contains}
use Rattle.std.specs.Option.{is_some}
use Rattle.dead_laws.specs.ArcLaws.{IsArcs}
use Rattle.dead_laws.proofs.DeadTests.{arcs-of}
use Rattle.dead_laws.proofs.Picks.{at-names}
use Rattle.fapp_model.specs.declared.instance.Instance.{Instance}
use Rattle.fapp_model.specs.declared.literal.Literal.{Literal}
use Rattle.fapp_model.specs.Instances.{IsInstance}
use Rattle.fapp_model.specs.search.Partials.{IsLiteral, IsPartial, literal, names}
use Rattle.fapp_model.specs.search.Weights.{added, inside}
use Rattle.fapp_tables.specs.Measures.{both_between, coded_part}
use Rattle.nogood.specs.Literals.{other_paths}
use Rattle.nogood.specs.Partials.{choice_given}
use Rattle.choice_counts.specs.declared.rows.PathTallies.{PathTallies}
use Rattle.choice_counts.specs.declared.rows.TheConstants.{HARD}
use Rattle.choice_counts.specs.declared.totals.Totals.{Totals}
use Rattle.choice_counts.specs.Counts.{clash_part, clash_pairs, hard_of, outsiders, rows_of, tally_of}
use Rattle.choice_counts.specs.ForwardStates.{AreSlots}
use Rattle.choice_counts.specs.Kept.{AreKept}
use Rattle.choice_counts.specs.Moves.{CanMoveAll, rows_with}
use Rattle.choice_counts.specs.Totals.{AreRows, AreOpenPaths}
use Rattle.choice_counts.specs.Tallies.{least_part, tallies_at, stuck_part, tally_at}
use Rattle.choice_counts.proofs.Bounds.{conflicts_few, distinct_push, inside_small}
use Rattle.choice_counts.proofs.Clash.{clash_self, flag, itself_none}
use Rattle.choice_counts.proofs.OneMore.{IsOneMore, added_more, clashes_more, hard_more, inside_more, one_pushed, outside_more}
use Rattle.choice_counts.proofs.Remaining.{tally-high, tally-low}
use Rattle.choice_counts.proofs.RowMoves.{can_add, can_take_back, rows_are, rows_back, rows_taken, tally_is}
use Rattle.choice_counts.proofs.Slots.{blanks, named, one_dropped, open_none, partial_drop, slots_drop, slots_none, slots_push}
use Rattle.fapp_model.specs.declared.level.TheConstants.{MAX_LEVELS}

-- the tally of a literal's choice in its own row
abbrev pub own_tally : List PathTallies → Literal → ℕ
own_tally rows a = tally_at (tallies_at rows a.path).tallies a.choice

module _ (instance : Instance) (valid : IsInstance instance) (level : ℕ) (within : level ≤ MAX_LEVELS) (literals : List Literal) (partial : IsPartial instance literals) (slots : List (Option ℕ)) (rows : List PathTallies) (totals : Totals)
    (kept : AreKept instance level literals slots rows totals) (a : Literal) (home : IsLiteral instance a) where
  pub kept_rows : AreRows instance rows
  kept_rows = subst (AreRows instance) (sym kept.counted.rows_are) (rows_are instance level kept.arc literals)

  own_is : own_tally rows a ≡ tally_of instance level kept.arc literals a
  own_is = ap (λ (rs : List PathTallies). own_tally rs a) kept.counted.rows_are ∙ tally_is instance level kept.arc literals a.path a.choice home.path home.choice

  own_high : own_tally rows a / HARD ≡ hard_of instance level kept.arc literals a
  own_high = ap (λ w. w / HARD) own_is ∙ tally-high instance level kept.arc kept.arcs valid within literals partial a

  own_low : own_tally rows a % HARD ≡ added instance (coded_part level) literals a
  own_low = ap (λ w. w % HARD) own_is ∙ tally-low instance level kept.arc kept.arcs valid within literals partial a

  -- ---- a literal is pushed

  module _ (unset : names literals a.path ≡ false) where
    pub push_slot : is_some (choice_given slots a.path) ≡ false
    push_slot = named instance literals slots kept.counted.held a.path ∙ unset

    pub push_can : CanMoveAll false instance level a rows
    push_can = subst (CanMoveAll false instance level a) (sym kept.counted.rows_are) (can_add instance level kept.arc valid within literals partial a)

    pub push_conflicts : totals.conflicts < 2 ^ 62
    push_conflicts = omega (arith, kept.counted.conflicts, conflicts_few instance valid level within kept.arc literals partial)

    pub push_inside : totals.twice_inside < 2 ^ 62
    push_inside = omega (arith, kept.counted.twice_inside, inside_small instance valid level within literals partial.distinct)

    pub kept_pushed : (new_rows : List PathTallies) (new : Totals) → new_rows ≡ rows_with false instance level a rows → AreOpenPaths (set slots a.path (Some a.choice)) new_rows new.open_paths →
        new.conflicts ≡ totals.conflicts + own_tally rows a / HARD * 2 → new.twice_inside ≡ totals.twice_inside + own_tally rows a % HARD * 2 →
        AreKept instance level (literals ++ a ∷ []) (set slots a.path (Some a.choice)) new_rows new
    kept_pushed new_rows new made opened conflicts twice =
        let more = literals ++ a ∷ [] in
        let one = one_pushed literals a in
        let whole : a.path < length slots = omega (arith, home.path, kept.counted.held.whole) in
        record {
          arc = kept.arc;
          arcs = kept.arcs;
          counted = record {
            held = slots_push instance literals slots a.path a.choice kept.counted.held whole unset;
            rows_are = made ∙ (ap (rows_with false instance level a) kept.counted.rows_are ∙ rows_taken instance level kept.arc literals more a one);
            open_paths = opened;
            conflicts = omega (arith, conflicts, own_high, kept.counted.conflicts, clashes_more instance literals more a one valid level, outside_more instance literals more a one kept.arc);
            twice_inside = omega (arith, twice, own_low, kept.counted.twice_inside, inside_more instance literals more a one valid (coded_part level));
          };
        }

  -- ---- a literal is taken back

  module _ (member : Contains literals a) where
    abbrev pub less : List Literal
    less = other_paths a.path literals

    one : IsOneMore (other_paths a.path literals) literals a
    one = one_dropped literals a partial.distinct member

    pub drop_slot : is_some (choice_given slots a.path) ≡ true
    drop_slot = named instance literals slots kept.counted.held a.path ∙ at-names literals a member

    pub drop_can : CanMoveAll true instance level a rows
    drop_can = subst (CanMoveAll true instance level a) (sym kept.counted.rows_are) (can_take_back instance level kept.arc (other_paths a.path literals) literals a one)

    -- a literal doesn't count against itself
    high_less : own_tally rows a / HARD ≡ hard_of instance level kept.arc (other_paths a.path literals) a
    high_less = omega (arith, own_high, hard_more instance (other_paths a.path literals) literals a one level kept.arc a, ap flag (clash_self instance level valid a a refl))

    low_less : own_tally rows a % HARD ≡ added instance (coded_part level) (other_paths a.path literals) a
    low_less =
        let itself = itself_none instance level valid (coded_part level) a a refl in
        omega (arith, own_low, added_more instance (other_paths a.path literals) literals a one (coded_part level) a, itself)

    conflicts_less : totals.conflicts ≡ clash_pairs instance level (other_paths a.path literals) + outsiders kept.arc (other_paths a.path literals) * 2 + own_tally rows a / HARD * 2
    conflicts_less = omega (arith, kept.counted.conflicts, high_less, clashes_more instance (other_paths a.path literals) literals a one valid level, outside_more instance (other_paths a.path literals) literals a one kept.arc)

    inside_less : totals.twice_inside ≡ inside instance (coded_part level) (other_paths a.path literals) * 2 + own_tally rows a % HARD * 2
    inside_less = omega (arith, kept.counted.twice_inside, low_less, inside_more instance (other_paths a.path literals) literals a one valid (coded_part level))

    pub drop_conflicts : own_tally rows a / HARD * 2 ≤ totals.conflicts
    drop_conflicts = omega (arith, conflicts_less)

    pub drop_inside : own_tally rows a % HARD * 2 ≤ totals.twice_inside
    drop_inside = omega (arith, inside_less)

    pub kept_dropped : (new_rows : List PathTallies) (new : Totals) → new_rows ≡ rows_with true instance level a rows → AreOpenPaths (set slots a.path None) new_rows new.open_paths →
        new.conflicts ≡ totals.conflicts - own_tally rows a / HARD * 2 → new.twice_inside ≡ totals.twice_inside - own_tally rows a % HARD * 2 →
        AreKept instance level (other_paths a.path literals) (set slots a.path None) new_rows new
    kept_dropped new_rows new made opened conflicts twice =
        let whole : a.path < length slots = omega (arith, home.path, kept.counted.held.whole) in
        record {
          arc = kept.arc;
          arcs = kept.arcs;
          counted = record {
            held = slots_drop instance literals slots a.path kept.counted.held whole;
            rows_are = made ∙ (ap (rows_with true instance level a) kept.counted.rows_are ∙ rows_back instance level kept.arc (other_paths a.path literals) literals a one);
            open_paths = opened;
            conflicts = omega (arith, conflicts, conflicts_less);
            twice_inside = omega (arith, twice, inside_less);
          };
        }

-- ---- nothing is counted yet

pub kept_none : (instance : Instance) → IsInstance instance → (level : ℕ) (rows : List PathTallies) (totals : Totals) → length rows ≡ length instance.paths →
    ((arc : Literal → Bool) → IsArcs instance level arc → rows ≡ rows_of instance level arc []) →
    totals.open_paths.stuck ≡ sum_by (λ (r : PathTallies). stuck_part r.least) rows → totals.open_paths.least ≡ sum_by (λ (r : PathTallies). least_part r.least) rows →
    totals.conflicts ≡ 0 → totals.twice_inside ≡ 0 → AreKept instance level [] (blanks (length instance.paths)) rows totals
kept_none instance valid level rows totals count made stuck least conflicts twice =
    let arcs = arcs-of instance level valid in
    record {
      arc = arcs.0;
      arcs = arcs.1;
      counted = record {
        held = slots_none instance (length instance.paths) refl;
        rows_are = made arcs.0 arcs.1;
        open_paths = record {
          stuck = stuck ∙ sym (open_none stuck_part rows (length instance.paths) count);
          least = least ∙ sym (open_none least_part rows (length instance.paths) count);
        };
        conflicts = conflicts;
        twice_inside = twice;
      };
    }
