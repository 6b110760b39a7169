-- What a Forward's own counts say of a step, in the tallies of the step.
use Rattle.std.proofs.Common.{◌≡◌, ℕ, ◌*◌, ◌/◌, ◌%◌, ◌<◌, ◌≤◌, Bool, true, false, Option, List, ◌∷◌, [], ◌++◌, length, get_or, sym, ap, ◌∙◌, subst, arith, Contains}
use Rattle.std.specs.List.{remove}
use Rattle.std.specs.Option.{is_some}
use Rattle.std.proofs.lemmas.List.Elements.{All-push, Contains-get_or}
use Rattle.fapp_model.specs.declared.instance.Instance.{Instance}
use Rattle.fapp_model.specs.declared.literal.Literal.{Literal}
use Rattle.fapp_model.specs.declared.level.TheConstants.{MAX_LEVELS}
use Rattle.fapp_model.specs.Assignments.{count_at}
use Rattle.fapp_model.specs.search.Partials.{IsLiteral, literal, names}
use Rattle.nogood.specs.Literals.{other_paths}
use Rattle.nogood.specs.Partials.{choice_given}
use Rattle.choice_counts.specs.declared.rows.PathTallies.{PathTallies}
use Rattle.choice_counts.specs.declared.rows.TheConstants.{HARD}
use Rattle.choice_counts.specs.declared.totals.Totals.{Totals}
use Rattle.choice_counts.specs.ForwardStates.{ForwardState}
use Rattle.choice_counts.specs.Kept.{AreKept}
use Rattle.choice_counts.specs.Moves.{CanMoveAll, moved, rows_with}
use Rattle.choice_counts.specs.Totals.{AreRows, AreOpenPaths}
use Rattle.choice_counts.proofs.Bounds.{distinct_push}
use Rattle.choice_counts.proofs.DeadByBound.{level_few}
use Rattle.choice_counts.proofs.KeptLaws.{drop_can, drop_conflicts, drop_inside, drop_slot, kept_dropped, kept_pushed, own_tally, push_can, push_conflicts, push_inside, push_slot}
use Rattle.choice_counts.proofs.RowMoves.{rows_are}
use Rattle.choice_counts.proofs.Slots.{partial_drop, remove_is}
use Rattle.forward_count.specs.Forwards.{IsForward}
use Rattle.forward_count.specs.SlotSteps.{CanCount, slots_after}

-- what a step knows of its instance, level, literal and rows by equations
pub same_step : (P : Bool → Instance → ℕ → Literal → List PathTallies → Type 0) (t u : Bool) (i j : Instance) (k l : ℕ) (a b : Literal) (rs ss : List PathTallies) → t ≡ u → i ≡ j → k ≡ l → a ≡ b → rs ≡ ss → P u j l b ss → P t i k a rs
same_step P t u i j k l a b rs ss et ei el ea er p =
    subst (λ x. P x i k a rs) (sym et) (subst (λ x. P u x k a rs) (sym ei) (subst (λ x. P u j x a rs) (sym el) (subst (λ x. P u j l x rs) (sym ea) (subst (λ x. P u j l b x) (sym er) p))))

-- ---- what is asked of a literal, by what is kept

abbrev state_of : Instance → ℕ → List Literal → ForwardState
state_of i k ls = record { instance = i; level = k; pushed = ls }

pub home_of : (i : Instance) (k : ℕ) (ls : List Literal) (st : ForwardState) (path choice : ℕ) → state_of i k ls ≡ st → path < length st.instance.paths → choice < count_at st.instance path → IsLiteral i (literal path choice)
home_of i k ls st path choice e below few = subst (λ (j : Instance). IsLiteral j (literal path choice)) (sym (ap (λ (s : ForwardState). s.instance) e)) (record { path = below; choice = few })

pub unset_of : (i : Instance) (k : ℕ) (ls : List Literal) (st : ForwardState) (path : ℕ) → state_of i k ls ≡ st → names st.pushed path ≡ false → names ls path ≡ false
unset_of i k ls st path e free = ap (λ (s : ForwardState). names s.pushed path) e ∙ free

pub placed : (i : Instance) (k : ℕ) (ls : List Literal) (st : ForwardState) (place : ℕ) → state_of i k ls ≡ st → place < length st.pushed → place < length ls
placed i k ls st place e inside = subst (λ (s : ForwardState). place < length s.pushed) (sym e) inside

module _ (instance : Instance) (level : ℕ) (pushed : List Literal) (slots : List (Option ℕ)) (rows : List PathTallies) (totals : Totals) (room : ℕ) (f : IsForward instance level pushed slots rows totals room) where
  low : level ≤ MAX_LEVELS
  low = level_few instance level f.low

  pub forward_rows : AreRows instance rows
  forward_rows = subst (AreRows instance) (sym f.kept.counted.rows_are) (rows_are instance level f.kept.arc pushed)

  -- what is known after a step
  pub record IsCounted (taking : Bool) (a : Literal) (new_slots : List (Option ℕ)) (new_rows : List PathTallies) (new : Totals) : Type 0 where
    pub slots_are : new_slots ≡ slots_after taking a slots
    pub rows_are : new_rows ≡ rows_with taking instance level a rows
    pub open_paths : AreOpenPaths new_slots new_rows new.open_paths
    pub conflicts : new.conflicts ≡ moved taking totals.conflicts (own_tally rows a / HARD * 2)
    pub inside : new.twice_inside ≡ moved taking totals.twice_inside (own_tally rows a % HARD * 2)

  module _ (a : Literal) (home : IsLiteral instance a) where
    module _ (unset : names pushed a.path ≡ false) where
      pub pushes_slot : is_some (choice_given slots a.path) ≡ false
      pushes_slot = push_slot instance f.valid level low pushed f.partial slots rows totals f.kept a home unset

      pub pushes_can : CanMoveAll false instance level a rows
      pushes_can = push_can instance f.valid level low pushed f.partial slots rows totals f.kept a home unset

      pub pushes_fit : CanCount false totals (own_tally rows a)
      pushes_fit = record {
        conflicts = push_conflicts instance f.valid level low pushed f.partial slots rows totals f.kept a home unset;
        inside = push_inside instance f.valid level low pushed f.partial slots rows totals f.kept a home unset;
      }

      pub pushes : (new_slots : List (Option ℕ)) (new_rows : List PathTallies) (new : Totals) (new_room : ℕ) → room ≤ new_room → IsCounted false a new_slots new_rows new → IsForward instance level (pushed ++ a ∷ []) new_slots new_rows new new_room
      pushes new_slots new_rows new new_room wider step = record {
        valid = f.valid;
        low = f.low;
        partial = record {
          in_range = All-push (IsLiteral instance) pushed a f.partial.in_range home;
          distinct = distinct_push pushed a f.partial.distinct unset;
        };
        kept = subst (λ (ss : List (Option ℕ)). AreKept instance level (pushed ++ a ∷ []) ss new_rows new) (sym step.slots_are)
            (kept_pushed instance f.valid level low pushed f.partial slots rows totals f.kept a home unset new_rows new step.rows_are
            (subst (λ (ss : List (Option ℕ)). AreOpenPaths ss new_rows new.open_paths) step.slots_are step.open_paths) step.conflicts step.inside);
        roomy = omega (arith, f.roomy, wider);
      }

  module _ (place : ℕ) (d : Literal) (inside : place < length pushed) where
    abbrev pub gone : Literal
    gone = get_or pushed place d

    member : Contains pushed (get_or pushed place d)
    member = Contains-get_or pushed place d inside

    pub drops_home : IsLiteral instance (get_or pushed place d)
    drops_home = f.partial.in_range place d inside

    pub drops_slot : is_some (choice_given slots (get_or pushed place d).path) ≡ true
    drops_slot = drop_slot instance f.valid level low pushed f.partial slots rows totals f.kept (get_or pushed place d) drops_home member

    pub drops_can : CanMoveAll true instance level (get_or pushed place d) rows
    drops_can = drop_can instance f.valid level low pushed f.partial slots rows totals f.kept (get_or pushed place d) drops_home member

    pub drops_fit : CanCount true totals (own_tally rows (get_or pushed place d))
    drops_fit = record {
      conflicts = drop_conflicts instance f.valid level low pushed f.partial slots rows totals f.kept (get_or pushed place d) drops_home member;
      inside = drop_inside instance f.valid level low pushed f.partial slots rows totals f.kept (get_or pushed place d) drops_home member;
    }

    pub drops : (new_slots : List (Option ℕ)) (new_rows : List PathTallies) (new : Totals) (new_room : ℕ) → room ≤ new_room → IsCounted true (get_or pushed place d) new_slots new_rows new → IsForward instance level (remove pushed place) new_slots new_rows new new_room
    drops new_slots new_rows new new_room wider step =
        let a = get_or pushed place d in
        subst (λ (ls : List Literal). IsForward instance level ls new_slots new_rows new new_room) (sym (remove_is pushed place d f.partial.distinct inside))
        (record {
          valid = f.valid;
          low = f.low;
          partial = partial_drop instance pushed a.path f.partial;
          kept = subst (λ (ss : List (Option ℕ)). AreKept instance level (other_paths a.path pushed) ss new_rows new) (sym step.slots_are)
              (kept_dropped instance f.valid level low pushed f.partial slots rows totals f.kept a drops_home member new_rows new step.rows_are
              (subst (λ (ss : List (Option ℕ)). AreOpenPaths ss new_rows new.open_paths) step.slots_are step.open_paths) step.conflicts step.inside);
          roomy = omega (arith, f.roomy, wider);
        })
