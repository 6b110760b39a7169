-- When rows and totals are those of literals.
use Rattle.std.specs.Prelude.{◌≡◌, ℕ, ◌+◌, ◌*◌, Bool, List, Option}
use Rattle.dead_laws.specs.ArcLaws.{IsArcs}
use Rattle.fapp_model.specs.declared.instance.Instance.{Instance}
use Rattle.fapp_model.specs.declared.literal.Literal.{Literal}
use Rattle.fapp_model.specs.search.Weights.{inside}
use Rattle.fapp_tables.specs.Measures.{coded_part}
use Rattle.choice_counts.specs.declared.rows.PathTallies.{PathTallies}
use Rattle.choice_counts.specs.declared.totals.Totals.{Totals}
use Rattle.choice_counts.specs.Counts.{clash_pairs, outsiders, rows_of}
use Rattle.choice_counts.specs.ForwardStates.{AreSlots}
use Rattle.choice_counts.specs.Totals.{AreOpenPaths}

-- by a test of the arcs of the level
pub record AreCountsOf (instance : Instance) (level : ℕ) (arc : Literal →
    Bool) (literals : List Literal) (slots : List (Option ℕ)) (rows : List PathTallies)
    (totals : Totals) : Type 0 where
  pub held : AreSlots instance literals slots
  pub rows_are : rows ≡ rows_of instance level arc literals
  pub open_paths : AreOpenPaths slots rows totals.open_paths
  pub conflicts : totals.conflicts ≡ clash_pairs instance level literals + outsiders arc literals
      * 2
  pub twice_inside : totals.twice_inside ≡ inside instance (coded_part level) literals * 2

-- by the arcs of the level
pub record AreKept (instance : Instance) (level : ℕ) (literals : List Literal)
    (slots : List (Option ℕ)) (rows : List PathTallies) (totals : Totals) : Type 0 where
  pub arc : Literal → Bool
  pub arcs : IsArcs instance level arc
  pub counted : AreCountsOf instance level arc literals slots rows totals
