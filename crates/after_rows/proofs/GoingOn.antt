-- What workers that began with rows of old lines leave behind may be merged behind these lines.
use Rattle.std.proofs.Common.{◌≡◌, ◌≢◌, ◌⊎◌, inl, inr, ℕ, max, List, ◌++◌, length, All, Some, sym, subst}
use Rattle.std.proofs.lemmas.List.Elements.{All-append, All-weaker}
use Rattle.fapp_model.specs.declared.instance.Instance.{Instance}
use Rattle.fapp_model.specs.Instances.{IsInstance}
use Rattle.fapp_model.specs.Tags.{triple_from}
use Rattle.arc_levels.specs.Outside.{IsRootTag}
use Rattle.cert_lines.specs.declared.answer.Line.{Line}
use Rattle.cert_lines.specs.declared.answer.Verdict.{Verdict}
use Rattle.fapp_plan.specs.Outcomes.{Placed}
use Rattle.fapp_plan.specs.Plans.{Split}
use Rattle.fapp_plan.specs.VerdictRule.{IsVerdictOf}
use Rattle.search_log.specs.Contents.{KnownRow}
use Rattle.search_log.specs.LogStates.{LogState}
use Rattle.search_log.specs.NumberedRows.{numbered_rows}
use Rattle.nogood.specs.declared.row.Row.{Row}
use Rattle.search_log.specs.declared.piece.Piece.{Piece}
use Rattle.merge_laws.specs.Conditions.{AreOld, IsMergeableAfter}
use Rattle.merge_laws.specs.GoodLogs.{IsPlacedIn}
use Rattle.search_log.specs.GoodLogs.{IsHomeRow, pieces_of}
use Rattle.merge_laws.specs.OldRoots.{old_root}
use Rattle.fapp_workers.specs.SharingLaws.{AreGoodLogsOver}
use Rattle.fapp_workers.proofs.SharedRuns.{outcomes-are}
use Rattle.fapp_workers.specs.Gathered.{AreSettled, IsLeastWord}
use Rattle.fapp_workers.proofs.LeastWords.{word-shown}
use Rattle.after_rows.specs.Placing.{ArePaired, AreSaid}
use Rattle.after_rows.proofs.Saying.{placed-at, placed-in, placed-once}

pub mergeable-on : (split : Split) (fuel : ℕ) (old : List Line) (numbers : List ℕ) (first : List Row) (pairs : List (ℕ × ℕ)) (rows : List KnownRow) (logs : List LogState) (word root : ℕ) (outcomes : List Placed) (verdict : Verdict) →
    IsInstance split.instance → AreOld split.instance old → AreSaid old numbers first → ArePaired numbers pairs → AreGoodLogsOver split.instance (numbered_rows first) rows logs →
    AreSettled split fuel (numbered_rows first ++ rows) logs word outcomes → IsLeastWord split.instance logs word → IsRootTag split.instance (triple_from root) →
    IsVerdictOf split.instance split.split outcomes word (max root (old_root old)) verdict → IsMergeableAfter split.instance split.split old pairs logs outcomes word verdict
mergeable-on split fuel old numbers first pairs rows logs word root outcomes verdict valid are said paired good settled least root_is rule = record {
  old_are = are;
  rows = numbered_rows first ++ rows;
  logs_are = record {
    good = good.good;
    home = All-append (λ (row : KnownRow). IsHomeRow logs row ⊎ IsPlacedIn old pairs row) (numbered_rows first) rows
        (All-weaker (IsPlacedIn old pairs) (λ (row : KnownRow). IsHomeRow logs row ⊎ IsPlacedIn old pairs row) (λ row h. inr h) (numbered_rows first) (placed-in old numbers first pairs said paired))
        (All-weaker (IsHomeRow logs) (λ (row : KnownRow). IsHomeRow logs row ⊎ IsPlacedIn old pairs row) (λ row h. inl h) rows good.home);
    once = good.once;
    placed_once = placed-once old numbers first pairs said paired;
    apart = placed-at old numbers first pairs said paired (λ n. All (λ (q : Piece). n ≢ q.row) (pieces_of logs))
        (All-weaker (λ (row : KnownRow). All (λ (p : Piece). p.row ≢ row.number) (pieces_of logs)) (λ (row : KnownRow). All (λ (q : Piece). row.number ≢ q.row) (pieces_of logs))
        (λ row h k d less same. h k d less (sym same)) (numbered_rows first) good.apart);
    bare = good.bare;
  };
  outcomes_are = outcomes-are split fuel (numbered_rows first ++ rows) logs word outcomes settled;
  ruled = record { shown = word-shown split.instance logs word valid least; root = root; root_is = root_is; rule = rule };
}
