-- The Count lines of good logs.
use Rattle.std.proofs.Common.{◌≡◌, ◌⊎◌, inl, inr, ℕ, ◌<◌, ◌≤◌, List, ◌++◌, length, take, get_or, All, None, ap, arith}
use Rattle.std.specs.List.{slice_get}
use Rattle.std.proofs.lemmas.Bool.{cases_lt}
use Rattle.std.proofs.lemmas.Option.{slice_get-get_or}
use Rattle.fapp_model.specs.declared.instance.Instance.{Instance}
use Rattle.fapp_model.specs.Tags.{triple_from}
use Rattle.fapp_model.specs.search.Dead as Dead
use Rattle.fapp_model.specs.search.Dead.{Dead}
use Rattle.search_log.specs.declared.line.ChoiceRef.{ChoiceRef}
use Rattle.search_log.specs.declared.line.LogLine.{LogLine}
use Rattle.search_log.specs.Contents.{Cites, KnownRow}
use Rattle.search_log.specs.GoodLines.{AreGoodLines, IsGoodLine}
use Rattle.search_log.specs.LogStates.{LogState}
use Rattle.fapp_workers.specs.SharingLaws.{AreGoodLogsOver}
use Rattle.search_log.specs.GoodLogs.{IsBare}
use Rattle.search_log.proofs.BareLines.{left-out-dead, zip-none}
use Rattle.fapp_workers.specs.Collections.{IsDeadCount}

dead-count : (instance : Instance) (rows : List KnownRow) (earlier : List LogLine) (line : LogLine) → IsGoodLine instance rows earlier line → IsBare line → line.path ≡ None → (0 < line.tag.code) ⊎ (line.tag.code ≤ 0) →
    Dead instance (triple_from line.tag.code) line.lits
dead-count instance rows earlier line good bare e (inl some) =
    left-out-dead instance line.tag.code line.lits good.contents (zip-none (λ (ref : ChoiceRef) content. Cites rows earlier ref.line content) line.refs good.contents good.cites (bare e))
    (rw e at good.passes some)
dead-count instance rows earlier line good bare e (inr none) = let zero : line.tag.code ≡ 0 = omega (arith, none) in Dead.least (ap triple_from zero)

pub counts-dead : (instance : Instance) (placed rows : List KnownRow) (logs : List LogState) → AreGoodLogsOver instance placed rows logs → All (λ (log : LogState). All (IsDeadCount instance) log.lines) logs
counts-dead instance placed rows logs are = λ k d less n line inside e.
    let log = get_or logs k d in
    let other = get_or log.lines n line in
    dead-count instance (placed ++ rows) (take n log.lines) other ((are.good k d less).good_lines n other (slice_get-get_or log.lines n line inside)) (are.bare k d less n line inside) e (cases_lt 0 other.tag.code)
