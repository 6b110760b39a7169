-- The arc lines, the segments and the rests of logs, as a whole: all is good, and whatever is cited has its fate.
use Rattle.std.proofs.Common.{◌≡◌, ◌≢◌, ℕ, ◌<◌, ◌≤◌, List, [], ◌∷◌, ◌++◌, length, drop, take, sym, subst, ⊎_elim, arith, Some, All, AllPairs, Contains, eqb}
use Rattle.std.specs.List.{range_with_len, slice_get}
use Rattle.std.proofs.lemmas.Bool.{cases_Bool, eqb-true, eqb-false}
use Rattle.std.proofs.lemmas.List.{length-drop}
use Rattle.std.proofs.lemmas.List.Elements.{All-head, All-tail}
use Rattle.std.proofs.lemmas.Option.{slice_get_within}
use Rattle.fapp_model.specs.declared.instance.Instance.{Instance}
use Rattle.fapp_model.specs.Instances.{IsInstance}
use Rattle.fapp_model.proofs.Members.{All-from_members, front_or_behind, from-range, in-range, no_member}
use Rattle.cert_lines.specs.declared.answer.Line.{Line}
use Rattle.arc_levels.specs.ArcLines.{AreArcLines}
use Rattle.search_log.specs.declared.line.LogLine.{LogLine}
use Rattle.search_log.specs.declared.line.Ref.{Ref}
use Rattle.search_log.specs.declared.line.Ref.TheVariants.{Own, Row}
use Rattle.search_log.specs.Contents.{Cites, Content, KnownRow, known_row}
use Rattle.search_log.specs.declared.piece.Piece.{Piece}
use Rattle.merge_laws.specs.Certificates.{gathered}
use Rattle.merge_laws.specs.Fates.{IsFate}
use Rattle.merge_laws.specs.Pieces.{emit_pieces, emit_rest, emit_rests}
use Rattle.merge_laws.specs.Stages.{Merged, done_of, merged_number, start}
use Rattle.search_log.specs.GoodLogs.{lines_of}
use Rattle.merge_laws.specs.Conditions.{AreOld}
use Rattle.merge_laws.specs.GoodLogs.{IsPlacedIn}
use Rattle.merge_laws.proofs.Staged.{IsDoneRow, IsStage}
use Rattle.merge_laws.proofs.LogFacts.{AreLogFacts, placed_numbers}
use Rattle.merge_laws.proofs.SegmentOrder.{all-done, sorted-in-order}
use Rattle.merge_laws.proofs.StageSteps.{IsDoneAfter, IsReady}
use Rattle.merge_laws.proofs.Starting.{start-stage}
use Rattle.merge_laws.proofs.Stretches.{emit_all-after, log-inside, pieces-stage, pooled_at_end, rests-stage}

-- ---- after the rests every line is done

-- lines of any log are done for good
never-less : (s t : Merged) (log more : ℕ) → IsDoneAfter s t log more → (l : ℕ) → done_of s l ≤ done_of t l
never-less s t log more h l = ⊎_elim
    (λ hit. let e = h.here in subst (λ k. done_of s k ≤ done_of t k) (sym (eqb-true l log hit)) (omega arith))
    (λ off. let e = h.others l (eqb-false l log off) in omega arith)
    (cases_Bool (eqb l log))

module _ (logs : List (List LogLine)) where
  rest-after : (s : Merged) (log : ℕ) → log < length s.own → IsDoneAfter s (emit_rest logs log s) log (length (drop (done_of s log) (lines_of logs log)))
  rest-after s log inside = emit_all-after (drop (done_of s log) (lines_of logs log)) s log inside

  rests-keep : (these : List ℕ) (s : Merged) → All (λ k. k < length s.own) these → (l : ℕ) → done_of s l ≤ done_of (emit_rests logs these s) l
  rests-keep [] s inside l = omega arith
  rests-keep (log ∷ more) s inside l =
      let here = All-head (λ k. k < length s.own) log more inside in
      let one = rest-after s log here in
      let grew = one.logs in
      let front = never-less s (emit_rest logs log s) log (length (drop (done_of s log) (lines_of logs log))) one l in
      let rest = rests-keep more (emit_rest logs log s) (subst (λ n. All (λ k. k < n) more) (sym grew) (All-tail (λ k. k < length s.own) log more inside)) l in
      omega arith

  rests-done : (these : List ℕ) (s : Merged) → All (λ k. k < length s.own) these → (l : ℕ) → Contains these l → length (lines_of logs l) ≤ done_of (emit_rests logs these s) l
  rests-done [] s inside l m = absurd (no_member l m)
  rests-done (log ∷ more) s inside l m =
      let here = All-head (λ k. k < length s.own) log more inside in
      let one = rest-after s log here in
      let others : All (λ k. k < length (emit_rest logs log s).own) more = subst (λ n. All (λ k. k < n) more) (sym one.logs) (All-tail (λ k. k < length s.own) log more inside) in
      ⊎_elim
      (λ same. subst (λ k. length (lines_of logs k) ≤ done_of (emit_rests logs more (emit_rest logs log s)) k) same
      (let keep = rests-keep more (emit_rest logs log s) others log in let h = one.here in omega (arith, keep, h, length-drop (done_of s log) (lines_of logs log))))
      (λ later. rests-done more (emit_rest logs log s) others l later)
      (front_or_behind log more l m)

-- ---- the whole

module _ (instance : Instance) (rows : List KnownRow) (logs : List (List LogLine)) (pieces : List Piece) (arcs : List Line) (room : ℕ) (valid : IsInstance instance) (lined : AreArcLines instance arcs) (old : List Line) (old_are : AreOld instance old) (placed : List (ℕ × ℕ)) (facts : AreLogFacts instance rows logs (placed_numbers placed) pieces)
    (fits : All (λ (row : KnownRow). row.number < room) rows) (said : (row : KnownRow) → Contains rows row → Contains (placed_numbers placed) row.number → IsPlacedIn old placed row) (once : AllPairs (λ p q. p.0 ≢ q.0) placed) where
  abbrev done : List ℕ
  done = placed_numbers placed

  abbrev pub pooled : ℕ
  pooled = pooled_at_end 0 pieces

  abbrev pub segmented : Merged
  segmented = emit_pieces logs pieces (start (old ++ arcs) placed (length logs) room)

  abbrev pub whole : Merged
  whole = gathered (old ++ arcs) placed logs pieces room

  segmented-stage : IsStage instance rows logs done pooled segmented
  segmented-stage = pieces-stage instance rows logs valid done pieces 0 (start (old ++ arcs) placed (length logs) room) (start-stage instance arcs valid lined old old_are placed rows logs room fits said once) (sorted-in-order instance rows logs done pieces facts)

  ready : (log n : ℕ) (line : LogLine) → slice_get (lines_of logs log) n ≡ Some line → IsReady instance rows (take n (lines_of logs log)) done pooled line
  ready log n line at = record {
    good = facts.good log n line at;
    bare = facts.bare log n line at;
    below = λ ref r m e. let found = facts.cited log n line ref r at m e in subst (IsDoneRow done pooled) found.2 (all-done instance rows logs done pieces facts found.0 found.1);
  }

  pub whole-stage : IsStage instance rows logs done pooled whole
  whole-stage = rests-stage instance rows logs valid done pooled ready (range_with_len 0 (length logs)) segmented (λ log m. from-range (length logs) log m) segmented-stage

  all-inside : All (λ log. log < length segmented.own) (range_with_len 0 (length logs))
  all-inside = All-from_members (λ log. log < length segmented.own) (range_with_len 0 (length logs)) (λ log m. let e = segmented-stage.logs_are in let l = from-range (length logs) log m in omega arith)

  -- what a line or a row says has its fate
  pub cited-fate : (log : ℕ) (ref : Ref) (content : Content) → Cites rows (lines_of logs log) ref content → IsFate instance whole.out content (merged_number whole log ref)
  cited-fate log (Own n) content (line, at, is) =
      let inside = log-inside logs log n line at in
      let done = rests-done logs (range_with_len 0 (length logs)) segmented all-inside log (in-range (length logs) log inside) in
      let small = slice_get_within (lines_of logs log) n line at in
      subst (λ c. IsFate instance whole.out c (merged_number whole log (Own n))) (sym is) (whole-stage.own log n line (omega arith) at)
  cited-fate log (Row r) content m = whole-stage.row (known_row r content) m (all-done instance rows logs done pieces facts (known_row r content) m)
