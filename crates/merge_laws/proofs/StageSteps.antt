-- One more line of a log, or one more row, in a certificate that grows.
use Rattle.std.proofs.Common.{◌≡◌, ◌≢◌, ◌⊎◌, ℕ, ◌+◌, ◌<◌, ◌≤◌, Bool, true, false, List, [], ◌∷◌, ◌++◌, length, take, get_or, set, refl, ap, sym, subst, ◌∙◌, inl, inr, arith, Option, None, Some, All, Contains, eqb, cond}
use Rattle.std.specs.List.{slice_get}
use Rattle.std.proofs.lemmas.Bool.{cases_Bool, cases_lt, eqb-true, eqb-false}
use Rattle.std.proofs.lemmas.List.{length-set, length_push, get_or-set_same, get_or-set_other, get_or_append_left, get_or_push}
use Rattle.std.proofs.lemmas.List.Elements.{All-contains}
use Rattle.fapp_model.specs.declared.instance.Instance.{Instance}
use Rattle.fapp_model.specs.Instances.{IsInstance}
use Rattle.fapp_model.specs.Tags.{triple_from}
use Rattle.fapp_model.specs.search.Dead as Dead
use Rattle.fapp_model.specs.search.Dead.{Dead}
use Rattle.cert_lines.specs.declared.answer.Line.{Line}
use Rattle.accept_laws.proofs.Having.{formed-partial}
use Rattle.search_log.specs.declared.line.ChoiceRef.{ChoiceRef}
use Rattle.search_log.specs.declared.line.LogLine.{LogLine}
use Rattle.search_log.specs.declared.line.Ref.{Ref}
use Rattle.search_log.specs.declared.line.Ref.TheVariants.{Own, Row}
use Rattle.search_log.specs.Contents.{Cites, Content, KnownRow, content_of, known_row}
use Rattle.search_log.specs.GoodLines.{IsGoodLine, PassesBy}
use Rattle.search_log.proofs.ByPlace.{get-take}
use Rattle.merge_laws.specs.Fates.{IsFate}
use Rattle.search_log.specs.GoodLogs.{IsBare, lines_of}
use Rattle.merge_laws.specs.Stages.{Merged, done_of, emit, emit_branch, emit_by, land, left_out, noted, merged_number, own_of}
use Rattle.merge_laws.specs.Written.{written}
use Rattle.merge_laws.proofs.Staged.{IsDoneRow, IsStage}
use Rattle.merge_laws.proofs.Beside.{same-some}
use Rattle.search_log.proofs.BareLines.{left-out-dead, zip-none}
use Rattle.merge_laws.proofs.GrowingCertificates.{fate-grows, formed-grows, good-grows, marked-grows, stands-last}
use Rattle.merge_laws.proofs.WrittenLines.{HaveFates, written-formed, written-good}

-- ---- the numbers of lines after one more

module _ (own : List (List ℕ)) (log n : ℕ) (inside : log < length own) where
  pub noted-same : get_or (noted own log n) log [] ≡ get_or own log [] ++ n ∷ []
  noted-same = get_or-set_same own log (get_or own log [] ++ n ∷ []) [] inside

  pub noted-other : (l : ℕ) → l ≢ log → get_or (noted own log n) l [] ≡ get_or own l []
  noted-other l apart = get_or-set_other own log l (get_or own log [] ++ n ∷ []) [] apart

-- what has been done, with one line of one log more
pub record IsDoneAfter (old new : Merged) (log more : ℕ) : Type 0 where
  pub logs : length new.own ≡ length old.own
  pub rows : length new.row ≡ length old.row
  pub here : done_of new log ≡ done_of old log + more
  pub others : (l : ℕ) → l ≢ log → done_of new l ≡ done_of old l

after-noted : (old new : Merged) (log n : ℕ) → log < length old.own → new.own ≡ noted old.own log n → new.row ≡ old.row → IsDoneAfter old new log 1
after-noted old new log n inside e g = record {
  logs = ap length e ∙ length-set old.own log (get_or old.own log [] ++ n ∷ []);
  rows = ap length g;
  here = ap (λ (own : List (List ℕ)). length (get_or own log [])) e ∙ (ap length (noted-same old.own log n inside) ∙ length_push (get_or old.own log []) n);
  others = λ l apart. ap (λ (own : List (List ℕ)). length (get_or own l [])) e ∙ ap length (noted-other old.own log n inside l apart);
}

pub emit-after : (s : Merged) (log : ℕ) (line : LogLine) → log < length s.own → IsDoneAfter s (emit log line s) log 1
emit-after s log line inside = by_path line.path
  where
    by_tag : (path : ℕ) (b : Bool) → IsDoneAfter s (let m : Merged = cond b (left_out log s) (emit_branch log line path s) in m) log 1
    by_tag path true = after-noted s (left_out log s) log 0 inside refl refl
    by_tag path false = after-noted s (emit_branch log line path s) log (length s.out + 1) inside refl refl

    by_path : (o : Option ℕ) → IsDoneAfter s (emit_by log line s o) log 1
    by_path None = after-noted s (left_out log s) log 0 inside refl refl
    by_path (Some path) = by_tag path (eqb line.tag.code 0)

-- ---- one more line

-- the rows that a line cites are done
abbrev pub CitesDone : List ℕ → ℕ → LogLine → Type 0
CitesDone placed pooled line = (ref : ChoiceRef) (r : ℕ) → Contains line.refs ref → ref.line ≡ Row r → IsDoneRow placed pooled r

-- a line of a log that may come next
pub record IsReady (instance : Instance) (rows : List KnownRow) (earlier : List LogLine) (placed : List ℕ) (pooled : ℕ) (line : LogLine) : Type 0 where
  pub good : IsGoodLine instance rows earlier line
  pub bare : IsBare line
  pub below : CitesDone placed pooled line

zero-dead : (instance : Instance) (line : LogLine) → line.tag.code ≡ 0 → Dead instance (triple_from line.tag.code) line.lits
zero-dead instance line e = Dead.least (ap triple_from e)

module _ (instance : Instance) (rows : List KnownRow) (logs : List (List LogLine)) (valid : IsInstance instance) (placed : List ℕ) (pooled : ℕ) (s : Merged) (stage : IsStage instance rows logs placed pooled s) (log : ℕ) (line : LogLine) (inside : log < length s.own)
    (there : slice_get (lines_of logs log) (done_of s log) ≡ Some line) (ready : IsReady instance rows (take (done_of s log) (lines_of logs log)) placed pooled line) where
  abbrev pub earlier : List LogLine
  earlier = take (done_of s log) (lines_of logs log)

  fates-by : (ref : ChoiceRef) → Contains line.refs ref → (place : Ref) → ref.line ≡ place → (content : Content) → Cites rows earlier place content → IsFate instance s.out content (merged_number s log place)
  fates-by ref m (Own n) e content own =
      let before = get-take (lines_of logs log) (done_of s log) n own.0 own.1 in
      subst (λ c. IsFate instance s.out c (merged_number s log (Own n))) (sym own.2) (stage.own log n own.0 before.0 before.1)
  fates-by ref m (Row r) e content row = stage.row (known_row r content) row (ready.below ref r m e)

  fates : HaveFates instance rows earlier s.out (merged_number s log) line
  fates ref content m at = fates-by ref m ref.line refl content at

  -- the lines before keep their fates in a certificate that has grown, and this one has its own
  next-own : (out : List Line) (n : ℕ) → ((content : Content) (k : ℕ) → IsFate instance s.out content k → IsFate instance out content k) → IsFate instance out (content_of line) n →
      (l place : ℕ) (other : LogLine) → place < length (get_or (noted s.own log n) l []) → slice_get (lines_of logs l) place ≡ Some other →
      IsFate instance out (content_of other) (get_or (get_or (noted s.own log n) l []) place 0)
  next-own out n grows is l place other small at = by_log (cases_Bool (eqb l log))
    where
      own : List ℕ
      own = own_of s log

      by_place : slice_get (lines_of logs log) place ≡ Some other → place < length own + 1 → (place < length own) ⊎ (length own ≤ place) → IsFate instance out (content_of other) (get_or (own ++ n ∷ []) place 0)
      by_place here bound (inl less) =
          rw (get_or_append_left own (n ∷ []) 0 place less) (grows (content_of other) (get_or own place 0) (stage.own log place other less here))
      by_place here bound (inr past) =
          let same : length own ≡ place = omega arith in
          let one = same-some line other (slice_get (lines_of logs log) (length own)) there (subst (λ k. slice_get (lines_of logs log) k ≡ Some other) (sym same) here) in
          rw (get_or_push own n 0 place same) (subst (λ (x : LogLine). IsFate instance out (content_of x) n) one is)

      by_log : (eqb l log ≡ true) ⊎ (eqb l log ≡ false) → IsFate instance out (content_of other) (get_or (get_or (noted s.own log n) l []) place 0)
      by_log (inl hit) =
          let same = eqb-true l log hit in
          let bound = subst (λ k. place < length (get_or (noted s.own log n) k [])) same small in
          subst (λ k. IsFate instance out (content_of other) (get_or (get_or (noted s.own log n) k []) place 0)) (sym same)
          (rw (noted-same s.own log n inside) (by_place (subst (λ k. slice_get (lines_of logs k) place ≡ Some other) same at)
          (let e = ap length (noted-same s.own log n inside) in let f = length_push own n in omega arith) (cases_lt place (length own))))
      by_log (inr off) =
          let apart = eqb-false l log off in
          let e = noted-other s.own log n inside l apart in
          rw e (grows (content_of other) (get_or (get_or s.own l []) place 0) (stage.own l place other (subst (λ xs. place < length xs) e small) at))

  leaves : Dead instance (triple_from line.tag.code) line.lits → IsStage instance rows logs placed pooled (left_out log s)
  leaves dead = record {
    good = stage.good;
    formed = stage.formed;
    marked = stage.marked;
    logs_are = length-set s.own log (get_or s.own log [] ++ 0 ∷ []) ∙ stage.logs_are;
    room = stage.room;
    own = next-own s.out 0 (λ content k h. h) (inl (record { none = refl; tag_of = ready.good.tag; partial = formed-partial instance line.lits ready.good.lits; dead = dead }));
    row = stage.row;
  }

  writes : (path : ℕ) → line.path ≡ Some path → 0 < line.tag.code → PassesBy instance line ready.good.contents (Some path) → IsStage instance rows logs placed pooled (emit_branch log line path s)
  writes path e some branch =
      let new = written (merged_number s log) path line in
      let refs = rw e at ready.good.refs in
      record {
        good = good-grows instance s.out new stage.good (written-good instance rows earlier s.out (merged_number s log) line path valid stage.marked fates some ready.good.tag ready.good.lits refs ready.good.contents ready.good.cites branch);
        formed = formed-grows instance s.out new stage.formed
            (written-formed instance rows earlier s.out (merged_number s log) line path valid stage.marked fates some ready.good.tag ready.good.lits refs ready.good.contents ready.good.cites branch);
        marked = marked-grows instance s.out new refl stage.marked;
        logs_are = length-set s.own log (get_or s.own log [] ++ (length s.out + 1) ∷ []) ∙ stage.logs_are;
        room = stage.room;
        own = next-own (s.out ++ new ∷ []) (length s.out + 1) (λ content k h. fate-grows instance s.out (new ∷ []) content k h) (inr (stands-last s.out new));
        row = λ row m small. fate-grows instance s.out (new ∷ []) row.content (merged_number s 0 (Row row.number)) (stage.row row m small);
      }

  by_tag : (path : ℕ) → line.path ≡ Some path → (b : Bool) → eqb line.tag.code 0 ≡ b → IsStage instance rows logs placed pooled (let m : Merged = cond b (left_out log s) (emit_branch log line path s) in m)
  by_tag path e true zero_tag = leaves (zero-dead instance line (eqb-true line.tag.code 0 zero_tag))
  by_tag path e false above =
      let some : 0 < line.tag.code = (let apart = eqb-false line.tag.code 0 above in omega arith) in
      writes path e some (rw e at ready.good.passes some)

  count-dead : line.path ≡ None → (0 < line.tag.code) ⊎ (line.tag.code ≤ 0) → Dead instance (triple_from line.tag.code) line.lits
  count-dead e (inl some) =
      left-out-dead instance line.tag.code line.lits ready.good.contents
      (zip-none (λ (ref : ChoiceRef) content. Cites rows earlier ref.line content) line.refs ready.good.contents ready.good.cites (ready.bare e))
      (rw e at ready.good.passes some)
  count-dead e (inr none) = zero-dead instance line (omega arith)

  by_path : (o : Option ℕ) → line.path ≡ o → IsStage instance rows logs placed pooled (emit_by log line s o)
  by_path None e = leaves (count-dead e (cases_lt 0 line.tag.code))
  by_path (Some path) e = by_tag path e (eqb line.tag.code 0) refl

  pub line-step : IsStage instance rows logs placed pooled (emit log line s)
  line-step = by_path line.path refl

-- ---- one more row

pub row-step : (instance : Instance) (rows : List KnownRow) (logs : List (List LogLine)) (placed : List ℕ) (pooled : ℕ) (s : Merged) (log place r : ℕ) (line : LogLine) →
    IsStage instance rows logs placed pooled s → (Contains placed r → ⊥) → pooled ≤ r → place < done_of s log → slice_get (lines_of logs log) place ≡ Some line →
    ((row : KnownRow) → Contains rows row → pooled ≤ row.number → row.number < r + 1 → (row ≡ known_row r (content_of line)) ⊎ Contains placed row.number) →
    IsStage instance rows logs placed (r + 1) (land r log place s)
row-step instance rows logs placed pooled s log place r line stage apart high small at only = record {
  good = stage.good;
  formed = stage.formed;
  marked = stage.marked;
  logs_are = stage.logs_are;
  room = subst (λ n. All (λ (row : KnownRow). row.number < n) rows) (sym (length-set s.row r (merged_number s log (Own place)))) stage.room;
  own = stage.own;
  row = landed;
}
  where
    new : (row : KnownRow) → Contains rows row → row ≡ known_row r (content_of line) → IsFate instance s.out row.content (get_or (set s.row r (merged_number s log (Own place))) row.number 0)
    new row m e =
        let is = ap (λ (x : KnownRow). x.number) e in
        let fits = All-contains (λ (x : KnownRow). x.number < length s.row) rows row stage.room m in
        subst (λ x. IsFate instance s.out x.content (get_or (set s.row r (merged_number s log (Own place))) x.number 0)) (sym e)
        (rw (get_or-set_same s.row r (merged_number s log (Own place)) 0 (omega arith)) (stage.own log place line small at))

    old : (row : KnownRow) → Contains rows row → (row.number ≢ r) → IsDoneRow placed pooled row.number → IsFate instance s.out row.content (get_or (set s.row r (merged_number s log (Own place))) row.number 0)
    old row m other done = rw (get_or-set_other s.row r row.number (merged_number s log (Own place)) 0 other) (stage.row row m done)

    said : (row : KnownRow) → Contains rows row → Contains placed row.number → IsFate instance s.out row.content (get_or (set s.row r (merged_number s log (Own place))) row.number 0)
    said row m k = old row m (λ same. apart (subst (Contains placed) same k)) (inr k)

    landed : (row : KnownRow) → Contains rows row → IsDoneRow placed (r + 1) row.number → IsFate instance s.out row.content (get_or (set s.row r (merged_number s log (Own place))) row.number 0)
    landed row m (inr k) = said row m k
    landed row m (inl bound) = elim (cases_lt row.number pooled) [
      | inl below ↦ old row m (λ same. absurd (omega arith)) (inl below)
      | inr above ↦ elim (only row m above bound) [ inl here ↦ new row m here | inr k ↦ said row m k ]
    ]
