-- Lines of a log one after another, segments one after another, and the rests of logs.
use Rattle.std.proofs.Common.{◌≡◌, ◌⊎◌, ℕ, zero, suc, ◌+◌, ◌-◌, ◌<◌, ◌≤◌, List, [], ◌∷◌, length, take, drop, refl, subst, ◌∙◌, arith, Some, Contains}
use Rattle.std.specs.List.{slice_get}
use Rattle.std.proofs.lemmas.List.{length-take, length-drop}
use Rattle.std.proofs.lemmas.Option.{slice_get_within}
use Rattle.fapp_model.specs.declared.instance.Instance.{Instance}
use Rattle.fapp_model.specs.Instances.{IsInstance}
use Rattle.fapp_model.proofs.Members.{at_front, behind}
use Rattle.search_log.specs.declared.line.LogLine.{LogLine}
use Rattle.search_log.specs.Contents.{KnownRow, content_of, known_row}
use Rattle.search_log.proofs.ByPlace.{get-take}
use Rattle.search_log.specs.declared.piece.Piece.{Piece}
use Rattle.merge_laws.specs.Pieces.{emit_piece, emit_pieces, emit_rest, emit_rests, left_to}
use Rattle.merge_laws.specs.Stages.{Merged, done_of, emit, emit_all}
use Rattle.search_log.specs.GoodLogs.{lines_of}
use Rattle.merge_laws.proofs.Staged.{IsStage}
use Rattle.merge_laws.proofs.StageSteps.{IsDoneAfter, IsReady, emit-after, line-step, row-step}

-- ---- lists by place

pub from-dropped : {X : Type 0} (xs : List X) (n k : ℕ) (x : X) → slice_get (drop n xs) k ≡ Some x → slice_get xs (n + k) ≡ Some x
from-dropped xs zero k x e = subst (λ m. slice_get xs m ≡ Some x) (let h : k ≡ 0 + k = omega arith in h) e
from-dropped [] (suc n) k x e = absurd (cc)
from-dropped (y ∷ xs) (suc n) k x e = subst (λ m. slice_get (y ∷ xs) m ≡ Some x) (let h : suc (n + k) ≡ suc n + k = omega arith in h) (from-dropped xs n k x e)

pub log-inside : (logs : List (List LogLine)) (log n : ℕ) (line : LogLine) → slice_get (lines_of logs log) n ≡ Some line → log < length logs
log-inside [] log n line e = absurd (cc)
log-inside (lines ∷ logs) zero n line e = omega arith
log-inside (lines ∷ logs) (suc log) n line e = let h = log-inside logs log n line e in omega arith

-- ---- what was done

pub not-more : (s : Merged) (log : ℕ) → IsDoneAfter s s log 0
not-more s log = record { logs = refl; rows = refl; here = omega arith; others = λ l apart. refl }

pub and-more : (s t u : Merged) (log m n : ℕ) → IsDoneAfter s t log m → IsDoneAfter t u log n → IsDoneAfter s u log (m + n)
and-more s t u log m n h g = record {
  logs = g.logs ∙ h.logs;
  rows = g.rows ∙ h.rows;
  here = (let e = h.here in let f = g.here in omega arith);
  others = λ l apart. g.others l apart ∙ h.others l apart;
}

pub emit_all-after : (these : List LogLine) (s : Merged) (log : ℕ) → log < length s.own → IsDoneAfter s (emit_all log these s) log (length these)
emit_all-after [] s log inside = not-more s log
emit_all-after (line ∷ more) s log inside =
    let one = emit-after s log line inside in
    let e = one.logs in
    let rest = and-more s (emit log line s) (emit_all log more (emit log line s)) log 1 (length more) one (emit_all-after more (emit log line s) log (omega arith)) in
    subst (IsDoneAfter s (emit_all log more (emit log line s)) log) (let h : 1 + length more ≡ length (line ∷ more) = omega arith in h) rest

-- ---- lines of one log

-- lists that stand within a list from a place on
pub record AreFrom (lines these : List LogLine) (place : ℕ) : Type 0 where
  pub at : (k : ℕ) (line : LogLine) → slice_get these k ≡ Some line → slice_get lines (place + k) ≡ Some line

-- a segment may come next
pub record MayFollow (instance : Instance) (rows : List KnownRow) (logs : List (List LogLine)) (placed : List ℕ) (pooled : ℕ) (p : Piece) : Type 0 where
  pub line : LogLine
  pub stands : slice_get (lines_of logs p.log) p.last ≡ Some line
  pub apart : Contains placed p.row → ⊥
  pub high : pooled ≤ p.row
  pub only : (row : KnownRow) → Contains rows row → pooled ≤ row.number → row.number < p.row + 1 → (row ≡ known_row p.row (content_of line)) ⊎ Contains placed row.number
  pub ready : (n : ℕ) (other : LogLine) → n ≤ p.last → slice_get (lines_of logs p.log) n ≡ Some other →
      IsReady instance rows (take n (lines_of logs p.log)) placed pooled other

abbrev pub AreInOrder : Instance → List KnownRow → List (List LogLine) → List ℕ → ℕ → List Piece → Type 0
AreInOrder instance rows logs placed pooled [] = Unit {0}
AreInOrder instance rows logs placed pooled (p ∷ ps) = MayFollow instance rows logs placed pooled p × AreInOrder instance rows logs placed (p.row + 1) ps

abbrev pub pooled_at_end : ℕ → List Piece → ℕ
pooled_at_end pooled [] = pooled
pooled_at_end pooled (p ∷ ps) = pooled_at_end (p.row + 1) ps

module _ (instance : Instance) (rows : List KnownRow) (logs : List (List LogLine)) (valid : IsInstance instance) (placed : List ℕ) where
  run : (these : List LogLine) (pooled : ℕ) (s : Merged) (log : ℕ) → log < length logs → IsStage instance rows logs placed pooled s → AreFrom (lines_of logs log) these (done_of s log) →
      ((k : ℕ) (line : LogLine) → slice_get these k ≡ Some line → IsReady instance rows (take (done_of s log + k) (lines_of logs log)) placed pooled line) →
      IsStage instance rows logs placed pooled (emit_all log these s)
  run [] pooled s log inside stage from ready = stage
  run (line ∷ more) pooled s log inside stage from ready = run more pooled (emit log line s) log inside next
      (record { at = λ k other g. subst (λ m. slice_get (lines_of logs log) m ≡ Some other) (shift k) (from.at (suc k) other g) })
      (λ k other g. subst (λ m. IsReady instance rows (take m (lines_of logs log)) placed pooled other) (shift k) (ready (suc k) other g))
    where
      here : log < length s.own
      here = let e = stage.logs_are in omega arith

      shift : (k : ℕ) → done_of s log + suc k ≡ done_of (emit log line s) log + k
      shift k = let e = (emit-after s log line here).here in omega arith

      first : done_of s log + 0 ≡ done_of s log
      first = omega arith

      next : IsStage instance rows logs placed pooled (emit log line s)
      next = line-step instance rows logs valid placed pooled s stage log line here (subst (λ m. slice_get (lines_of logs log) m ≡ Some line) first (from.at 0 line refl))
          (subst (λ m. IsReady instance rows (take m (lines_of logs log)) placed pooled line) first (ready 0 line refl))

  -- lines of a log from the first that is not done up to a place
  stretch : (pooled : ℕ) (s : Merged) (log to : ℕ) → log < length logs → IsStage instance rows logs placed pooled s →
      ((n : ℕ) (line : LogLine) → n < to → slice_get (lines_of logs log) n ≡ Some line → IsReady instance rows (take n (lines_of logs log)) placed pooled line) →
      IsStage instance rows logs placed pooled (emit_all log (left_to logs s log to) s)
  stretch pooled s log to inside stage ready =
      run (left_to logs s log to) pooled s log inside stage (record { at = λ k line g. there k line g })
      (λ k line g. ready (done_of s log + k) line (let h = short k line g in omega arith) (there k line g))
    where
      taken : (k : ℕ) (line : LogLine) → slice_get (left_to logs s log to) k ≡ Some line → (k < to - done_of s log) × (slice_get (drop (done_of s log) (lines_of logs log)) k ≡ Some line)
      taken k line g = get-take (drop (done_of s log) (lines_of logs log)) (to - done_of s log) k line g

      there : (k : ℕ) (line : LogLine) → slice_get (left_to logs s log to) k ≡ Some line → slice_get (lines_of logs log) (done_of s log + k) ≡ Some line
      there k line g = from-dropped (lines_of logs log) (done_of s log) k line (taken k line g).1

      short : (k : ℕ) (line : LogLine) → slice_get (left_to logs s log to) k ≡ Some line → k < to - done_of s log
      short k line g = (taken k line g).0

  -- ---- segments

  abbrev stretched : Piece → Merged → Merged
  stretched p s = emit_all p.log (left_to logs s p.log (p.last + 1)) s

  pub piece-stage : (pooled : ℕ) (s : Merged) (p : Piece) → IsStage instance rows logs placed pooled s → MayFollow instance rows logs placed pooled p → IsStage instance rows logs placed (p.row + 1) (emit_piece logs p s)
  piece-stage pooled s p stage may =
      row-step instance rows logs placed pooled (stretched p s) p.log p.last p.row may.line
      (stretch pooled s p.log (p.last + 1) inside stage (λ n line low at. may.ready n line (omega arith) at))
      may.apart may.high done may.stands may.only
    where
      inside : p.log < length logs
      inside = log-inside logs p.log p.last may.line may.stands

      done : p.last < done_of (stretched p s) p.log
      done =
          let e = (emit_all-after (left_to logs s p.log (p.last + 1)) s p.log (let l = stage.logs_are in let i = inside in omega arith)).here in
          let small = slice_get_within (lines_of logs p.log) p.last may.line may.stands in
          omega (arith, length-take (p.last + 1 - done_of s p.log) (drop (done_of s p.log) (lines_of logs p.log)), length-drop (done_of s p.log) (lines_of logs p.log))

  pub pieces-stage : (pieces : List Piece) (pooled : ℕ) (s : Merged) → IsStage instance rows logs placed pooled s → AreInOrder instance rows logs placed pooled pieces →
      IsStage instance rows logs placed (pooled_at_end pooled pieces) (emit_pieces logs pieces s)
  pieces-stage [] pooled s stage order = stage
  pieces-stage (p ∷ ps) pooled s stage order = pieces-stage ps (p.row + 1) (emit_piece logs p s) (piece-stage pooled s p stage order.0) order.1

  -- ---- rests

  module _ (pooled : ℕ) (ready : (log n : ℕ) (line : LogLine) → slice_get (lines_of logs log) n ≡ Some line → IsReady instance rows (take n (lines_of logs log)) placed pooled line) where
    pub rest-stage : (s : Merged) (log : ℕ) → log < length logs → IsStage instance rows logs placed pooled s → IsStage instance rows logs placed pooled (emit_rest logs log s)
    rest-stage s log inside stage = run (drop (done_of s log) (lines_of logs log)) pooled s log inside stage
        (record { at = λ k line g. from-dropped (lines_of logs log) (done_of s log) k line g })
        (λ k line g. ready log (done_of s log + k) line (from-dropped (lines_of logs log) (done_of s log) k line g))

    pub rests-stage : (these : List ℕ) (s : Merged) → ((log : ℕ) → Contains these log → log < length logs) → IsStage instance rows logs placed pooled s → IsStage instance rows logs placed pooled (emit_rests logs these s)
    rests-stage [] s inside stage = stage
    rests-stage (log ∷ more) s inside stage = rests-stage more (emit_rest logs log s) (λ l m. inside l (behind log more l m)) (rest-stage s log (inside log (at_front log more)) stage)
