-- What the numbers of logs and rows are once lines of a log were written.
use Rattle.std.proofs.Common.{◌≡◌, ◌≢◌, ℕ, ◌+◌, ◌<◌, eqb, List, [], ◌∷◌, ◌++◌, length, get_or, Option, Some, None, refl, ap, ◌∙◌, ⊎_elim, arith}
use Rattle.std.proofs.lemmas.Bool.{cases_Bool}
use Rattle.std.proofs.lemmas.List.{length-set, get_or-set_same, get_or-set_other, length_push}
use Rattle.search_log.specs.declared.line.LogLine.{LogLine}
use Rattle.cert_merge.specs.Growth.{IsSameRoom}
use Rattle.merge_laws.specs.Stages.{Merged, done_of, emit, emit_all, emit_by, noted}

-- a line gives its log one number more, and changes the rows' in nothing
pub record IsOneMore (log : ℕ) (s t : Merged) : Type 0 where
  pub number : ℕ
  pub own : t.own ≡ noted s.own log number
  pub row : t.row ≡ s.row

by_path_of : (log : ℕ) (line : LogLine) (s : Merged) (path : Option ℕ) → IsOneMore log s (emit_by log line s path)
by_path_of log line s None = record { number = 0; own = refl; row = refl }
by_path_of log line s (Some path) = ⊎_elim
    (λ none. rw none (record { number = 0; own = refl; row = refl }))
    (λ some. rw some (record { number = length s.out + 1; own = refl; row = refl }))
    (cases_Bool (eqb line.tag.code 0))

pub one-more : (log : ℕ) (line : LogLine) (s : Merged) → IsOneMore log s (emit log line s)
one-more log line s = by_path_of log line s line.path

pub own-length : (log : ℕ) (lines : List LogLine) (s : Merged) → length (emit_all log lines s).own ≡ length s.own
own-length log [] s = refl
own-length log (line ∷ lines) s =
    let step = one-more log line s in
    own-length log lines (emit log line s) ∙ (ap length step.own ∙ length-set s.own log _)

pub row-same : (log : ℕ) (lines : List LogLine) (s : Merged) → (emit_all log lines s).row ≡ s.row
row-same log [] s = refl
row-same log (line ∷ lines) s = row-same log lines (emit log line s) ∙ (one-more log line s).row

done-one : (log : ℕ) (s t : Merged) → log < length s.own → IsOneMore log s t → done_of t log ≡ done_of s log + 1
done-one log s t l step =
    ap (λ own. length (get_or own log [])) step.own
    ∙ (ap length (get_or-set_same s.own log (get_or s.own log [] ++ step.number ∷ []) [] l)
    ∙ length_push (get_or s.own log []) step.number)

pub done-more : (log : ℕ) (lines : List LogLine) (s : Merged) → log < length s.own → done_of (emit_all log lines s) log ≡ done_of s log + length lines
done-more log [] s l = omega arith
done-more log (line ∷ lines) s l =
    let step = one-more log line s in
    let wide : log < length (emit log line s).own = omega (arith, ap length step.own, length-set s.own log (get_or s.own log [] ++ step.number ∷ [])) in
    omega (arith, done-more log lines (emit log line s) wide, done-one log s (emit log line s) l step)

pub done-other : (log other : ℕ) (lines : List LogLine) (s : Merged) → other ≢ log → done_of (emit_all log lines s) other ≡ done_of s other
done-other log other [] s apart = refl
done-other log other (line ∷ lines) s apart =
    let step = one-more log line s in
    done-other log other lines (emit log line s) apart
    ∙ (ap (λ own. length (get_or own other [])) step.own
    ∙ ap length (get_or-set_other s.own log other (get_or s.own log [] ++ step.number ∷ []) [] apart))

-- a line changes no room
pub room-one : (log : ℕ) (line : LogLine) (start s t : Merged) → t ≡ emit log line s → IsSameRoom start s → IsSameRoom start t
room-one log line start s t is before =
    let step = one-more log line s in
    record {
      own = ap (λ (v : Merged). length v.own) is ∙ (ap length step.own ∙ (length-set s.own log (get_or s.own log [] ++ step.number ∷ []) ∙ before.own));
      row = ap (λ (v : Merged). length v.row) is ∙ (ap length step.row ∙ before.row);
    }

pub room-and : (s t u : Merged) → IsSameRoom s t → IsSameRoom t u → IsSameRoom s u
room-and s t u first second = record { own = second.own ∙ first.own; row = second.row ∙ first.row }

pub room-same : (s : Merged) → IsSameRoom s s
room-same s = record { own = refl; row = refl }
