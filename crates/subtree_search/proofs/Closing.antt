-- How the search of a job closes.
use Rattle.std.proofs.Common.{◌≡◌, ℕ, ◌<◌, List, length, get_or, Some, Result, Ok, Err, OnOk, OnErr, inl, refl, sym, ap, subst, ◌∙◌}
use Rattle.std.specs.List.{slice_get}
use Rattle.std.specs.Result.{IsErr}
use Rattle.std.proofs.lemmas.Option.{slice_get-get_or}
use Rattle.fapp_model.specs.declared.instance.Instance.{Instance}
use Rattle.fapp_model.specs.declared.literal.Literal.{Literal}
use Rattle.fapp_model.specs.declared.tag.Tag.{Tag}
use Rattle.search_log.specs.declared.line.LogLine.{LogLine}
use Rattle.search_log.specs.declared.line.Ref.{Ref}
use Rattle.nogood.specs.declared.row.Published.TheVariants.{Home}
use Rattle.search_log.specs.declared.job.Outcome.{Outcome}
use Rattle.search_log.specs.LogStates.{LogState}
use Rattle.search_log.specs.Logs.{with_segment}
use Rattle.search_log.specs.Shares.{OffersRow, SharedState}
use Rattle.settle_laws.specs.declared.found.Found.{Found}
use Rattle.settle_laws.specs.declared.found.Found.TheVariants.{Settled}
use Rattle.settle_laws.specs.Settling.{Settles}
use Rattle.settle_laws.specs.Worlds.{World}
use Rattle.settle_laws.specs.Published.{EndsBy, IsPublished}

-- what was matched step by step
pub settled-as : {E : Type 0} → (found : Result Found E) (f : Found) (line r : Ref) (tag : Tag) → found ≡ Ok f → f ≡ Settled line tag → line ≡ r → found ≡ Ok (Settled r tag)
settled-as found f line r tag a b c = a ∙ ap Ok (b ∙ ap (λ (l : Ref). Settled l tag) c)

pub found-as : {E : Type 0} → (found : Result Found E) (f g : Found) → found ≡ Ok f → f ≡ g → found ≡ Ok g
found-as found f g a b = a ∙ ap Ok b

-- a line that was read
pub read-at : (read lines : List LogLine) (n : ℕ) (line : LogLine) → read ≡ lines → n < length lines → line ≡ get_or read n line → slice_get lines n ≡ Some line
read-at read lines n line e small is =
    let there : line ≡ get_or lines n line = is ∙ ap (λ (ls : List LogLine). get_or ls n line) e in
    slice_get-get_or lines n line small ∙ ap (λ (l : LogLine). Some l) (sym there)

ends-by : {T E : Type 0} → (log after : LogState) (row : ℕ) (result : Result T E) → OnOk result (after ≡ with_segment log row) → OnErr result (after ≡ log) → EndsBy log after row result
ends-by log after row (Ok u) ok err = ok
ends-by log after row (Err e) ok err = err

-- a row was drawn
pub home-published : {T E : Type 0} → (old new : SharedState) (log after : LogState) (place row : ℕ) (line : LogLine) (result : Result T E) → slice_get log.lines place ≡ Some line → 0 < line.tag.code → OffersRow old new line.lits line.tag.code (Home row) →
    OnOk result (after ≡ with_segment log row) → OnErr result (after ≡ log) → IsPublished old new log after place result
home-published old new log after place row line result last says offered ok err = record {
  copied = offered.copied;
  takes = offered.takes;
  refusals = offered.refusals;
  got = inl (record {
    row = row;
    line = line;
    last = last;
    short = record { says = says; few = offered.answers.1 };
    published = offered.answers.0;
    above = offered.answers.3;
    ends = ends-by log after row result ok err;
  });
}

pub err-as : {T E : Type 0} → (result : Result T E) → IsErr result → (e : E) × (result ≡ Err e)
err-as (Ok x) err = cc
err-as (Err e) err = (e, refl)

pub settles-err : {E : Type 0} → (instance : Instance) (level : ℕ) (literals : List Literal) (old new : World) (result : Result Outcome E) → IsErr result → ((e : E) → Settles instance level literals old new (Err e)) → Settles instance level literals old new result
settles-err instance level literals old new result err f = let r = err-as result err in subst (λ o. Settles instance level literals old new o) (sym r.1) (f r.0)
