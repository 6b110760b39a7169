-- A line that refutes no literals, as a row.
use Rattle.std.proofs.Common.{◌≡◌, ℕ, List, [], ◌∷◌, get_or, slice_get, Contains, Option, Some, None, Ok, refl, sym, ap, ◌∙◌, subst, arith}
use Rattle.std.proofs.lemmas.List.Elements.{All-head}
use Rattle.fapp_model.specs.declared.instance.Instance.{Instance}
use Rattle.fapp_model.specs.declared.literal.Literal.{Literal}
use Rattle.fapp_model.specs.declared.tag.Tag.{Tag}
use Rattle.fapp_model.specs.Tags.{triple_from}
use Rattle.fapp_model.specs.search.Implied.{Implied}
use Rattle.fapp_model.specs.search.Partials.{AreLiterals, HasAll}
use Rattle.fapp_model.proofs.Members.{no_member}
use Rattle.search_log.specs.declared.line.LogLine.{LogLine}
use Rattle.search_log.specs.declared.line.Ref.{Ref}
use Rattle.search_log.specs.declared.line.Ref.TheVariants.{Own}
use Rattle.search_log.specs.Contents.{Content, KnownRow, content_of}
use Rattle.search_log.specs.declared.job.Outcome.{Outcome}
use Rattle.search_log.specs.declared.job.Outcome.TheVariants.{Refuted}
use Rattle.search_log.specs.Shares.{IsServedContent}
use Rattle.settle_laws.specs.Founds.{IsRefuted}
use Rattle.settle_laws.specs.Settling.{IsOutcome}
use Rattle.settle_laws.specs.Worlds.{World}
use Rattle.subtree_search.proofs.Closing.{read-at}

no-literals : (lits : List Literal) → HasAll [] lits → lits ≡ []
no-literals [] h = refl
no-literals (a ∷ lits) h = absurd (no_member a (All-head (Contains []) a lits h))

line-or : LogLine → Option LogLine → LogLine
line-or other (Some line) = line
line-or other None = other

module _ (instance : Instance) (rows : List KnownRow) (lines : List LogLine) (n tag : ℕ) (line : LogLine) (h : IsRefuted instance rows lines [] (Own n) tag) (at : slice_get lines n ≡ Some line) where
  content-is : h.content ≡ content_of line
  unfolding line-or
  content-is = h.cited.2 ∙ ap (λ o. content_of (line-or line o)) (sym h.cited.1 ∙ at)

  none : h.content.lits ≡ []
  none = no-literals h.content.lits h.contained

  served-alone : IsServedContent instance (record { tag = line.tag.code; lits = [] })
  served-alone = record {
    lits = subst (AreLiterals instance) none h.served.lits;
    implied = subst (λ lits. Implied instance (triple_from line.tag.code) lits) none (subst (λ (c : Content). Implied instance (triple_from c.tag) h.content.lits) content-is h.served.implied);
  }

-- what a job without literals comes to, where its line is read
pub row-alone : (E : Type 0) (instance : Instance) (level : ℕ) (literals : List Literal) (old new : World) (outcome : Outcome) (ref : Ref) (tag : Tag) (n : ℕ) (read : List LogLine) (line : LogLine) →
    IsOutcome {E = E} instance level literals old new (Ok outcome) → outcome ≡ Refuted ref tag → ref ≡ Own n → literals ≡ [] → read ≡ new.log.lines → line ≡ get_or read n line →
    IsServedContent instance (record { tag = (get_or read n line).tag.code; lits = [] })
row-alone E instance level literals old new outcome ref tag n read line is refuted own none same there =
    let first = subst (λ o. IsOutcome {E = E} instance level literals old new (Ok o)) refuted is in
    let second = subst (λ r. IsOutcome {E = E} instance level literals old new (Ok (Refuted r tag))) own first in
    let h : IsOutcome {E = E} instance level [] old new (Ok (Refuted (Own n) tag)) = subst (λ l. IsOutcome {E = E} instance level l old new (Ok (Refuted (Own n) tag))) none second in
    subst (λ (l : LogLine). IsServedContent instance (record { tag = l.tag.code; lits = [] })) there
    (served-alone instance new.shared.copied new.log.lines n tag.code line h.0.refuted (read-at read new.log.lines n line same (omega (arith, h.0.last.1)) there))
