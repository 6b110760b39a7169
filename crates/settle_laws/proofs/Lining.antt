-- The line of a prefix that is dead at once.
use Rattle.std.proofs.Common.{◌≡◌, ℕ, ◌+◌, ◌≤◌, List, [], ◌∷◌, ◌++◌, length, None, Result, Ok, Err, refl, sym, ap, subst, ◌∙◌, inl, inr, arith}
use Rattle.fapp_model.specs.declared.instance.Instance.{Instance}
use Rattle.fapp_model.specs.declared.literal.Literal.{Literal}
use Rattle.fapp_model.specs.declared.tag.Tag.{Tag}
use Rattle.fapp_model.specs.InstanceTags.{IsTagFor}
use Rattle.fapp_model.specs.Instances.{IsInstance}
use Rattle.fapp_model.specs.Levels.{levels_of}
use Rattle.fapp_model.specs.Tags.{triple_from}
use Rattle.fapp_model.specs.search.Dead.{Dead}
use Rattle.fapp_model.specs.search.Implied.{Implied}
use Rattle.fapp_model.specs.search.Partials.{IsPartial}
use Rattle.dead_laws.proofs.DeadImplied.{dead-implied}
use Rattle.dead_laws.proofs.ImpliedLemmas.{Implied-more}
use Rattle.search_log.specs.declared.line.Ref.{Ref}
use Rattle.search_log.specs.declared.line.Ref.TheVariants.{Own, Row}
use Rattle.search_log.specs.LogStates.{LogState}
use Rattle.search_log.specs.Shares.{known}
use Rattle.settle_laws.specs.declared.found.Found.{Found}
use Rattle.settle_laws.specs.declared.found.Found.TheVariants.{Dead as FoundDead, Settled, Moot, Spent}
use Rattle.settle_laws.specs.Founds.{IsFoundBy, IsLastRef, Searched}
use Rattle.settle_laws.specs.Lined.{IsAtMostCount, IsLinedBy, Lined}
use Rattle.settle_laws.specs.Lines.{AddsLine, IsLined}
use Rattle.settle_laws.specs.Stops.{NoneFits}
use Rattle.settle_laws.specs.Worlds.{World, world}
use Rattle.settle_laws.proofs.Adding.{gains-one}
use Rattle.settle_laws.proofs.Adding.{has-same}
use Rattle.settle_laws.proofs.Ends.{line-adds, line-keeps, line-last, line-refutes, line-ticks}
use Rattle.settle_laws.proofs.LineParts.{count-good}
use Rattle.settle_laws.proofs.StopJoin.{counted-later}
use Rattle.settle_laws.proofs.TagCodes.{tag-small}

-- it is not said to be dead
abbrev pub NotDead : {E : Type 0} → Result Found E → Type 0
NotDead (Ok (FoundDead tag)) = ⊥
NotDead (Ok (Settled line tag)) = Unit {0}
NotDead (Ok (Moot seen)) = Unit {0}
NotDead (Ok Spent) = Unit {0}
NotDead (Err e) = Unit {0}

pub not-dead : (E : Type 0) (found : Found) → ((tag : Tag) → found ≡ FoundDead tag → ⊥) → NotDead {E = E} (Ok found)
not-dead E (FoundDead tag) f = f tag refl
not-dead E (Settled line tag) f = tt
not-dead E (Moot seen) f = tt
not-dead E Spent f = tt

module _ (instance : Instance) (level : ℕ) (literals : List Literal) (old new : World) where
  -- where no tick was taken no line was added
  same-lines : length new.log.lines + new.fuel ≤ length old.log.lines + old.fuel → (line : Ref) → IsLastRef old new line → new.fuel ≡ old.fuel → IsAtMostCount instance literals old new
  same-lines few (Own n) last same = absurd (omega (arith, last.0, last.1))
  same-lines few (Row r) last same = inl last.1

  lined-is : {E : Type 0} → (result : Result Found E) → NotDead result → length new.log.lines + new.fuel ≤ length old.log.lines + old.fuel → IsFoundBy instance level literals old new result → IsLinedBy instance level literals old new result
  lined-is (Ok (FoundDead tag)) alive few is = absurd alive
  lined-is (Ok (Settled line tag)) alive few is = (is, same-lines few line is.last)
  lined-is (Ok (Moot seen)) alive few is = is
  lined-is (Ok Spent) alive few is = is
  lined-is (Err e) alive few is = tt

  pub lined-by : {E : Type 0} → (result : Result Found E) → NotDead result → Searched instance level literals old new result → Lined instance level literals old new result
  lined-by result alive s = record {
    keeps = s.keeps;
    few = omega (arith, s.few, s.keeps.fuel);
    read = s.read;
    is = lined-is result alive s.few s.is;
    refused_at = s.refused_at;
    refused_count = s.refused_count;
    ticks = s.ticks;
    offered = s.offered;
    counted = s.counted;
  }

-- a Count line is added where it is dead
module _ {E : Type 0} (instance : Instance) (valid : IsInstance instance) (level : ℕ) (within : level ≤ levels_of instance) (literals : List Literal) (partial : IsPartial instance literals) (old now : World) (tag : Tag) (s : Searched {E = E} instance level literals old now (Ok (FoundDead tag))) (log : LogState) where
  own : IsTagFor instance tag
  own = tag-small instance level tag within (omega (arith, s.is.exact))

  module _ (found : Found) (adds : AddsLine instance literals tag None [] now.log log found) where
    line-own : IsTagFor instance adds.line.tag
    line-own = subst (λ (t : Tag). IsTagFor instance t) (sym adds.tag_is) own

    line-dead : Dead instance (triple_from adds.line.tag.code) literals
    line-dead = subst (λ (t : Tag). Dead instance (triple_from t.code) literals) (sym adds.tag_is) s.is.dead

    implied : Implied instance (triple_from adds.line.tag.code) adds.line.lits
    implied = Implied-more instance (triple_from adds.line.tag.code) literals adds.line.lits adds.sorted.has
        (dead-implied instance (triple_from adds.line.tag.code) literals valid line-own partial line-dead)

    one-more : length log.lines ≡ length old.log.lines + 1
    one-more = line-adds instance literals old now s.keeps adds.line log adds.added ∙ ap (λ n. n + 1) (ap length s.is.lines)

    dead-by : Lined {E = E} instance level literals old (world now.fuel now.bound now.shared log) (Ok (Settled (Own (length now.log.lines)) tag))
    dead-by = record {
      keeps = line-keeps instance literals old now s.keeps adds.line log adds.added (λ none. adds.refs_are)
          (count-good instance valid literals partial (known now.shared) now.log.lines adds.line adds.sorted line-own adds.path_is adds.refs_are line-dead) (record { lits = adds.sorted.are; implied = implied }) line-own;
      few = omega (arith, one-more);
      read = s.read;
      is = (
        record {
          is_open = s.is.is_open;
          target = s.is.target;
          exact = λ same. s.is.exact;
          refuted = line-refutes instance literals old now s.keeps adds.line log adds.added literals (has-same literals) adds.sorted implied line-own tag.code (omega (arith, ap (λ (t : Tag). t.code) adds.tag_is));
          last = line-last instance literals old now s.keeps adds.line log adds.added;
        },
        (λ same. inr (record {
          line = adds.line;
          added = ap (λ (l : LogState). l.lines) adds.added ∙ ap (λ lines. lines ++ adds.line ∷ []) s.is.lines;
          count = adds.path_is;
          sorted = adds.sorted;
          rowless = subst (λ (t : Tag). NoneFits t.code now.shared.copied literals) (sym adds.tag_is) s.is.rowless;
        })),
      );
      refused_at = s.refused_at;
      refused_count = s.refused_count;
      ticks = line-ticks instance literals old now s.keeps adds.line log adds.added level s.refused_at s.ticks;
      offered = s.offered;
      counted = counted-later instance s.ticks.tried old.log.lines now.log.lines log.lines (gains-one now.log.lines log.lines adds.line (ap (λ (l : LogState). l.lines) adds.added) (λ none. adds.refs_are)) s.counted;
    }

    dead-adds : Lined {E = E} instance level literals old (world now.fuel now.bound now.shared log) (Ok found)
    dead-adds = subst (λ f. Lined {E = E} instance level literals old (world now.fuel now.bound now.shared log) (Ok f)) (sym adds.found_is) dead-by

  dead-fails : (e : E) → log ≡ now.log → Lined {E = E} instance level literals old (world now.fuel now.bound now.shared log) (Err e)
  dead-fails e same = subst (λ l. Lined {E = E} instance level literals old (world now.fuel now.bound now.shared l) (Err e)) (sym same) (record {
    keeps = s.keeps;
    few = omega (arith, s.few, s.keeps.fuel);
    read = s.read;
    is = tt;
    refused_at = s.refused_at;
    refused_count = s.refused_count;
    ticks = s.ticks;
    offered = tt;
    counted = tt;
  })

  pub dead-lined : (result : Result Found E) → IsLined instance literals tag None [] now.log log result → Lined instance level literals old (world now.fuel now.bound now.shared log) result
  dead-lined (Ok found) adds = dead-adds found adds
  dead-lined (Err e) same = dead-fails e same
