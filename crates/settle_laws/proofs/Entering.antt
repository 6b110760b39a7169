-- What is known before a node's choices are tried.
use Rattle.std.proofs.Common.{◌≡◌, ℕ, ◌+◌, ◌<◌, ◌≤◌, min, List, [], ◌∷◌, All, Contains, Option, Some, None, Ok, refl, sym, subst, ⊎_elim, arith}
use Rattle.std.proofs.lemmas.List.Elements.{All-contains, Contains-append_cases}
use Rattle.fapp_model.specs.declared.instance.Instance.{Instance}
use Rattle.fapp_model.specs.declared.literal.Literal.{Literal}
use Rattle.fapp_model.specs.declared.tag.Tag.{Tag}
use Rattle.fapp_model.specs.Instances.{IsInstance}
use Rattle.fapp_model.specs.Levels.{levels_of}
use Rattle.fapp_model.specs.Tags.{triple_from}
use Rattle.fapp_model.specs.search.Dead.{Dead}
use Rattle.fapp_model.specs.search.Partials.{HasAll}
use Rattle.fapp_model.specs.search.Prefixes.{IsPrefix}
use Rattle.fapp_model.proofs.Members.{All-from_members}
use Rattle.nogood.specs.Partials.{GivesChoice}
use Rattle.search_log.specs.declared.line.Ref.TheVariants.{Row}
use Rattle.search_log.specs.Contents.{KnownRow}
use Rattle.search_log.proofs.Segmenting.{log-more}
use Rattle.search_log.specs.declared.log.KeptPlan.{KeptPlan}
use Rattle.search_log.specs.declared.shared.Cite.{Cite}
use Rattle.search_log.specs.Bounds.{BoundState, Tells, floor, lowest}
use Rattle.search_log.specs.LogStates.{LogState}
use Rattle.search_log.specs.Shares.{FitsPart, IsCiteOf, LooksUp, SharedState, known, row_content}
use Rattle.settle_laws.specs.declared.found.Found.TheVariants.{Dead as FoundDead, Settled, Moot, Spent}
use Rattle.settle_laws.specs.Founds.{IsWanted, IsTarget, Searched}
use Rattle.settle_laws.specs.Levels.{level_code, target_code}
use Rattle.settle_laws.specs.Stops.{ComesAfter, IsUndecided, NoneFits, stop_at}
use Rattle.settle_laws.specs.Ticked.{IsTicked}
use Rattle.settle_laws.specs.Worlds.{IsLeastOffered, Keeps, world}
use Rattle.settle_laws.proofs.Adding.{gains-none, has-same, served-none}
use Rattle.settle_laws.proofs.Keeping.{rows-grow}
pub use Rattle.settle_laws.proofs.StopJoin.{floor-le}
use Rattle.settle_laws.proofs.StopJoin.{none-counted, none-offered}
use Rattle.settle_laws.proofs.TagCodes.{alive-at, tag-small}
use Rattle.settle_laws.proofs.TickJoin.{no-ticks, one-refused}

-- ---- the bound

tells-falls : (b c : BoundState) (tag : ℕ) → Tells b c tag → floor c ≤ floor b
tells-falls b c tag h = omega (arith, floor-le c, h.told, h.falls)

-- what was told just now is no more than what was offered
lowest-same : (told : ℕ) (least : Option ℕ) (was : ℕ) → told ≤ lowest was least → lowest told least ≡ told
lowest-same told None was low = refl
lowest-same told (Some least) was low = omega (arith, low)

tells-floor : (b c : BoundState) (tag : ℕ) → Tells b c tag → floor c ≡ c.told
tells-floor b c tag h = lowest-same c.told c.least b.told (subst (λ o. c.told ≤ lowest b.told o) (sym h.least) (omega (arith, h.told, h.falls)))

told-falls : (b c : BoundState) (tag : ℕ) → Tells b c tag → c.told ≤ b.told
told-falls b c tag h = omega (arith, floor-le b, h.told, h.falls)

offers-same : (b c : BoundState) (tag : ℕ) → Tells b c tag → (n : ℕ) → lowest n c.least ≤ lowest n b.least
offers-same b c tag h n = subst (λ o. lowest n o ≤ lowest n b.least) (sym h.least) (omega arith)

-- ---- rows

-- the rows that a holder has known were copied
looked-over : (s t : SharedState) (part : List (Option ℕ)) (tag : ℕ) (answer : Option Cite) → LooksUp s t part tag answer → All (Contains t.copied) (known s)
looked-over s t part tag answer h = All-from_members (Contains t.copied) (known s) (λ row m. ⊎_elim
    (λ l. All-contains (Contains t.copied) s.copied row h.kept l)
    (λ r. All-contains (Contains t.copied) s.published row h.brought r)
    (Contains-append_cases s.copied s.published row m))

module _ (part : List (Option ℕ)) (literals : List Literal) where
  pub given-within : ((a : Literal) → GivesChoice part a → Contains literals a) → (some : List Literal) → All (GivesChoice part) some → HasAll literals some
  given-within given some h = All-from_members (Contains literals) some (λ a m. given a (All-contains (GivesChoice part) some a h m))

  -- no copied row fits
  pub none-fits : (tag : ℕ) (s t : SharedState) → ((a : Literal) → Contains literals a → GivesChoice part a) → LooksUp s t part tag None → NoneFits tag t.copied literals
  none-fits tag s t gives looks = All-from_members (λ (row : KnownRow). HasAll literals row.content.lits → tag ≤ row.content.tag → ⊥) t.copied (λ row m has reaches.
      All-contains (λ (row : KnownRow). FitsPart part tag row.content → ⊥) t.copied row looks.finds m (record {
        within = All-from_members (GivesChoice part) row.content.lits (λ a n. gives a (All-contains (Contains literals) row.content.lits a has n));
        reaches = reaches;
      }))

-- ---- entries

module _ (instance : Instance) (level : ℕ) (literals : List Literal) (fuel : ℕ) (b c : BoundState) (s : SharedState) (seen : Tag) (tells : Tells b c seen.code) (log : LogState) where
  least-same : (best : Option KeptPlan) → IsLeastOffered best b.least → IsLeastOffered best c.least
  least-same best h = subst (IsLeastOffered best) (sym tells.least) h

  read-now : c.told ≤ floor b
  read-now = omega (arith, tells.told, tells.falls)

  pub moot-found : {E : Type 0} → seen.code ≤ level_code level → Searched {E = E} instance level literals (world fuel b s log) (world fuel c s log) (Ok (Moot seen))
  moot-found low = record {
    keeps = record {
      fuel = omega arith;
      copied = has-same s.copied;
      published = refl;
      takes = refl;
      refusals = omega arith;
      lines = gains-none log.lines;
      served = served-none instance log.lines;
      segments = refl;
      good = λ good. good;
      began = tells.began;
      tells = told-falls b c seen.code tells;
      lowers = offers-same b c seen.code tells;
      falls = tells-falls b c seen.code tells;
      least = least-same log.best;
      right = λ h. h;
      better = λ tag h. h;
    };
    few = omega arith;
    read = read-now;
    is = (sym tells.told, omega (arith, tells.told));
    refused_at = [];
    refused_count = refl;
    ticks = no-ticks instance level literals (world fuel b s log) (world fuel c s log) refl tells.least;
    offered = none-offered instance c.least;
    counted = none-counted instance log.lines log.lines;
  }

  module _ (low : level_code level < seen.code) (at : Tag) (at_is : at.code ≡ min seen.code (level_code (level + 1))) (part : List (Option ℕ)) (t : SharedState) where
    is-open : IsWanted level c
    is-open = omega (arith, tells.told)

    is-exact : at.code ≡ target_code level c.told
    is-exact = omega (arith, tells.told, at_is)

    is-target : IsTarget level c at.code
    is-target = omega (arith, tells-floor b c seen.code tells, is-exact)

    looked-keeps : (answer : Option Cite) → LooksUp s t part at.code answer → (left : ℕ) → left ≤ fuel → Keeps instance (world fuel b s log) (world left c t log)
    looked-keeps answer looks left less = record {
      fuel = less;
      copied = looks.kept;
      published = looks.published;
      takes = looks.takes;
      refusals = looks.refusals;
      lines = gains-none log.lines;
      served = served-none instance log.lines;
      segments = refl;
      good = λ good. log-more instance (known s) (known t) log.lines log.segments (rows-grow s t looks.kept looks.published) good;
      began = tells.began;
      tells = told-falls b c seen.code tells;
      lowers = offers-same b c seen.code tells;
      falls = tells-falls b c seen.code tells;
      least = least-same log.best;
      right = λ h. h;
      better = λ tag h. h;
    }

    pub row-found : {E : Type 0} → ((a : Literal) → GivesChoice part a → Contains literals a) → (cite : Cite) → LooksUp s t part at.code (Some cite) → IsCiteOf instance (Some cite) → Searched {E = E} instance level literals (world fuel b s log) (world fuel c t log) (Ok (Settled (Row cite.row) at))
    row-found given cite looks served = record {
      keeps = looked-keeps (Some cite) looks fuel (omega arith);
      few = omega arith;
      read = read-now;
      is = record {
        is_open = is-open;
        target = is-target;
        exact = λ e. is-exact;
        refuted = record {
          content = row_content cite.content;
          cited = looks.finds.0;
          reaches = looks.finds.1.reaches;
          contained = given-within part literals given (row_content cite.content).lits looks.finds.1.within;
          served = served;
          own = tt;
        };
        last = (refl, refl);
      };
      refused_at = [];
      refused_count = refl;
      ticks = no-ticks instance level literals (world fuel b s log) (world fuel c t log) refl tells.least;
      offered = none-offered instance c.least;
      counted = none-counted instance log.lines log.lines;
    }

    module _ (looks : LooksUp s t part at.code None) (gives : (a : Literal) → Contains literals a → GivesChoice part a) where
      rowless-here : NoneFits at.code t.copied literals
      rowless-here = none-fits part literals at.code s t gives looks

      pub dead-found : {E : Type 0} → Dead instance (triple_from at.code) literals → Searched {E = E} instance level literals (world fuel b s log) (world fuel c t log) (Ok (FoundDead at))
      dead-found dead = record {
        keeps = looked-keeps None looks fuel (omega arith);
        few = omega arith;
        read = read-now;
        is = record { is_open = is-open; target = is-target; exact = is-exact; rowless = rowless-here; dead = dead; fuel = refl; lines = refl };
        refused_at = [];
        refused_count = refl;
        ticks = no-ticks instance level literals (world fuel b s log) (world fuel c t log) refl tells.least;
        offered = none-offered instance c.least;
        counted = none-counted instance log.lines log.lines;
      }

      module _ (valid : IsInstance instance) (within : level ≤ levels_of instance) (alive : Dead instance (triple_from at.code) literals → ⊥) where
        comes-after : (left : ℕ) → ComesAfter (world fuel b s log) (stop_at (world left c t log) literals)
        comes-after left = record { told = read-now; copied = looked-over s t part at.code None looks }

        undecided : (left : ℕ) → IsUndecided instance level (stop_at (world left c t log) literals)
        undecided left = record {
          is_open = is-open;
          rowless = subst (λ n. NoneFits n t.copied literals) is-exact rowless-here;
          alive = subst (λ n. Dead instance (triple_from n) literals → ⊥) is-exact alive;
        }

        pub spent-found : {E : Type 0} → IsPrefix instance literals → (left : ℕ) → fuel ≡ 0 → left ≡ 0 → Searched {E = E} instance level literals (world fuel b s log) (world left c t log) (Ok Spent)
        spent-found prefix left none still = record {
          keeps = looked-keeps None looks left (omega arith);
          few = omega arith;
          read = read-now;
          is = (is-open, still);
          refused_at = literals ∷ [];
          refused_count = refl;
          ticks = one-refused instance level literals (world fuel b s log) (world left c t log) prefix (alive-at instance level at literals valid within (omega (arith, at_is)) alive)
              (comes-after left) (undecided left) (omega arith) tells.least;
          offered = none-offered instance c.least;
          counted = none-counted instance log.lines log.lines;
        }

        pub is-ticked : (left : ℕ) → fuel ≡ left + 1 → IsTicked instance level literals (world fuel b s log) (world left c t log) at
        is-ticked left less = record {
          keeps = looked-keeps None looks left (omega arith);
          least = tells.least;
          took = less;
          log = refl;
          after = comes-after left;
          undecided = undecided left;
          exact = is-exact;
          target = is-target;
          own = tag-small instance level at within (omega (arith, at_is));
        }
