-- What is found of some literals when a line is added.
use Rattle.std.proofs.Common.{◌≡◌, ◌⊎◌, ℕ, false, ◌+◌, ◌<◌, ◌≤◌, List, [], ◌∷◌, ◌++◌, length, All, Contains, Some, Result, Ok, Err, refl, sym, ap, subst, ◌∙◌, inl, inr, ⊎_elim, arith, append-nil}
use Rattle.std.specs.List.{slice_get}
use Rattle.std.proofs.lemmas.List.{length-append}
use Rattle.std.proofs.lemmas.List.Elements.{All-nil, Contains-append_left}
use Rattle.fapp_model.specs.declared.instance.Instance.{Instance}
use Rattle.fapp_model.specs.declared.literal.Literal.{Literal}
use Rattle.fapp_model.specs.declared.tag.Tag.{Tag}
use Rattle.fapp_model.specs.Assignments.{count_at}
use Rattle.fapp_model.specs.Costs.{cost}
use Rattle.fapp_model.specs.InstanceTags.{IsTagFor}
use Rattle.fapp_model.specs.Instances.{IsInstance}
use Rattle.fapp_model.specs.Levels.{levels_of}
use Rattle.fapp_model.specs.Tags.{IsTagOf, code_of, triple_from}
use Rattle.fapp_model.specs.search.Dead.{Dead}
use Rattle.fapp_model.specs.search.Implied.{Implied}
use Rattle.fapp_model.specs.search.Jobs.{target}
use Rattle.fapp_model.specs.search.Partials.{HasAll, IsPartial, names}
use Rattle.fapp_model.specs.search.Prefixes.{IsPrefix}
use Rattle.fapp_model.specs.search.WorkOrder.{work_order}
use Rattle.fapp_model.proofs.Members.{All-from_members}
use Rattle.fapp_model.proofs.WorkOrders.{order-length}
use Rattle.dead_laws.proofs.DeadImplied.{dead-implied}
use Rattle.dead_laws.proofs.ImpliedLemmas.{Implied-branch, Implied-more}
use Rattle.search_log.specs.declared.line.ChoiceRef.{ChoiceRef}
use Rattle.search_log.specs.declared.line.LogLine.{LogLine}
use Rattle.search_log.specs.declared.line.Ref.TheVariants.{Own}
use Rattle.search_log.specs.Contents.{content_of}
use Rattle.search_log.specs.GoodLines.{IsGoodLine}
use Rattle.search_log.specs.Segments.{IsGoodLog}
use Rattle.search_log.proofs.Segmenting.{log-push}
use Rattle.search_log.specs.Bounds.{BoundState, floor}
use Rattle.search_log.specs.LogStates.{LogState}
use Rattle.search_log.specs.Logs.{log_with_line}
use Rattle.search_log.specs.Shares.{IsServedContent, SharedState, known}
use Rattle.settle_laws.specs.declared.found.Found.{Found}
use Rattle.settle_laws.specs.declared.found.Found.TheVariants.{Settled}
use Rattle.settle_laws.specs.declared.node.Node.{Node}
use Rattle.search_log.specs.declared.shared.Cite.{Cite}
use Rattle.settle_laws.specs.Explained.{AreContents, Explains}
use Rattle.settle_laws.specs.Founds.{IsWanted, IsRefuted, IsTarget, Searched}
use Rattle.settle_laws.specs.Lines.{AddsLine, AreSorted, Concludes, IsConcluded, IsLined, OffersPlan}
use Rattle.settle_laws.specs.Stops.{IsWholePrefix, stop_at}
use Rattle.settle_laws.specs.Ticked.{IsTicked}
use Rattle.settle_laws.specs.Ticks.{OffersCost, Ticks, TicksBelow}
use Rattle.settle_laws.specs.Trying.{AreTriedChoices, IsTriedChild, Trying}
use Rattle.settle_laws.specs.Worlds.{IsKeptRight, IsLeastOffered, Keeps, KeepsAtMost, World, world}
use Rattle.search_log.specs.GoodLogs.{IsBare}
use Rattle.settle_laws.proofs.Adding.{gains-none, gains-one, gains-trans, has-same, has-trans, served-one, served-trans}
use Rattle.settle_laws.proofs.FullPrefixes.{cost-low, cost-own, same-plan}
use Rattle.settle_laws.proofs.Keeping.{keeps-same, keeps-trans}
use Rattle.settle_laws.proofs.LineParts.{branch-good, count-good, names-same}
use Rattle.settle_laws.proofs.NextPaths.{next-apart, next-short, next-small, prefix-short}
use Rattle.settle_laws.proofs.Offering.{kept-lines, offered-cost, offered-keeps, offered-least, offers-floor}
use Rattle.settle_laws.proofs.StopJoin.{counted-later, one-counted, one-offered, one-stop}
use Rattle.settle_laws.proofs.TagCodes.{alive-at, tag-small}
use Rattle.settle_laws.proofs.TickJoin.{first-tick, itself-before, one-tick, ticks-later}
use Rattle.settle_laws.proofs.Tried.{tried-grow}
use Rattle.settle_laws.proofs.Fewer.{tried-fewer}

get-last : {X : Type 0} (xs : List X) (y : X) → slice_get (xs ++ y ∷ []) (length xs) ≡ Some y
get-last [] y = refl
get-last (x ∷ xs) y = get-last xs y

copied-known : (shared : SharedState) → All (Contains (known shared)) shared.copied
copied-known shared = All-from_members (Contains (known shared)) shared.copied (λ row m. Contains-append_left shared.copied shared.published row m)

-- ---- the world after a line

-- all that is kept but the number of lines, which a tick pays for
module _ (instance : Instance) (literals : List Literal) (old now : World) (keeps : Keeps instance old now) (line : LogLine) (log : LogState) (added : log ≡ log_with_line now.log line) where
  pub line-adds : length log.lines ≡ length now.log.lines + 1
  line-adds = ap (λ (l : LogState). length l.lines) added ∙ length-append now.log.lines (line ∷ [])

  line-is : slice_get log.lines (length now.log.lines) ≡ Some line
  line-is = subst (λ (l : LogState). slice_get l.lines (length now.log.lines) ≡ Some line) (sym added) (get-last now.log.lines line)

  line-good : IsGoodLine instance (known now.shared) now.log.lines line → IsGoodLog instance (known now.shared) now.log.lines now.log.segments → IsGoodLog instance (known now.shared) log.lines log.segments
  line-good good_line good = subst (λ (l : LogState). IsGoodLog instance (known now.shared) l.lines l.segments) (sym added)
      (log-push instance (known now.shared) now.log.lines now.log.segments line good good_line)

  pub line-keeps : IsBare line → IsGoodLine instance (known now.shared) now.log.lines line → IsServedContent instance (content_of line) → IsTagFor instance line.tag → Keeps instance old (world now.fuel now.bound now.shared log)
  line-keeps plain good_line served own = record {
    fuel = keeps.fuel;
    copied = keeps.copied;
    published = keeps.published;
    takes = keeps.takes;
    refusals = keeps.refusals;
    lines = gains-trans old.log.lines now.log.lines log.lines keeps.lines (gains-one now.log.lines log.lines line (ap (λ (l : LogState). l.lines) added) plain);
    served = served-trans instance old.log.lines now.log.lines log.lines (gains-one now.log.lines log.lines line (ap (λ (l : LogState). l.lines) added) plain) keeps.served
        (served-one instance now.log.lines log.lines line (ap (λ (l : LogState). l.lines) added) served own);
    segments = ap (λ (l : LogState). l.segments) added ∙ keeps.segments;
    good = λ good. line-good good_line (keeps.good good);
    began = keeps.began;
    tells = keeps.tells;
    lowers = keeps.lowers;
    falls = keeps.falls;
    least = λ h. subst (λ (l : LogState). IsLeastOffered l.best now.bound.least) (sym added) (keeps.least h);
    right = λ h. subst (λ (l : LogState). IsKeptRight instance l.best) (sym added) (keeps.right h);
    better = λ tag h. subst (λ (l : LogState). KeepsAtMost l.best tag) (sym added) (keeps.better tag h);
  }

  -- and the ticks before it
  abbrev pub line-ticks : (level : ℕ) (refused : List (List Literal)) → Ticks instance level literals old now refused → Ticks instance level literals old (world now.fuel now.bound now.shared log) refused
  line-ticks level refused t = ticks-later instance level literals old now (world now.fuel now.bound now.shared log) refused refl refl refl
      (λ tag h. subst (λ (l : LogState). KeepsAtMost l.best tag) (sym added) h) t

  pub line-refutes : (fewer : List Literal) → HasAll literals fewer → AreSorted instance fewer line.lits → Implied instance (triple_from line.tag.code) line.lits → IsTagFor instance line.tag → (tag : ℕ) → tag ≤ line.tag.code → IsRefuted instance now.shared.copied log.lines literals (Own (length now.log.lines)) tag
  line-refutes fewer within sorted implied own tag low = record {
    content = content_of line;
    cited = (line, line-is, refl);
    reaches = low;
    contained = has-trans line.lits fewer literals sorted.only within;
    served = record { lits = sorted.are; implied = implied };
    own = own;
  }

  pub line-last : (length old.log.lines ≤ length now.log.lines) × (length now.log.lines + 1 ≡ length log.lines)
  line-last = (omega (arith, ap length keeps.lines.are, length-append old.log.lines keeps.lines.more), omega (arith, line-adds))

-- a tick fell at the prefix itself
begun-one : (instance : Instance) (level : ℕ) (prefix : List Literal) (path index : ℕ) (old now : World) (t : TicksBelow instance level prefix path index old now) → 0 < length t.ticks.tried
begun-one instance level prefix path index old now t = let l = t.begins.1 in omega (arith, ap length (t.ticks.asked_is ∙ append-nil t.ticks.tried))

-- ---- a Branch line after all choices were tried

-- what is so while the choices of some further path are tried, be it the next one or not
pub record TryingAny (instance : Instance) (level : ℕ) (literals : List Literal) (old now : World) (node : Node) : Type 0 where
  pub small : node.path < length instance.paths
  pub free : names literals node.path ≡ false
  pub counted : node.count ≡ count_at instance node.path
  pub within : node.choice ≤ node.count
  pub read : now.bound.told ≤ floor old.bound
  pub keeps : Keeps instance old now
  pub fewer : length now.log.lines + now.fuel + 1 ≤ length old.log.lines + old.fuel
  pub is_open : IsWanted level now.bound
  pub target : IsTarget level now.bound node.tag.code
  pub choices : AreTriedChoices instance now.shared.copied now.log.lines literals node.tag.code node.path node.choice node.refs
  pub ticks : TicksBelow instance level literals node.path node.choice old now

module _ (instance : Instance) (valid : IsInstance instance) (level : ℕ) (limit : level ≤ levels_of instance) (literals : List Literal) (old now : World) (node : Node) (trying : TryingAny instance level literals old now node) (done : node.choice ≡ node.count) (log : LogState) (cites : List Cite) (contents : AreContents now.shared.copied cites) (fewer : List Literal) (why : Explains instance cites now.log.lines literals fewer node) where
  node-own : IsTagFor instance node.tag
  node-own = tag-small instance level node.tag limit (omega (arith, trying.target))

  apart : names fewer node.path ≡ false
  apart = names-same literals fewer node.path why.within trying.free

  module _ (found : Found) (adds : AddsLine instance fewer node.tag (Some node.path) node.refs now.log log found) where
    tag-same : adds.line.tag.code ≡ node.tag.code
    tag-same = ap (λ (t : Tag). t.code) adds.tag_is

    all-tried : AreTriedChoices instance now.shared.copied now.log.lines fewer node.tag.code node.path (count_at instance node.path) node.refs
    all-tried = subst (λ n. AreTriedChoices instance now.shared.copied now.log.lines fewer node.tag.code node.path n node.refs) (done ∙ trying.counted)
        (tried-fewer instance valid literals fewer why.partial node.path node.choice trying.small (omega (arith, trying.within, trying.counted)) apart
        now.shared.copied cites contents now.log.lines node.tag.code node-own node.refs trying.choices why.stay (λ i l. why.closed i (omega (arith, l, done))))

    by-known : AreTriedChoices instance (known now.shared) now.log.lines fewer node.tag.code node.path (count_at instance node.path) node.refs
    by-known = tried-grow instance valid fewer node.path now.shared.copied (known now.shared) now.log.lines now.log.lines (copied-known now.shared) (gains-none now.log.lines)
        node.tag.code node.tag.code node-own node-own (omega arith) (count_at instance node.path) node.refs all-tried

    of-line : AreTriedChoices instance (known now.shared) now.log.lines fewer adds.line.tag.code node.path (count_at instance node.path) adds.line.refs
    of-line = subst (λ (t : Tag). AreTriedChoices instance (known now.shared) now.log.lines fewer t.code node.path (count_at instance node.path) adds.line.refs) (sym adds.tag_is)
        (subst (λ refs. AreTriedChoices instance (known now.shared) now.log.lines fewer node.tag.code node.path (count_at instance node.path) refs) (sym adds.refs_are) by-known)

    plain : IsBare adds.line
    plain none = let e = adds.path_is in cc

    good : IsGoodLine instance (known now.shared) now.log.lines adds.line
    good = branch-good instance valid fewer why.partial (known now.shared) now.log.lines adds.line adds.sorted
        (subst (λ (t : Tag). IsTagFor instance t) (sym adds.tag_is) node-own)
        node.path trying.small apart adds.path_is of-line

    implied : Implied instance (triple_from adds.line.tag.code) adds.line.lits
    implied = Implied-more instance (triple_from adds.line.tag.code) fewer adds.line.lits adds.sorted.has
        (Implied-branch instance (triple_from adds.line.tag.code) fewer node.path trying.small of-line.implied)

    branch-by : {E : Type 0} → Searched {E = E} instance level literals old (world now.fuel now.bound now.shared log) (Ok (Settled (Own (length now.log.lines)) node.tag))
    branch-by = record {
      keeps = line-keeps instance literals old now trying.keeps adds.line log adds.added plain good (record { lits = adds.sorted.are; implied = implied }) (subst (λ (t : Tag). IsTagFor instance t) (sym adds.tag_is) node-own);
      few = omega (arith, trying.fewer, line-adds instance literals old now trying.keeps adds.line log adds.added);
      read = trying.read;
      is = record {
        is_open = trying.is_open;
        target = trying.target;
        exact = λ same. absurd (omega (arith, trying.ticks.ticks.taken, begun-one instance level literals node.path node.choice old now trying.ticks));
        refuted = line-refutes instance literals old now trying.keeps adds.line log adds.added fewer why.within adds.sorted implied (subst (λ (t : Tag). IsTagFor instance t) (sym adds.tag_is) node-own) node.tag.code (omega (arith, tag-same));
        last = line-last instance literals old now trying.keeps adds.line log adds.added;
      };
      refused_at = [];
      refused_count = refl;
      ticks = line-ticks instance literals old now trying.keeps adds.line log adds.added level [] trying.ticks.ticks;
      offered = trying.ticks.offered;
      counted = counted-later instance trying.ticks.ticks.tried old.log.lines now.log.lines log.lines (gains-one now.log.lines log.lines adds.line (ap (λ (l : LogState). l.lines) adds.added) plain) trying.ticks.counted;
    }

    branch-found : {E : Type 0} → Searched {E = E} instance level literals old (world now.fuel now.bound now.shared log) (Ok found)
    branch-found {E} = subst (λ f. Searched {E = E} instance level literals old (world now.fuel now.bound now.shared log) (Ok f)) (sym adds.found_is) branch-by

  pub any-branch-searched : {E : Type 0} → (result : Result Found E) → IsLined instance fewer node.tag (Some node.path) node.refs now.log log result → Searched instance level literals old (world now.fuel now.bound now.shared log) result
  any-branch-searched (Ok found) adds = branch-found found adds
  any-branch-searched (Err e) same = subst (λ l. Searched instance level literals old (world now.fuel now.bound now.shared l) (Err e)) (sym same) (record {
    keeps = trying.keeps;
    few = omega (arith, trying.fewer);
    read = trying.read;
    is = tt;
    refused_at = [];
    refused_count = refl;
    ticks = trying.ticks.ticks;
    offered = tt;
    counted = tt;
  })

-- of the next path
pub trying-next : (instance : Instance) (level : ℕ) (literals : List Literal) → IsPrefix instance literals → (old now : World) (node : Node) → Trying instance level literals old now node → TryingAny instance level literals old now node
trying-next instance level literals prefix old now node trying = record {
  small = next-small instance literals prefix node.path trying.next;
  free = next-apart instance literals prefix node.path trying.next;
  counted = trying.counted;
  within = trying.within;
  read = trying.read;
  keeps = trying.keeps;
  fewer = trying.fewer;
  is_open = trying.is_open;
  target = trying.target;
  choices = trying.choices;
  ticks = trying.ticks;
}

module _ (instance : Instance) (valid : IsInstance instance) (level : ℕ) (limit : level ≤ levels_of instance) (literals : List Literal) (prefix : IsPrefix instance literals) (partial : IsPartial instance literals) (old now : World) (node : Node) (trying : Trying instance level literals old now node) (done : node.choice ≡ node.count) (log : LogState) (cites : List Cite) (contents : AreContents now.shared.copied cites) (fewer : List Literal) (why : Explains instance cites now.log.lines literals fewer node) where
  pub branch-searched : {E : Type 0} → (result : Result Found E) → IsLined instance fewer node.tag (Some node.path) node.refs now.log log result → Searched instance level literals old (world now.fuel now.bound now.shared log) result
  branch-searched result lined = any-branch-searched instance valid level limit literals old now node (trying-next instance level literals prefix old now node trying) done log cites contents fewer why result lined

-- ---- after a tick

-- the target is at most what was told, and they are not dead at it
pub ticked-open : (instance : Instance) (level : ℕ) (literals : List Literal) (old now : World) (tag : Tag) → IsTicked instance level literals old now tag → (tag.code ≤ now.bound.told) × (Dead instance (triple_from tag.code) literals → ⊥)
ticked-open instance level literals old now tag ticked = (omega (arith, ticked.exact), subst (λ n. Dead instance (triple_from n) literals → ⊥) (sym ticked.exact) ticked.undecided.alive)

module _ (instance : Instance) (valid : IsInstance instance) (level : ℕ) (within : level ≤ levels_of instance) (literals : List Literal) (prefix : IsPrefix instance literals)
    (old now : World) (tag : Tag) (ticked : IsTicked instance level literals old now tag) where
  still-judged : Dead instance (triple_from tag.code) literals → ⊥
  still-judged = (ticked-open instance level literals old now tag ticked).1

  still-alive : Dead instance (target level) literals → ⊥
  still-alive = alive-at instance level tag literals valid within (omega (arith, ticked.exact)) still-judged

  -- the tick, and what was offered since
  abbrev tick-then : (after : World) → after.fuel ≡ now.fuel → after.bound.told ≤ now.bound.told → All (Contains after.shared.copied) now.shared.copied → (after.bound.least ≡ old.bound.least) ⊎ OffersCost instance (literals ∷ []) after → Ticks instance level literals old after []
  tick-then after same told copied offers = one-tick instance level literals old after prefix still-alive
      (one-stop instance level old after (stop_at now literals) ticked.undecided ticked.after (record { told = told; copied = copied })) (omega (arith, ticked.took)) offers

  few-lines : length now.log.lines ≡ length old.log.lines
  few-lines = ap (λ (l : LogState). length l.lines) ticked.log

  -- the search ends there for want of memory
  pub tick-ends : {E : Type 0} → (after : World) → Keeps instance now after → after.fuel ≡ now.fuel → after.log.lines ≡ now.log.lines → (after.bound.least ≡ old.bound.least) ⊎ OffersCost instance (literals ∷ []) after → (e : E) → Searched instance level literals old after (Err e)
  tick-ends after keeps same lines offers e = record {
    keeps = keeps-trans instance old now after ticked.keeps keeps;
    few = omega (arith, ticked.took, few-lines, ap length lines);
    read = omega (arith, ticked.after.told, keeps.tells);
    is = tt;
    refused_at = [];
    refused_count = refl;
    ticks = tick-then after same keeps.tells keeps.copied offers;
    offered = tt;
    counted = tt;
  }

  -- the choices of the next path are tried
  pub tick-starts : (node : Node) → slice_get (work_order instance) (length literals) ≡ Some node.path → node.count ≡ count_at instance node.path → node.tag ≡ tag → node.choice ≡ 0 → node.refs ≡ [] → Trying instance level literals old now node
  tick-starts node next counted tag_is choice_is none = record {
    next = next;
    counted = counted;
    within = omega arith;
    read = ticked.after.told;
    keeps = ticked.keeps;
    fewer = omega (arith, ticked.took, few-lines);
    is_open = ticked.undecided.is_open;
    target = subst (λ (t : Tag). IsTarget level now.bound t.code) (sym tag_is) ticked.target;
    choices = subst (λ n. AreTriedChoices instance now.shared.copied now.log.lines literals node.tag.code node.path n node.refs) (sym choice_is)
        (subst (λ refs. AreTriedChoices instance now.shared.copied now.log.lines literals node.tag.code node.path 0 refs) (sym none) (record {
          ascending = λ i j d less small. absurd (omega arith);
          below = All-nil (λ (ref : ChoiceRef). ref.choice < 0);
          children = All-nil (IsTriedChild instance now.shared.copied now.log.lines literals node.tag.code node.path);
          settled = λ i l. absurd (omega arith);
          implied = λ i l. absurd (omega arith);
        }));
    ticks = subst (λ n. TicksBelow instance level literals node.path n old now) (sym choice_is)
        (first-tick instance level literals old now prefix still-alive (one-stop instance level old now (stop_at now literals) ticked.undecided ticked.after (itself-before now literals))
        (one-offered instance literals now.bound.least (λ plan whole. absurd (omega (arith, whole.full, next-short instance literals prefix node.path next))))
        (one-counted instance literals old.log.lines now.log.lines (λ plan whole. absurd (omega (arith, whole.full, next-short instance literals prefix node.path next)))) node.path ticked.took ticked.least);
  }

  -- a full prefix
  module _ (partial : IsPartial instance literals) (full : length (work_order instance) ≤ length literals) (after : BoundState) (log : LogState) where
    -- what was offered is the cost of the assignment that the literals are
    offers-since : (after : BoundState) (kept : LogState) → OffersPlan instance literals now.bound after now.log kept → (after.least ≡ old.bound.least) ⊎ OffersCost instance (literals ∷ []) (world now.fuel after now.shared kept)
    offers-since after kept o = ⊎_elim
        (λ same. inl (same ∙ ticked.least))
        (λ cost. inr cost)
        (offered-cost instance valid literals now.fuel now.bound after now.shared now.log kept o (omega (arith, prefix-short instance literals prefix, order-length instance)))

    module _ (found : Found) (c : Concludes instance literals now.bound after now.log log found) where
      to-kept : Keeps instance old (world now.fuel after now.shared c.kept)
      to-kept = keeps-trans instance old now (world now.fuel after now.shared c.kept) ticked.keeps
          (offered-keeps instance valid literals now.fuel now.bound after now.shared now.log c.kept c.offered)

      kept-few : length c.kept.lines ≡ length now.log.lines
      kept-few = ap length (kept-lines instance valid literals now.fuel now.bound after now.shared now.log c.kept c.offered)

      code-is : c.adds.line.tag.code ≡ code_of (cost instance c.offered.plan)
      code-is = ap (λ (t : Tag). t.code) c.adds.tag_is ∙ c.tag_is

      full-own : IsTagFor instance c.adds.line.tag
      full-own = subst (λ n. IsTagOf instance (triple_from n)) (sym code-is) (cost-own instance c.offered.plan valid)

      full-dead : Dead instance (triple_from c.adds.line.tag.code) c.fewer
      full-dead = subst (λ (t : Tag). Dead instance (triple_from t.code) c.fewer) (sym c.adds.tag_is) c.part.dead

      full-good : IsGoodLine instance (known now.shared) c.kept.lines c.adds.line
      full-good = count-good instance valid c.fewer c.part.partial (known now.shared) c.kept.lines c.adds.line c.adds.sorted full-own c.adds.path_is c.adds.refs_are full-dead

      full-implied : Implied instance (triple_from c.adds.line.tag.code) c.adds.line.lits
      full-implied = Implied-more instance (triple_from c.adds.line.tag.code) c.fewer c.adds.line.lits c.adds.sorted.has
          (dead-implied instance (triple_from c.adds.line.tag.code) c.fewer valid full-own c.part.partial full-dead)

      same-cost : (plan : List ℕ) → IsWholePrefix instance literals plan → code_of (cost instance c.offered.plan) ≡ code_of (cost instance plan)
      same-cost plan whole = ap (λ p. code_of (cost instance p)) (same-plan instance valid literals prefix full c.offered.plan plan c.offered.feasible.assignment whole.feasible.assignment c.offered.extends whole.extends)

      full-by : {E : Type 0} → Searched {E = E} instance level literals old (world now.fuel after now.shared log) (Ok (Settled (Own (length c.kept.lines)) c.tag))
      full-by = record {
        keeps = line-keeps instance literals old (world now.fuel after now.shared c.kept) to-kept c.adds.line log c.adds.added (λ none. c.adds.refs_are) full-good (record { lits = c.adds.sorted.are; implied = full-implied }) full-own;
        read = omega (arith, c.offered.offers.told, ticked.after.told);
        few = omega (arith, kept-few, ticked.took, few-lines, line-adds instance literals old (world now.fuel after now.shared c.kept) to-kept c.adds.line log c.adds.added);
        is = record {
          is_open = omega (arith, c.offered.offers.told, ticked.undecided.is_open);
          target = omega (
            arith,
            c.tag_is,
            ticked.target,
            ticked.exact,
            offers-floor now.bound after (code_of (cost instance c.offered.plan)) c.offered.offers,
            cost-low instance valid literals prefix full c.offered.plan c.offered.feasible.assignment c.offered.extends tag.code ticked.own still-judged,
          );
          exact = λ same. absurd (omega (arith, ticked.took));
          refuted = line-refutes instance literals old (world now.fuel after now.shared c.kept) to-kept c.adds.line log c.adds.added c.fewer c.part.within c.adds.sorted full-implied full-own c.tag.code (omega (arith, ap (λ (t : Tag). t.code) c.adds.tag_is));
          last = line-last instance literals old (world now.fuel after now.shared c.kept) to-kept c.adds.line log c.adds.added;
        };
        refused_at = [];
        refused_count = refl;
        ticks = line-ticks instance literals old (world now.fuel after now.shared c.kept) to-kept c.adds.line log c.adds.added level []
            (tick-then (world now.fuel after now.shared c.kept) refl (omega (arith, c.offered.offers.told)) (has-same now.shared.copied) (offers-since after c.kept c.offered));
        offered = one-offered instance literals after.least (λ plan whole. offered-least now.bound after (code_of (cost instance c.offered.plan)) (code_of (cost instance plan)) c.offered.offers
            (omega (arith, same-cost plan whole)));
        counted = one-counted instance literals old.log.lines log.lines (λ plan whole. record {
          place = length c.kept.lines;
          line = c.adds.line;
          gained = omega (arith, kept-few, few-lines);
          there = line-is instance literals old (world now.fuel after now.shared c.kept) to-kept c.adds.line log c.adds.added;
          count = c.adds.path_is;
          tag = omega (arith, code-is, same-cost plan whole);
          within = has-trans c.adds.line.lits c.fewer literals c.adds.sorted.only c.part.within;
        });
      }

      full-found : {E : Type 0} → Searched {E = E} instance level literals old (world now.fuel after now.shared log) (Ok found)
      full-found {E} = subst (λ f. Searched {E = E} instance level literals old (world now.fuel after now.shared log) (Ok f)) (sym c.adds.found_is) full-by

    pub full-searched : {E : Type 0} → (result : Result Found E) → IsConcluded instance literals now.bound after now.log log result → Searched instance level literals old (world now.fuel after now.shared log) result
    full-searched (Ok found) c = full-found found c
    full-searched (Err e) (inl same) = tick-ends (world now.fuel after now.shared log)
        (subst (λ b. Keeps instance now (world now.fuel b now.shared log)) (sym same.0) (subst (λ l. Keeps instance now (world now.fuel now.bound now.shared l)) (sym same.1) (keeps-same instance now)))
        refl (ap (λ (l : LogState). l.lines) same.1) (inl (ap (λ (b : BoundState). b.least) same.0 ∙ ticked.least)) e
    full-searched (Err e) (inr offered) = tick-ends (world now.fuel after now.shared log) (offered-keeps instance valid literals now.fuel now.bound after now.shared now.log log offered) refl (kept-lines instance valid literals now.fuel now.bound after now.shared now.log log offered) (offers-since after log offered) e
