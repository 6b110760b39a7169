-- A line on a path that the search would come to later.
use Rattle.std.proofs.Common.{◌≡◌, ℕ, ◌<◌, ◌≤◌, false, List, [], ◌∷◌, length, All, AllPairs, Contains, Some, Result, refl, sym, ap, subst, ◌∙◌, inl, inr, arith}
use Rattle.std.specs.List.{list_any}
use Rattle.std.proofs.lemmas.List.Elements.{All-cons, All-nil}
use Rattle.fapp_model.specs.declared.instance.Instance.{Instance}
use Rattle.fapp_model.specs.declared.literal.Literal.{Literal}
use Rattle.fapp_model.specs.declared.tag.Tag.{Tag}
use Rattle.fapp_model.specs.Assignments.{count_at}
use Rattle.fapp_model.specs.InstanceTags.{IsTagFor}
use Rattle.fapp_model.specs.Instances.{IsInstance}
use Rattle.fapp_model.specs.Levels.{levels_of}
use Rattle.fapp_model.specs.Tags.{triple_from}
use Rattle.fapp_model.specs.search.Dead.{Dead}
use Rattle.fapp_model.specs.search.Implied.{Implied}
use Rattle.fapp_model.specs.search.Jobs.{target}
use Rattle.fapp_model.specs.search.Partials.{IsPartial, literal, names}
use Rattle.fapp_model.specs.search.Prefixes.{IsPrefix}
use Rattle.fapp_model.proofs.Members.{at_front}
use Rattle.dead_laws.proofs.DeadImplied.{dead-implied}
use Rattle.search_log.specs.declared.line.ChoiceRef.{ChoiceRef}
use Rattle.search_log.specs.Contents.{Content, known_row}
use Rattle.search_log.specs.GoodLines.{IsSettled}
use Rattle.search_log.specs.LogStates.{LogState}
use Rattle.settle_laws.specs.declared.found.Found.{Found}
use Rattle.settle_laws.specs.declared.node.Node.{Node}
use Rattle.search_log.specs.declared.shared.Cite.{Cite}
use Rattle.search_log.specs.Shares.{row_content}
use Rattle.settle_laws.specs.Explained.{Explains, IsClosedBy, StaysFor}
use Rattle.settle_laws.specs.Founds.{IsTarget, Searched}
use Rattle.settle_laws.specs.Lines.{IsLined}
use Rattle.settle_laws.specs.Stops.{stop_at}
use Rattle.settle_laws.specs.Ticked.{IsTicked}
use Rattle.settle_laws.specs.Ticks.{IsEarlier, TicksBelow}
use Rattle.settle_laws.specs.Trying.{AreTriedChoices, IsTriedChild}
use Rattle.settle_laws.specs.Worlds.{World, world}
use Rattle.settle_laws.proofs.Ends.{TryingAny, any-branch-searched, ticked-open}
use Rattle.dead_laws.proofs.OneMoreLiteral.{with-literal}
use Rattle.settle_laws.proofs.StopJoin.{one-counted, one-offered, one-stop}
use Rattle.settle_laws.proofs.TagCodes.{alive-at}
use Rattle.settle_laws.proofs.TickJoin.{itself-before, one-tick}

-- After a tick, a node of a path that the literals don't name, each of whose choices is dead with them, is as one whose choices
-- were all tried.
module _ (instance : Instance) (valid : IsInstance instance) (level : ℕ) (within : level ≤ levels_of instance) (literals : List Literal) (prefix : IsPrefix instance literals) (partial : IsPartial instance literals)
    (old now : World) (tag : Tag) (ticked : IsTicked instance level literals old now tag) (short : length literals < length instance.paths)
    (node : Node) (small : node.path < length instance.paths) (free : names literals node.path ≡ false) (counted : node.count ≡ count_at instance node.path)
    (tag_is : node.tag ≡ tag) (done : node.choice ≡ node.count) (bare : node.refs ≡ []) (closed : IsClosedBy instance literals node) where
  node-own : IsTagFor instance node.tag
  node-own = subst (λ (t : Tag). IsTagFor instance t) (sym tag_is) ticked.own

  dead-choice : (i : ℕ) → IsSettled instance node.tag.code literals node.path node.refs i → Dead instance (triple_from node.tag.code) (literal node.path i ∷ literals)
  dead-choice i (inl listed) = let none = subst (λ (refs : List ChoiceRef). IsSettled instance node.tag.code literals node.path refs i) bare (inl listed) in unlisted none
    where
      unlisted : IsSettled instance node.tag.code literals node.path [] i → Dead instance (triple_from node.tag.code) (literal node.path i ∷ literals)
      unlisted (inl none) = cc
      unlisted (inr dead) = dead
  dead-choice i (inr dead) = dead

  all-dead : AreTriedChoices instance now.shared.copied now.log.lines literals node.tag.code node.path node.choice node.refs
  all-dead = record {
    ascending = subst (λ (refs : List ChoiceRef). AllPairs (λ (a b : ChoiceRef). a.choice < b.choice) refs) (sym bare) (λ i j d less small. absurd (omega arith));
    below = subst (λ (refs : List ChoiceRef). All (λ (ref : ChoiceRef). ref.choice < node.choice) refs) (sym bare) (All-nil (λ (ref : ChoiceRef). ref.choice < node.choice));
    children = subst (λ (refs : List ChoiceRef). All (IsTriedChild instance now.shared.copied now.log.lines literals node.tag.code node.path) refs) (sym bare) (All-nil (IsTriedChild instance now.shared.copied now.log.lines literals node.tag.code node.path));
    settled = λ i l. closed i (omega (arith, l, done));
    implied = λ i l. dead-implied instance (triple_from node.tag.code) (literal node.path i ∷ literals) valid node-own
        (with-literal instance literals node.path i partial small (omega (arith, l, done, counted)) free) (dead-choice i (closed i (omega (arith, l, done))));
  }

  still-alive : Dead instance (target level) literals → ⊥
  still-alive = alive-at instance level tag literals valid within (omega (arith, ticked.exact)) (ticked-open instance level literals old now tag ticked).1

  tick-alone : TicksBelow instance level literals node.path node.choice old now
  tick-alone = record {
    ticks = one-tick instance level literals old now prefix still-alive (one-stop instance level old now (stop_at now literals) ticked.undecided ticked.after (itself-before now literals)) ticked.took (inl ticked.least);
    begins = at_front literals [];
    each = All-cons (IsEarlier literals node.path node.choice) literals [] (inl refl) (All-nil (IsEarlier literals node.path node.choice));
    offered = one-offered instance literals now.bound.least (λ plan whole. absurd (omega (arith, whole.full, short)));
    counted = one-counted instance literals old.log.lines now.log.lines (λ plan whole. absurd (omega (arith, whole.full, short)));
  }

  as-tried : TryingAny instance level literals old now node
  as-tried = record {
    small = small;
    free = free;
    counted = counted;
    within = omega (arith, done);
    read = ticked.after.told;
    keeps = ticked.keeps;
    fewer = omega (arith, ticked.took, ap (λ (l : LogState). length l.lines) ticked.log);
    is_open = ticked.undecided.is_open;
    target = subst (λ (t : Tag). IsTarget level now.bound t.code) (sym tag_is) ticked.target;
    choices = all-dead;
    ticks = tick-alone;
  }

  -- no row is named
  without-rows : (cites : List Cite) (fewer : List Literal) → Explains instance cites now.log.lines literals fewer node → Explains instance [] now.log.lines literals fewer node
  without-rows cites fewer why = record {
    partial = why.partial;
    within = why.within;
    stay = subst (λ (refs : List ChoiceRef). All (λ (ref : ChoiceRef). StaysFor [] now.log.lines literals fewer ref.line) refs) (sym bare) (All-nil (λ (ref : ChoiceRef). StaysFor [] now.log.lines literals fewer ref.line));
    closed = why.closed;
  }

  pub ahead-searched : {E : Type 0} → (log : LogState) (cites : List Cite) (fewer : List Literal) → Explains instance cites now.log.lines literals fewer node → (result : Result Found E) → IsLined instance fewer node.tag (Some node.path) node.refs now.log log result → Searched instance level literals old (world now.fuel now.bound now.shared log) result
  ahead-searched log cites fewer why result lined = any-branch-searched instance valid level within literals old now node as-tried done log []
      (All-nil (λ (cite : Cite). (content : Content) → Contains now.shared.copied (known_row cite.row content) → content ≡ row_content cite.content)) fewer (without-rows cites fewer why) result lined
