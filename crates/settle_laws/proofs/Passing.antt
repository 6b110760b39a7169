-- Choices of a node are passed by that are dead at its tag.
use Rattle.std.proofs.Common.{below_more, ◌≡◌, ◌⊎◌, ℕ, zero, suc, ◌+◌, ◌-◌, ◌<◌, ◌≤◌, false, List, [], ◌∷◌, ◌++◌, length, All, Some, refl, sym, ap, subst, ◌∙◌, inl, inr, ⊎_elim, arith}
use Rattle.std.proofs.lemmas.List.Elements.{All-contains}
use Rattle.fapp_model.specs.declared.instance.Instance.{Instance}
use Rattle.fapp_model.specs.declared.literal.Literal.{Literal}
use Rattle.fapp_model.specs.declared.tag.Tag.{Tag}
use Rattle.fapp_model.specs.Assignments.{count_at}
use Rattle.fapp_model.specs.Instances.{IsInstance}
use Rattle.fapp_model.specs.Levels.{levels_of}
use Rattle.fapp_model.specs.Tags.{triple_from}
use Rattle.fapp_model.specs.search.Dead.{Dead}
use Rattle.fapp_model.specs.search.Implied.{Implied}
use Rattle.fapp_model.specs.search.Partials.{HasAll, IsPartial, literal, names}
use Rattle.fapp_model.specs.search.Prefixes.{IsPrefix}
use Rattle.fapp_model.proofs.Members.{All-from_members}
use Rattle.dead_laws.proofs.DeadImplied.{dead-implied}
use Rattle.search_log.specs.declared.line.ChoiceRef.{ChoiceRef}
use Rattle.search_log.specs.declared.line.LogLine.{LogLine}
use Rattle.search_log.specs.declared.line.Ref.TheVariants.{Own}
use Rattle.search_log.specs.Contents.{content_of}
use Rattle.search_log.specs.GoodLines.{IsSettled}
use Rattle.std.specs.List.{slice_get}
use Rattle.fapp_model.specs.InstanceTags.{IsTagFor}
use Rattle.settle_laws.specs.declared.node.Node.{Node}
use Rattle.settle_laws.specs.Founds.{IsTarget}
use Rattle.settle_laws.specs.Ticks.{IsEarlier, TicksBelow}
use Rattle.settle_laws.specs.Trying.{AreTriedChoices, Trying}
use Rattle.settle_laws.specs.Worlds.{AreServed, World}
use Rattle.settle_laws.specs.Noted.{by_choice}
use Rattle.settle_laws.proofs.Tried.{tried-settled}
use Rattle.dead_laws.proofs.OneMoreLiteral.{with-literal}
use Rattle.settle_laws.proofs.NextPaths.{next-apart, next-small}
use Rattle.settle_laws.proofs.TagCodes.{tag-small}
use Rattle.tries_laws.proofs.PrefixParts.{prefix-is_partial}

-- ticks at earlier choices are at choices before a later one
pub ticks-later : (instance : Instance) (level : ℕ) (prefix : List Literal) (path index later : ℕ) (old new : World) → index ≤ later → TicksBelow instance level prefix path index old new → TicksBelow instance level prefix path later old new
ticks-later instance level prefix path index later old new low t = record {
  ticks = t.ticks;
  begins = t.begins;
  each = All-from_members (IsEarlier prefix path later) t.ticks.asked (λ x m. ⊎_elim (λ e. inl e) (λ h. inr (h.0, omega (arith, h.1, low), h.2)) (All-contains (IsEarlier prefix path index) t.ticks.asked x t.each m));
  offered = t.offered;
  counted = t.counted;
}

module _ (instance : Instance) (valid : IsInstance instance) (level : ℕ) (limit : level ≤ levels_of instance) (literals : List Literal) (prefix : IsPrefix instance literals) (old now : World) (node : Node) (trying : Trying instance level literals old now node) (more : node.choice < node.count) where
  partial : IsPartial instance literals
  partial = prefix-is_partial instance literals prefix

  small : node.path < length instance.paths
  small = next-small instance literals prefix node.path trying.next

  apart : names literals node.path ≡ false
  apart = next-apart instance literals prefix node.path trying.next

  below : node.choice < count_at instance node.path
  below = omega (arith, more, trying.counted)

  own : IsTagFor instance node.tag
  own = tag-small instance level node.tag limit (omega (arith, trying.target))

  with-next : (refs : List ChoiceRef) → AreTriedChoices instance now.shared.copied now.log.lines literals node.tag.code node.path (node.choice + 1) refs → (new : Node) → new.tag ≡ node.tag → new.path ≡ node.path → new.count ≡ node.count → new.choice ≡ node.choice + 1 → new.refs ≡ refs → Trying instance level literals old now new
  with-next refs tried new tag_is path_is count_is choice_is refs_are = record {
    next = trying.next ∙ ap (λ (q : ℕ). Some q) (sym path_is);
    counted = count_is ∙ (trying.counted ∙ ap (λ q. count_at instance q) (sym path_is));
    within = omega (arith, more, choice_is, count_is);
    read = trying.read;
    keeps = trying.keeps;
    fewer = trying.fewer;
    is_open = trying.is_open;
    target = subst (λ (t : Tag). IsTarget level now.bound t.code) (sym tag_is) trying.target;
    choices = rw (tag_is, path_is, choice_is, refs_are) tried;
    ticks = rw (path_is, choice_is) (ticks-later instance level literals node.path node.choice (node.choice + 1) old now (omega arith) trying.ticks);
  }

  -- the choice is dead with the literals
  pub dead-next : Dead instance (triple_from node.tag.code) (literal node.path node.choice ∷ literals) → (new : Node) → new.tag ≡ node.tag → new.path ≡ node.path → new.count ≡ node.count → new.choice ≡ node.choice + 1 → new.refs ≡ node.refs → Trying instance level literals old now new
  dead-next dead = with-next node.refs (record {
    ascending = trying.choices.ascending;
    below = All-from_members (λ (ref : ChoiceRef). ref.choice < node.choice + 1) node.refs (λ ref m. let l = All-contains (λ (r : ChoiceRef). r.choice < node.choice) node.refs ref trying.choices.below m in omega (arith, l));
    children = trying.choices.children;
    settled = below_more (λ i. IsSettled instance node.tag.code literals node.path node.refs i) node.choice trying.choices.settled (inr dead);
    implied = below_more (λ i. Implied instance (triple_from node.tag.code) (literal node.path i ∷ literals)) node.choice trying.choices.implied
        (dead-implied instance (triple_from node.tag.code) (literal node.path node.choice ∷ literals) valid own (with-literal instance literals node.path node.choice partial small below apart) dead);
  })

  -- an earlier line of the log is within the literals and the choice
  pub cited-next : (first n : ℕ) (line : LogLine) → AreServed instance first now.log.lines → first ≤ n → slice_get now.log.lines n ≡ Some line → node.tag.code ≤ line.tag.code → HasAll (literals ++ literal node.path node.choice ∷ []) line.lits →
      (new : Node) → new.tag ≡ node.tag → new.path ≡ node.path → new.count ≡ node.count → new.choice ≡ node.choice + 1 → new.refs ≡ node.refs ++ by_choice node.choice (Own n) ∷ [] → Trying instance level literals old now new
  cited-next first n line served low at reaches contained =
      let s = served n line low at in
      with-next (node.refs ++ by_choice node.choice (Own n) ∷ []) (tried-settled instance valid literals partial node.path node.choice small below apart now.shared.copied now.log.lines node.tag.code own node.refs trying.choices
      (Own n) node.tag.code (omega arith) (record {
        content = content_of line;
        cited = (line, at, refl);
        reaches = reaches;
        contained = contained;
        served = s.0;
        own = s.1;
      }))
