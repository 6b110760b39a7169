-- One choice more is tried.
use Rattle.std.proofs.Common.{◌≡◌, ◌⊎◌, inl, inr, ⊎_elim, ℕ, ◌+◌, ◌<◌, ◌≤◌, true, false, eqb, Contains, List, [], ◌∷◌, ◌++◌, length, Some, None, Result, Ok, Err, OnOk, refl, sym, ap, subst, ◌∙◌, arith}
use Rattle.std.specs.List.{slice_get}
use Rattle.std.proofs.lemmas.Bool.{eq-eqb, true≢false}
use Rattle.std.proofs.lemmas.List.{length-append}
use Rattle.std.proofs.lemmas.List.Elements.{All-contains, Contains-append_cases}
use Rattle.fapp_model.proofs.Anys.{none-member}
use Rattle.fapp_model.proofs.Members.{All-from_members, front_or_behind, no_member}
use Rattle.search_log.specs.declared.line.LogLine.{LogLine}
use Rattle.search_log.specs.declared.line.Ref.TheVariants.{Own}
use Rattle.search_log.specs.Contents.{Cites, Content}
use Rattle.fapp_model.specs.declared.instance.Instance.{Instance}
use Rattle.fapp_model.specs.declared.literal.Literal.{Literal}
use Rattle.fapp_model.specs.declared.tag.Tag.{Tag}
use Rattle.fapp_model.specs.Assignments.{count_at}
use Rattle.fapp_model.specs.Instances.{IsInstance}
use Rattle.fapp_model.specs.Levels.{levels_of}
use Rattle.fapp_model.specs.search.Partials.{HasAll, IsPartial, literal, names}
use Rattle.fapp_model.specs.search.Prefixes.{IsPrefix}
use Rattle.search_log.specs.declared.line.ChoiceRef.{ChoiceRef}
use Rattle.search_log.specs.declared.line.Ref.{Ref}
use Rattle.search_log.specs.Bounds.{floor}
use Rattle.settle_laws.specs.declared.found.Found.{Found}
use Rattle.settle_laws.specs.declared.found.Found.TheVariants.{Dead as FoundDead, Settled, Moot, Spent}
use Rattle.settle_laws.specs.declared.node.Node.{Node}
use Rattle.settle_laws.specs.Founds.{IsFoundBy, IsWanted, IsTarget, Searched, refused}
use Rattle.settle_laws.specs.Levels.{level_code}
use Rattle.settle_laws.specs.Noted.{Goes, IsEnding, Notes, by_choice}
use Rattle.settle_laws.specs.Ticks.{HaveCountLines, AreOffered, Ticks, TicksBelow}
use Rattle.settle_laws.specs.Trying.{AreTriedChoices, Trying}
use Rattle.settle_laws.specs.Worlds.{Keeps, World}
use Rattle.settle_laws.proofs.Keeping.{keeps-trans}
use Rattle.settle_laws.proofs.NextPaths.{next-apart, next-prefix, next-small}
use Rattle.settle_laws.proofs.StopJoin.{on-ok}
use Rattle.settle_laws.proofs.TagCodes.{dead-lower, tag-small}
use Rattle.settle_laws.proofs.TickJoin.{next-below, next-counted, next-offered, next-ticks, none-at}
use Rattle.settle_laws.proofs.Tried.{tried-dead, tried-grow, tried-settled}
use Rattle.tries_laws.proofs.PrefixParts.{prefix-is_partial}

-- what lets the search go on
noted-as : (node new : Node) (found : Found) → Notes node new found None →
    ((tag : Tag) × (found ≡ FoundDead tag) × Goes node new tag.code node.refs) ⊎ ((line : Ref) × (tag : Tag) × (found ≡ Settled line tag) × Goes node new tag.code (node.refs ++ by_choice node.choice line ∷ []))
noted-as node new (FoundDead tag) notes = inl (tag, refl, notes.1)
noted-as node new (Settled line tag) notes = inr (line, tag, refl, notes.1)
noted-as node new (Moot seen) notes = cc
noted-as node new Spent notes = cc

only-one : (a b : Literal) → Contains (a ∷ []) b → b ≡ a
only-one a b m = ⊎_elim (λ e. sym e) (λ later. absurd (no_member b later)) (front_or_behind a [] b m)

module _ (instance : Instance) (level : ℕ) (literals : List Literal) (old here now : World) (node : Node) (trying : Trying instance level literals old here node) where
  abbrev pub with-choice : List Literal
  with-choice = literals ++ literal node.path node.choice ∷ []

  module _ {E : Type 0} (result : Result Found E) (s : Searched instance level with-choice here now result) where
    both-keep : Keeps instance old now
    both-keep = keeps-trans instance old here now trying.keeps s.keeps

    abbrev both-ticks : Ticks instance level literals old now s.refused_at
    both-ticks = next-ticks instance level literals node.path node.choice old here now trying.keeps s.keeps s.refused_at trying.ticks s.ticks

    both-read : now.bound.told ≤ floor old.bound
    both-read = omega (arith, s.read, trying.keeps.falls)

    both-offer : OnOk result (AreOffered instance both-ticks.tried now.bound.least)
    both-offer = on-ok (AreOffered instance s.ticks.tried now.bound.least) (AreOffered instance both-ticks.tried now.bound.least)
        (next-offered instance level literals node.path node.choice old here now trying.keeps s.keeps s.refused_at trying.ticks s.ticks) result s.offered

    both-count : OnOk result (HaveCountLines instance both-ticks.tried old.log.lines now.log.lines)
    both-count = on-ok (HaveCountLines instance s.ticks.tried here.log.lines now.log.lines) (HaveCountLines instance both-ticks.tried old.log.lines now.log.lines)
        (next-counted instance level literals node.path node.choice old here now trying.keeps s.keeps s.refused_at trying.ticks s.ticks) result s.counted

    -- what ends the search of a choice ends that of the literals
    end-as : IsFoundBy instance level literals old now result → Searched instance level literals old now result
    end-as is = record {
      keeps = both-keep;
      few = omega (arith, trying.fewer, s.few);
      read = both-read;
      is = is;
      refused_at = s.refused_at;
      refused_count = s.refused_count;
      ticks = both-ticks;
      offered = both-offer;
      counted = both-count;
    }

  pub ends : {E : Type 0} → (result : Result Found E) → IsEnding result → Searched instance level with-choice here now result → Searched instance level literals old now result
  ends (Ok (FoundDead tag)) none s = absurd none
  ends (Ok (Settled line tag)) none s = absurd none
  ends (Ok (Moot seen)) none s = end-as (Ok (Moot seen)) s s.is
  ends (Ok Spent) none s = end-as (Ok Spent) s s.is
  ends (Err e) none s = end-as (Err e) s tt

  -- what a line of the log says with the choice it says without, where it doesn't name the path
  pub without-choice : (lits : List Literal) → HasAll with-choice lits → names lits node.path ≡ false → HasAll literals lits
  without-choice lits contained free = All-from_members (Contains literals) lits (λ a m. ⊎_elim
      (λ l. l)
      (λ r. absurd (true≢false (sym (eq-eqb a.path node.path (ap (λ (x : Literal). x.path) (only-one (literal node.path node.choice) a r))) ∙ none-member (λ (x : Literal). eqb x.path node.path) lits free a m)))
      (Contains-append_cases literals (literal node.path node.choice ∷ []) a (All-contains (Contains with-choice) lits a contained m)))

  free-content : (lines : List LogLine) (n : ℕ) (line : LogLine) (content : Content) → slice_get lines n ≡ Some line → names line.lits node.path ≡ false → (cited : Cites [] lines (Own n) content) → names content.lits node.path ≡ false
  free-content lines n line content there free cited =
      let same : line ≡ cited.0 = let e = sym there ∙ cited.1 in cc in
      subst (λ (c : Content). names c.lits node.path ≡ false) (sym cited.2) (subst (λ (l : LogLine). names l.lits node.path ≡ false) same free)

  -- a line of the log settles the literals with the choice, and doesn't name the path: it settles them at once
  pub jumps : {E : Type 0} → (n : ℕ) (tag : Tag) (line : LogLine) → slice_get now.log.lines n ≡ Some line → names line.lits node.path ≡ false →
      Searched {E = E} instance level with-choice here now (Ok (Settled (Own n) tag)) → Searched {E = E} instance level literals old now (Ok (Settled (Own n) tag))
  jumps n tag line there free s =
      let grown : length old.log.lines ≤ length here.log.lines = omega (arith, ap length trying.keeps.lines.are, length-append old.log.lines trying.keeps.lines.more) in
      end-as (Ok (Settled (Own n) tag)) s (record {
        is_open = s.is.is_open;
        target = s.is.target;
        exact = λ same. absurd (omega (arith, trying.fewer, s.keeps.fuel, grown));
        refuted = record {
          content = s.is.refuted.content;
          cited = s.is.refuted.cited;
          reaches = s.is.refuted.reaches;
          contained = without-choice s.is.refuted.content.lits s.is.refuted.contained (free-content now.log.lines n line s.is.refuted.content there free s.is.refuted.cited);
          served = s.is.refuted.served;
          own = s.is.refuted.own;
        };
        last = (omega (arith, s.is.last.0, grown), s.is.last.1);
      })

  -- there was no memory to note it
  pub ends-unnoted : {E : Type 0} → (found : Found) → Searched {E = E} instance level with-choice here now (Ok found) → refused {E = E} (Ok found) ≡ 0 → (e : E) → Searched instance level literals old now (Err e)
  ends-unnoted found s none e = record {
    keeps = both-keep (Ok found) s;
    few = omega (arith, trying.fewer, s.few);
    read = both-read (Ok found) s;
    is = tt;
    refused_at = s.refused_at;
    refused_count = s.refused_count ∙ none;
    ticks = both-ticks (Ok found) s;
    offered = tt;
    counted = tt;
  }

  -- the next choice
  module _ (valid : IsInstance instance) (within : level ≤ levels_of instance) (prefix : IsPrefix instance literals) (more : node.choice < node.count) where
    partial : IsPartial instance literals
    partial = prefix-is_partial instance literals prefix

    small : node.path < length instance.paths
    small = next-small instance literals prefix node.path trying.next

    apart : names literals node.path ≡ false
    apart = next-apart instance literals prefix node.path trying.next

    below : node.choice < count_at instance node.path
    below = omega (arith, trying.counted)

    pushed-partial : IsPartial instance with-choice
    pushed-partial = prefix-is_partial instance with-choice (next-prefix instance literals prefix node.path trying.next node.choice below)

    module _ {E : Type 0} (found : Found) (s : Searched {E = E} instance level with-choice here now (Ok found)) (new : Node) (tag : Tag) (refs : List ChoiceRef) (goes : Goes node new tag.code refs) (none : refused {E = E} (Ok found) ≡ 0) where
      lower : new.tag.code ≤ node.tag.code
      lower = omega (arith, goes.tag_is)

      -- the choices before this one, in the world as it is now
      before : AreTriedChoices instance now.shared.copied now.log.lines literals new.tag.code node.path node.choice node.refs
      before = tried-grow instance valid literals node.path here.shared.copied now.shared.copied here.log.lines now.log.lines s.keeps.copied s.keeps.lines node.tag.code new.tag.code
          (tag-small instance level node.tag within (omega (arith, trying.target))) (tag-small instance level new.tag within (omega (arith, trying.target, lower))) lower node.choice node.refs trying.choices

      below-next : (refused : List (List Literal)) → refused ≡ [] → (t : Ticks instance level with-choice here now refused) → AreOffered instance t.tried now.bound.least → HaveCountLines instance t.tried here.log.lines now.log.lines → TicksBelow instance level literals node.path (node.choice + 1) old now
      below-next [] e t offered counted = next-below instance level literals node.path node.choice old here now trying.keeps s.keeps trying.ticks t offered counted
      below-next (x ∷ more) e t offered counted = cc

      goes-with : IsWanted level now.bound → IsTarget level now.bound tag.code → AreTriedChoices instance now.shared.copied now.log.lines literals new.tag.code node.path (node.choice + 1) refs → Trying instance level literals old now new
      goes-with is_open target tried = record {
        next = trying.next ∙ ap (λ (p : ℕ). Some p) (sym goes.path_is);
        counted = goes.count_is ∙ (trying.counted ∙ ap (λ p. count_at instance p) (sym goes.path_is));
        within = omega (arith, goes.choice_is, goes.count_is);
        read = both-read (Ok found) s;
        keeps = both-keep (Ok found) s;
        fewer = omega (arith, trying.fewer, s.few);
        is_open = is_open;
        target = omega (arith, trying.target, target, s.keeps.falls, goes.tag_is);
        choices = rw (goes.path_is, goes.choice_is, goes.refs_are) tried;
        ticks = rw (goes.path_is, goes.choice_is) (below-next s.refused_at (none-at s.refused_at (s.refused_count ∙ none)) s.ticks s.offered s.counted);
      }

    goes-dead : {E : Type 0} → (tag : Tag) → Searched {E = E} instance level with-choice here now (Ok (FoundDead tag)) → (new : Node) → Goes node new tag.code node.refs → Trying instance level literals old now new
    goes-dead tag s new goes =
        let low : new.tag.code ≤ tag.code = omega (arith, goes.tag_is) in
        let most : tag.code ≤ level_code (level + 1) = omega (arith, s.is.exact) in
        let own_new = tag-small instance level new.tag within (omega (arith, most, low)) in
        goes-with (FoundDead tag) s new tag node.refs goes refl s.is.is_open s.is.target
        (tried-dead instance valid literals partial node.path node.choice small below apart now.shared.copied now.log.lines new.tag.code own_new node.refs
        (before (FoundDead tag) s new tag node.refs goes refl) pushed-partial
        (dead-lower instance tag.code new.tag.code with-choice valid (tag-small instance level tag within most) own_new low s.is.dead))

    goes-settled : {E : Type 0} → (line : Ref) (tag : Tag) → Searched {E = E} instance level with-choice here now (Ok (Settled line tag)) → (new : Node) → Goes node new tag.code (node.refs ++ by_choice node.choice line ∷ []) → Trying instance level literals old now new
    goes-settled line tag s new goes =
        let low : new.tag.code ≤ tag.code = omega (arith, goes.tag_is) in
        let own_new = tag-small instance level new.tag within (omega (arith, goes.tag_is, trying.target)) in
        goes-with (Settled line tag) s new tag (node.refs ++ by_choice node.choice line ∷ []) goes refl s.is.is_open s.is.target
        (tried-settled instance valid literals partial node.path node.choice small below apart now.shared.copied now.log.lines new.tag.code own_new node.refs
        (before (Settled line tag) s new tag (node.refs ++ by_choice node.choice line ∷ []) goes refl) line tag.code low s.is.refuted)

    pub goes-on : {E : Type 0} → (found : Found) → Searched {E = E} instance level with-choice here now (Ok found) → (new : Node) → Notes node new found None → Trying instance level literals old now new
    goes-on {E} found s new notes = ⊎_elim
        (λ d. goes-dead d.0 (subst (λ f. Searched {E = E} instance level with-choice here now (Ok f)) d.1 s) new d.2)
        (λ d. goes-settled d.0 d.1 (subst (λ f. Searched {E = E} instance level with-choice here now (Ok f)) d.2 s) new d.3)
        (noted-as node new found notes)
