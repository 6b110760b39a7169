-- A node that a row settles is closed by a line on the row's literals.
use Rattle.std.proofs.Common.{◌≡◌, ℕ, ◌+◌, ◌<◌, ◌≤◌, false, eqb, min, List, [], ◌∷◌, ◌++◌, length, get_or, All, Contains, None, Some, Result, Ok, Err, refl, sym, ap, subst, ◌∙◌, inl, arith}
use Rattle.std.specs.List.{list_any}
use Rattle.std.proofs.lemmas.Bool.{eq-eqb}
use Rattle.std.proofs.lemmas.List.Elements.{All-contains, Contains-get_or}
use Rattle.fapp_model.specs.declared.instance.Instance.{Instance}
use Rattle.fapp_model.specs.declared.literal.Literal.{Literal}
use Rattle.fapp_model.specs.declared.tag.Tag.{Tag}
use Rattle.fapp_model.specs.Instances.{IsInstance}
use Rattle.fapp_model.specs.Levels.{levels_of}
use Rattle.fapp_model.specs.Tags.{triple_from}
use Rattle.fapp_model.specs.search.Implied.{Implied}
use Rattle.fapp_model.specs.search.Partials.{AreLiterals, HasAll, literal, names}
use Rattle.fapp_model.specs.search.Prefixes.{IsPrefix}
use Rattle.fapp_model.proofs.Anys.{any-member}
use Rattle.fapp_model.proofs.Members.{All-from_members, behind}
use Rattle.dead_laws.proofs.ImpliedLemmas.{Implied-more}
use Rattle.search_log.specs.declared.line.ChoiceRef.{ChoiceRef}
use Rattle.search_log.specs.declared.line.Ref.{Ref}
use Rattle.search_log.specs.declared.line.Ref.TheVariants.{Row}
use Rattle.search_log.specs.Contents.{Content, known_row}
use Rattle.search_log.specs.GoodLines.{IsSettled}
use Rattle.search_log.proofs.Implying.{lits-partial}
use Rattle.nogood.specs.Rows.{row_literals}
use Rattle.search_log.specs.declared.shared.Cite.{Cite}
use Rattle.search_log.specs.LogStates.{LogState}
use Rattle.search_log.specs.Shares.{IsServedContent, row_content}
use Rattle.settle_laws.specs.declared.found.Found.{Found}
use Rattle.settle_laws.specs.declared.found.Found.TheVariants.{Settled}
use Rattle.settle_laws.specs.declared.node.Node.{Node}
use Rattle.settle_laws.specs.Explained.{AreContents, Explains, StaysFor}
use Rattle.settle_laws.specs.Founds.{Searched}
use Rattle.settle_laws.specs.Lines.{IsLined}
use Rattle.settle_laws.specs.Noted.{by_choice}
use Rattle.settle_laws.specs.RowLines.{AreAll, IsLinedByRow}
use Rattle.settle_laws.specs.Ticks.{TicksBelow}
use Rattle.settle_laws.specs.Trying.{AreTriedChoices, IsTriedChild, Trying}
use Rattle.settle_laws.specs.Worlds.{World, world}
use Rattle.settle_laws.proofs.Adding.{has-same, has-trans}
use Rattle.settle_laws.proofs.Ends.{TryingAny, any-branch-searched}
use Rattle.settle_laws.proofs.NextPaths.{next-apart, next-small}
use Rattle.settle_laws.proofs.Passing.{ticks-later}
use Rattle.settle_laws.proofs.OneMoreChoice.{ends-unnoted, goes-on, without-choice}
use Rattle.settle_laws.proofs.TagCodes.{implied-lower}

-- each choice has the reference
module _ (count : ℕ) (line : Ref) (refs : List ChoiceRef) (all : AreAll count line refs) where
  all-choice : (i : ℕ) (d : ChoiceRef) → i < length refs → (get_or refs i d).choice ≡ i
  all-choice i d l = ap (λ (r : ChoiceRef). r.choice) (all.each i d (omega (arith, l, all.as_many)))

  all-line : (r : ChoiceRef) → Contains refs r → r.line ≡ line
  all-line r m = All-contains (λ (x : ChoiceRef). x.line ≡ line) refs r (λ i d l. ap (λ (x : ChoiceRef). x.line) (all.each i d (omega (arith, l, all.as_many)))) m

-- what the row says holds without the choice, and of all choices
module _ (instance : Instance) (valid : IsInstance instance) (level : ℕ) (limit : level ≤ levels_of instance) (literals : List Literal) (prefix : IsPrefix instance literals) (old now : World) (node : Node) (trying : Trying instance level literals old now node)
    (cites : List Cite) (contents : AreContents now.shared.copied cites) (cite : Cite) (held : Contains cites cite) (known : Contains now.shared.copied (known_row cite.row (row_content cite.content)))
    (within : HasAll literals (row_literals cite.content)) (served : IsServedContent instance (row_content cite.content)) (reaches : node.tag.code ≤ cite.content.tag.code)
    (refs : List ChoiceRef) (all : AreAll node.count (Row cite.row) refs) where
  abbrev closed : Node
  closed = record { tag = node.tag; path = node.path; choice = node.count; count = node.count; refs = refs }

  has-within : (i : ℕ) → HasAll (literal node.path i ∷ literals) (row_literals cite.content)
  has-within i = All-from_members (Contains (literal node.path i ∷ literals)) (row_literals cite.content)
      (λ a m. behind (literal node.path i) literals a (All-contains (Contains literals) (row_literals cite.content) a within m))

  child : (ref : ChoiceRef) → ref.line ≡ Row cite.row → IsTriedChild instance now.shared.copied now.log.lines literals node.tag.code node.path ref
  child ref same = record {
    content = row_content cite.content;
    cited = rw (same) known;
    reaches = reaches;
    contained = has-within ref.choice;
    served = served;
  }

  listed : (i : ℕ) → i < node.count → (lits : List Literal) → IsSettled instance node.tag.code lits node.path refs i
  listed i l lits =
      let d = by_choice i (Row cite.row) in
      inl (any-member (λ (r : ChoiceRef). eqb r.choice i) refs (get_or refs i d) (Contains-get_or refs i d (omega (arith, l, all.as_many)))
      (eq-eqb (get_or refs i d).choice i (all-choice node.count (Row cite.row) refs all i d (omega (arith, l, all.as_many)))))

  row-line : (ref : ChoiceRef) → Contains refs ref → ref.line ≡ Row cite.row
  row-line = all-line node.count (Row cite.row) refs all

  all-tried : AreTriedChoices instance now.shared.copied now.log.lines literals node.tag.code node.path node.count refs
  all-tried = record {
    ascending = λ i j d less small.
        let first = all-choice node.count (Row cite.row) refs all i d (omega (arith, less, small)) in
        let second = all-choice node.count (Row cite.row) refs all j d small in
        omega (arith, first, second, less);
    below = λ i d l. let is = all-choice node.count (Row cite.row) refs all i d l in omega (arith, is, l, all.as_many);
    children = All-from_members (IsTriedChild instance now.shared.copied now.log.lines literals node.tag.code node.path) refs (λ ref m. child ref (row-line ref m));
    settled = λ i l. listed i l literals;
    implied = λ i l. Implied-more instance (triple_from node.tag.code) (row_literals cite.content) (literal node.path i ∷ literals) (has-within i)
        (implied-lower instance cite.content.tag.code node.tag.code (row_literals cite.content) reaches served.implied);
  }

  explained : Explains instance cites now.log.lines literals (row_literals cite.content) closed
  explained = record {
    partial = lits-partial instance (row_literals cite.content) served.lits;
    within = within;
    stay = All-from_members (λ (ref : ChoiceRef). StaysFor cites now.log.lines literals (row_literals cite.content) ref.line) refs
        (λ ref m. rw (row-line ref m) (λ a may l. may cite held refl));
    closed = λ i l. listed i l (row_literals cite.content);
  }

  any-closed : TryingAny instance level literals old now closed
  any-closed = record {
    small = next-small instance literals prefix node.path trying.next;
    free = next-apart instance literals prefix node.path trying.next;
    counted = trying.counted;
    within = omega arith;
    read = trying.read;
    keeps = trying.keeps;
    fewer = trying.fewer;
    is_open = trying.is_open;
    target = trying.target;
    choices = all-tried;
    ticks = ticks-later instance level literals node.path node.choice node.count old now trying.within trying.ticks;
  }

  pub row-lines : {E : Type 0} → (log : LogState) (result : Result Found E) → IsLined instance (row_literals cite.content) node.tag (Some node.path) refs now.log log result → Searched instance level literals old (world now.fuel now.bound now.shared log) result
  row-lines log result lined = any-branch-searched instance valid level limit literals old now closed any-closed refl log cites contents (row_literals cite.content) explained result lined

-- a row settles the literals with a choice, and doesn't name the path: a line on its literals settles them without
module _ (instance : Instance) (valid : IsInstance instance) (level : ℕ) (limit : level ≤ levels_of instance) (literals : List Literal) (prefix : IsPrefix instance literals) (old here now : World) (node : Node) (trying : Trying instance level literals old here node) (more : node.choice < node.count)
    (cites : List Cite) (contents : AreContents now.shared.copied cites) (cite : Cite) (held : Contains cites cite) (free : names (row_literals cite.content) node.path ≡ false) (tag : Tag) where
  module _ {E : Type 0} (s : Searched {E = E} instance level (literals ++ literal node.path node.choice ∷ []) here now (Ok (Settled (Row cite.row) tag))) where
    content-is : s.is.refuted.content ≡ row_content cite.content
    content-is = All-contains (λ (c : Cite). (x : Content) → Contains now.shared.copied (known_row c.row x) → x ≡ row_content c.content) cites cite contents held s.is.refuted.content s.is.refuted.cited

    pub row-served : IsServedContent instance (row_content cite.content)
    row-served = subst (IsServedContent instance) content-is s.is.refuted.served

    row-known : Contains now.shared.copied (known_row cite.row (row_content cite.content))
    row-known = subst (λ c. Contains now.shared.copied (known_row cite.row c)) content-is s.is.refuted.cited

    row-within : HasAll literals (row_literals cite.content)
    row-within = without-choice instance level literals old here now node trying (row_literals cite.content)
        (subst (λ (c : Content). HasAll (literals ++ literal node.path node.choice ∷ []) c.lits) content-is s.is.refuted.contained) free

    row-reaches : tag.code ≤ cite.content.tag.code
    row-reaches = subst (λ (c : Content). tag.code ≤ c.tag) content-is s.is.refuted.reaches

    module _ (lower : Tag) (lower_is : lower.code ≡ min node.tag.code tag.code) where
      abbrev noted : Node
      noted = record { tag = lower; path = node.path; choice = node.choice + 1; count = node.count; refs = node.refs ++ by_choice node.choice (Row cite.row) ∷ [] }

      noted-trying : Trying instance level literals old now noted
      noted-trying = goes-on instance level literals old here now node trying valid limit prefix more (Settled (Row cite.row) tag) s noted
          (refl, record { tag_is = lower_is; path_is = refl; choice_is = refl; count_is = refl; refs_are = refl })

      low-reaches : lower.code ≤ cite.content.tag.code
      low-reaches = omega (arith, lower_is, row-reaches)

      pub row-closes : (log : LogState) (result : Result Found E) → IsLinedByRow instance cite lower node.path node.count now.log log result → Searched instance level literals old (world now.fuel now.bound now.shared log) result
      row-closes log (Ok found) adds = row-lines instance valid level limit literals prefix old now noted noted-trying cites contents cite held row-known row-within row-served low-reaches adds.refs adds.all log (Ok found) adds.adds
      row-closes log (Err e) same = subst (λ l. Searched instance level literals old (world now.fuel now.bound now.shared l) (Err e)) (sym same)
          (ends-unnoted instance level literals old here now node trying (Settled (Row cite.row) tag) s refl e)
