-- Choices that were tried, with more rows and lines and at lower tags, and one more of them.
use Rattle.std.proofs.Common.{below_more, ◌≡◌, ℕ, ◌+◌, ◌<◌, ◌≤◌, true, false, eqb, List, [], ◌∷◌, ◌++◌, length, All, Contains, refl, inl, inr, ⊎_elim, arith}
use Rattle.std.specs.List.{list_any}
use Rattle.std.proofs.lemmas.Bool.{eq-eqb}
use Rattle.std.proofs.lemmas.List.Elements.{All-append, All-contains, All-cons, All-nil, Contains-append_left, Contains-push}
use Rattle.fapp_model.specs.declared.instance.Instance.{Instance}
use Rattle.fapp_model.specs.declared.literal.Literal.{Literal}
use Rattle.fapp_model.specs.Assignments.{count_at}
use Rattle.fapp_model.specs.Instances.{IsInstance}
use Rattle.fapp_model.specs.Tags.{IsTagOf, triple_from}
use Rattle.fapp_model.specs.search.Dead.{Dead}
use Rattle.fapp_model.specs.search.Implied.{Implied}
use Rattle.fapp_model.specs.search.Partials.{HasAll, IsPartial, literal, names}
use Rattle.fapp_model.proofs.Anys.{any-member, passing}
use Rattle.fapp_model.proofs.Members.{All-from_members}
use Rattle.dead_laws.proofs.DeadImplied.{dead-implied}
use Rattle.dead_laws.proofs.DeadMore.{dead-more}
use Rattle.dead_laws.proofs.ImpliedLemmas.{Implied-more}
use Rattle.search_log.specs.declared.line.ChoiceRef.{ChoiceRef}
use Rattle.search_log.specs.declared.line.LogLine.{LogLine}
use Rattle.search_log.specs.declared.line.Ref.{Ref}
use Rattle.search_log.specs.declared.line.Ref.TheVariants.{Own, Row}
use Rattle.search_log.specs.Contents.{Cites, Content, KnownRow, known_row}
use Rattle.search_log.specs.GoodLines.{IsSettled}
use Rattle.search_log.proofs.ByPlace.{get-append}
use Rattle.settle_laws.specs.Founds.{IsRefuted}
use Rattle.settle_laws.specs.Noted.{by_choice}
use Rattle.settle_laws.specs.Trying.{AreTriedChoices, IsTriedChild}
use Rattle.settle_laws.specs.Worlds.{Gains}
use Rattle.settle_laws.proofs.Adding.{has-front, has-trans, pairs-join}
use Rattle.dead_laws.proofs.OneMoreLiteral.{with-literal}
use Rattle.settle_laws.proofs.TagCodes.{dead-lower, implied-lower}

pub cites-grow : (rows more : List KnownRow) (lines longer : List LogLine) (ref : Ref) (content : Content) → All (Contains more) rows → Gains lines longer → Cites rows lines ref content → Cites more longer ref content
cites-grow rows more lines longer (Own n) content has gains h = (h.0, (let at = get-append lines gains.more n h.0 h.1 in rw (gains.are) at), h.2)
cites-grow rows more lines longer (Row r) content has gains h = All-contains (Contains more) rows (known_row r content) has h

pub child-grows : (instance : Instance) (rows more : List KnownRow) (lines longer : List LogLine) (literals : List Literal) (tag lower path : ℕ) (ref : ChoiceRef) → All (Contains more) rows → Gains lines longer → lower ≤ tag → IsTriedChild instance rows lines literals tag path ref → IsTriedChild instance more longer literals lower path ref
child-grows instance rows more lines longer literals tag lower path ref has gains low h = record {
  content = h.content;
  cited = cites-grow rows more lines longer ref.line h.content has gains h.cited;
  reaches = omega (arith, h.reaches);
  contained = h.contained;
  served = h.served;
}

listed-more : (refs : List ChoiceRef) (ref : ChoiceRef) (i : ℕ) → list_any (λ (r : ChoiceRef). eqb r.choice i) refs ≡ true → list_any (λ (r : ChoiceRef). eqb r.choice i) (refs ++ ref ∷ []) ≡ true
listed-more refs ref i h =
    let found = passing (λ (r : ChoiceRef). eqb r.choice i) refs h in
    any-member (λ (r : ChoiceRef). eqb r.choice i) (refs ++ ref ∷ []) found.item (Contains-append_left refs (ref ∷ []) found.item found.member) found.passes

module _ (instance : Instance) (valid : IsInstance instance) (literals : List Literal) (path : ℕ) (rows more : List KnownRow) (lines longer : List LogLine) (has : All (Contains more) rows) (gains : Gains lines longer)
    (tag lower : ℕ) (is_tag : IsTagOf instance (triple_from tag)) (is_lower : IsTagOf instance (triple_from lower)) (low : lower ≤ tag) where
  settled-lower : (refs : List ChoiceRef) (i : ℕ) → IsSettled instance tag literals path refs i → IsSettled instance lower literals path refs i
  settled-lower refs i (inl listed) = inl listed
  settled-lower refs i (inr dead) = inr (dead-lower instance tag lower (literal path i ∷ literals) valid is_tag is_lower low dead)

  pub tried-grow : (choice : ℕ) (refs : List ChoiceRef) → AreTriedChoices instance rows lines literals tag path choice refs → AreTriedChoices instance more longer literals lower path choice refs
  tried-grow choice refs h = record {
    ascending = h.ascending;
    below = h.below;
    children = All-from_members (IsTriedChild instance more longer literals lower path) refs (λ ref m.
        child-grows instance rows more lines longer literals tag lower path ref has gains low (All-contains (IsTriedChild instance rows lines literals tag path) refs ref h.children m));
    settled = λ i l. settled-lower refs i (h.settled i l);
    implied = λ i l. implied-lower instance tag lower (literal path i ∷ literals) low (h.implied i l);
  }

-- one more choice
module _ (instance : Instance) (valid : IsInstance instance) (literals : List Literal) (partial : IsPartial instance literals) (path choice : ℕ) (small : path < length instance.paths) (within : choice < count_at instance path) (apart : names literals path ≡ false)
    (rows : List KnownRow) (lines : List LogLine) (tag : ℕ) (is_tag : IsTagOf instance (triple_from tag)) (refs : List ChoiceRef) (h : AreTriedChoices instance rows lines literals tag path choice refs) where
  both : IsPartial instance (literal path choice ∷ literals)
  both = with-literal instance literals path choice partial small within apart

  all-below : All (λ (ref : ChoiceRef). ref.choice < choice + 1) refs
  all-below = All-from_members (λ (ref : ChoiceRef). ref.choice < choice + 1) refs (λ ref m. let l = All-contains (λ (r : ChoiceRef). r.choice < choice) refs ref h.below m in omega arith)

  -- that was dead
  pub tried-dead : IsPartial instance (literals ++ literal path choice ∷ []) → Dead instance (triple_from tag) (literals ++ literal path choice ∷ []) → AreTriedChoices instance rows lines literals tag path (choice + 1) refs
  tried-dead pushed dead =
      let here : Dead instance (triple_from tag) (literal path choice ∷ literals) =
      dead-more instance (triple_from tag) (literals ++ literal path choice ∷ []) (literal path choice ∷ literals) valid pushed both (has-front (literal path choice) literals) dead in
      record {
        ascending = h.ascending;
        below = all-below;
        children = h.children;
        settled = below_more (λ i. IsSettled instance tag literals path refs i) choice h.settled (inr here);
        implied = below_more (λ i. Implied instance (triple_from tag) (literal path i ∷ literals)) choice h.implied
            (dead-implied instance (triple_from tag) (literal path choice ∷ literals) valid is_tag both here);
      }

  -- that is settled
  pub tried-settled : (line : Ref) (settled_tag : ℕ) → tag ≤ settled_tag → IsRefuted instance rows lines (literals ++ literal path choice ∷ []) line settled_tag → AreTriedChoices instance rows lines literals tag path (choice + 1) (refs ++ by_choice choice line ∷ [])
  tried-settled line settled_tag low r =
      let ref = by_choice choice line in
      let contained : HasAll (literal path choice ∷ literals) r.content.lits = has-trans r.content.lits (literals ++ literal path choice ∷ []) (literal path choice ∷ literals) r.contained (has-front (literal path choice) literals) in
      let child : IsTriedChild instance rows lines literals tag path ref = record { content = r.content; cited = r.cited; reaches = omega (arith, r.reaches); contained = contained; served = r.served } in
      let next : All (λ (r : ChoiceRef). choice < r.choice + 1) (ref ∷ []) = All-cons (λ (r : ChoiceRef). choice < r.choice + 1) ref [] (omega arith) (All-nil (λ (r : ChoiceRef). choice < r.choice + 1)) in
      record {
        ascending = pairs-join (λ (a b : ChoiceRef). a.choice < b.choice) refs (ref ∷ []) h.ascending (λ i j d less l. absurd (omega arith)) (λ a b m n.
            let low_a = All-contains (λ (r : ChoiceRef). r.choice < choice) refs a h.below m in
            let high_b = All-contains (λ (r : ChoiceRef). choice < r.choice + 1) (ref ∷ []) b next n in omega arith);
        below = All-append (λ (r : ChoiceRef). r.choice < choice + 1) refs (ref ∷ []) all-below (All-cons (λ (r : ChoiceRef). r.choice < choice + 1) ref [] (omega arith) (All-nil (λ (r : ChoiceRef). r.choice < choice + 1)));
        children = All-append (IsTriedChild instance rows lines literals tag path) refs (ref ∷ []) h.children (All-cons (IsTriedChild instance rows lines literals tag path) ref [] child (All-nil (IsTriedChild instance rows lines literals tag path)));
        settled = below_more (λ i. IsSettled instance tag literals path (refs ++ ref ∷ []) i) choice
            (λ i l. ⊎_elim (λ a. inl (listed-more refs ref i a)) (λ d. inr d) (h.settled i l))
            (inl (any-member (λ (r : ChoiceRef). eqb r.choice choice) (refs ++ ref ∷ []) ref (Contains-push refs ref) (eq-eqb choice choice refl)));
        implied = below_more (λ i. Implied instance (triple_from tag) (literal path i ∷ literals)) choice h.implied
            (Implied-more instance (triple_from tag) r.content.lits (literal path choice ∷ literals) contained
            (implied-lower instance r.content.tag tag r.content.lits (omega (arith, r.reaches)) r.served.implied));
      }
