-- The same choices tried with fewer literals.
use Rattle.std.proofs.Common.{◌≡◌, ◌⊎◌, ℕ, ◌<◌, ◌≤◌, false, eqb, List, [], ◌∷◌, ◌++◌, length, All, Contains, refl, sym, ap, subst, inl, inr, ⊎_elim, arith}
use Rattle.std.specs.List.{slice_get}
use Rattle.std.proofs.lemmas.Bool.{eqb-true}
use Rattle.std.proofs.lemmas.List.Elements.{All-append, All-cons, All-contains, All-nil, Contains-append_left}
use Rattle.fapp_model.specs.declared.instance.Instance.{Instance}
use Rattle.fapp_model.specs.declared.literal.Literal.{Literal}
use Rattle.fapp_model.specs.Assignments.{count_at}
use Rattle.fapp_model.specs.Instances.{IsInstance}
use Rattle.fapp_model.specs.Tags.{IsTagOf, triple_from}
use Rattle.fapp_model.specs.search.Implied.{Implied}
use Rattle.fapp_model.specs.search.Partials.{HasAll, IsPartial, literal, names}
use Rattle.fapp_model.proofs.Anys.{passing}
use Rattle.fapp_model.proofs.Members.{All-from_members, at_front, behind, front_or_behind}
use Rattle.dead_laws.proofs.DeadImplied.{dead-implied}
use Rattle.dead_laws.proofs.ImpliedLemmas.{Implied-more}
use Rattle.search_log.specs.declared.line.ChoiceRef.{ChoiceRef}
use Rattle.search_log.specs.declared.line.LogLine.{LogLine}
use Rattle.search_log.specs.declared.line.Ref.{Ref}
use Rattle.search_log.specs.declared.line.Ref.TheVariants.{Own, Row}
use Rattle.search_log.specs.Contents.{Cites, Content, KnownRow, content_of, known_row}
use Rattle.search_log.specs.GoodLines.{IsSettled}
use Rattle.search_log.specs.declared.shared.Cite.{Cite}
use Rattle.search_log.specs.Shares.{HaveOneContent, SharedState, known, row_content}
use Rattle.settle_laws.specs.Explained.{AreContents, AreCitesCopied, StaysFor}
use Rattle.settle_laws.specs.Trying.{AreTriedChoices, IsTriedChild}
use Rattle.dead_laws.proofs.OneMoreLiteral.{with-literal}
use Rattle.settle_laws.proofs.TagCodes.{implied-lower}

-- copied rows are what look-ups gave under their numbers
pub copied-contents : (shared : SharedState) (cites : List Cite) → HaveOneContent (known shared) → AreCitesCopied shared.copied cites → AreContents shared.copied cites
copied-contents shared cites one copied = All-from_members (λ (cite : Cite). (content : Content) → Contains shared.copied (known_row cite.row content) → content ≡ row_content cite.content) cites
    (λ cite m content n. ap (λ (row : KnownRow). row.content) (one (known_row cite.row content) (known_row cite.row (row_content cite.content))
    (Contains-append_left shared.copied shared.published (known_row cite.row content) n)
    (Contains-append_left shared.copied shared.published (known_row cite.row (row_content cite.content)) (All-contains (λ (c : Cite). Contains shared.copied (known_row c.row (row_content c.content))) cites cite copied m)) refl))

-- more rows have been copied
pub copied-more : (rows more : List KnownRow) (cites : List Cite) → All (Contains more) rows → AreCitesCopied rows cites → AreCitesCopied more cites
copied-more rows more cites has copied = All-from_members (λ (cite : Cite). Contains more (known_row cite.row (row_content cite.content))) cites
    (λ cite m. All-contains (Contains more) rows (known_row cite.row (row_content cite.content)) has (All-contains (λ (c : Cite). Contains rows (known_row c.row (row_content c.content))) cites cite copied m))

-- and one more look-up's
pub copied-noted : (rows : List KnownRow) (cites new : List Cite) (cite : Cite) → AreCitesCopied rows cites → Contains rows (known_row cite.row (row_content cite.content)) → (new ≡ cites) ⊎ (new ≡ cites ++ cite ∷ []) → AreCitesCopied rows new
copied-noted rows cites new cite copied there (inl same) = subst (AreCitesCopied rows) (sym same) copied
copied-noted rows cites new cite copied there (inr more) = subst (AreCitesCopied rows) (sym more)
    (All-append (λ (c : Cite). Contains rows (known_row c.row (row_content c.content))) cites (cite ∷ []) copied
    (All-cons (λ (c : Cite). Contains rows (known_row c.row (row_content c.content))) cite [] there (All-nil (λ (c : Cite). Contains rows (known_row c.row (row_content c.content))))))

-- what a reference names stays within fewer literals that keep all that it needs of them
stays : (rows : List KnownRow) (cites : List Cite) → AreContents rows cites → (lines : List LogLine) (literals fewer : List Literal) (ref : Ref) (content : Content) → Cites rows lines ref content → StaysFor cites lines literals fewer ref → (a : Literal) → Contains content.lits a → Contains literals a → Contains fewer a
stays rows cites contents lines literals fewer (Own n) content cited stay a m l = stay cited.0 cited.1 a (subst (λ (c : Content). Contains c.lits a) cited.2 m) l
stays rows cites contents lines literals fewer (Row r) content cited stay a m l = stay a
    (λ cite held same. subst (λ (c : Content). Contains c.lits a)
    (All-contains (λ (c : Cite). (x : Content) → Contains rows (known_row c.row x) → x ≡ row_content c.content) cites cite contents held content (subst (λ n. Contains rows (known_row n content)) (sym same) cited)) m) l

pub child-fewer : (instance : Instance) (rows : List KnownRow) (cites : List Cite) → AreContents rows cites → (lines : List LogLine) (literals fewer : List Literal) (tag path : ℕ) (ref : ChoiceRef) → StaysFor cites lines literals fewer ref.line → IsTriedChild instance rows lines literals tag path ref → IsTriedChild instance rows lines fewer tag path ref
child-fewer instance rows cites contents lines literals fewer tag path ref stay h = record {
  content = h.content;
  cited = h.cited;
  reaches = h.reaches;
  contained = All-from_members (Contains (literal path ref.choice ∷ fewer)) h.content.lits (λ a m. ⊎_elim
      (λ first. subst (λ x. Contains (literal path ref.choice ∷ fewer) x) first (at_front (literal path ref.choice) fewer))
      (λ later. behind (literal path ref.choice) fewer a (stays rows cites contents lines literals fewer ref.line h.content h.cited stay a m later))
      (front_or_behind (literal path ref.choice) literals a (All-contains (Contains (literal path ref.choice ∷ literals)) h.content.lits a h.contained m)));
  served = h.served;
}

module _ (instance : Instance) (valid : IsInstance instance) (literals fewer : List Literal) (partial : IsPartial instance fewer) (path choice : ℕ) (small : path < length instance.paths) (within : choice ≤ count_at instance path) (apart : names fewer path ≡ false)
    (rows : List KnownRow) (cites : List Cite) (contents : AreContents rows cites) (lines : List LogLine) (tag : ℕ) (is_tag : IsTagOf instance (triple_from tag)) (refs : List ChoiceRef) (h : AreTriedChoices instance rows lines literals tag path choice refs)
    (stay : All (λ (ref : ChoiceRef). StaysFor cites lines literals fewer ref.line) refs) (settled : (i : ℕ) → i < choice → IsSettled instance tag fewer path refs i) where
  children : All (IsTriedChild instance rows lines fewer tag path) refs
  children = All-from_members (IsTriedChild instance rows lines fewer tag path) refs (λ ref m.
      child-fewer instance rows cites contents lines literals fewer tag path ref (All-contains (λ (r : ChoiceRef). StaysFor cites lines literals fewer r.line) refs ref stay m)
      (All-contains (IsTriedChild instance rows lines literals tag path) refs ref h.children m))

  implied-by : (i : ℕ) → i < choice → IsSettled instance tag fewer path refs i → Implied instance (triple_from tag) (literal path i ∷ fewer)
  implied-by i l (inl listed) =
      let found = passing (λ (r : ChoiceRef). eqb r.choice i) refs listed in
      let child = All-contains (IsTriedChild instance rows lines fewer tag path) refs found.item children found.member in
      subst (λ n. Implied instance (triple_from tag) (literal path n ∷ fewer)) (eqb-true found.item.choice i found.passes)
      (Implied-more instance (triple_from tag) child.content.lits (literal path found.item.choice ∷ fewer) child.contained
      (implied-lower instance child.content.tag tag child.content.lits (omega (arith, child.reaches)) child.served.implied))
  implied-by i l (inr dead) = dead-implied instance (triple_from tag) (literal path i ∷ fewer) valid is_tag
      (with-literal instance fewer path i partial small (omega (arith, l, within)) apart) dead

  pub tried-fewer : AreTriedChoices instance rows lines fewer tag path choice refs
  tried-fewer = record {
    ascending = h.ascending;
    below = h.below;
    children = children;
    settled = settled;
    implied = λ i l. implied-by i l (settled i l);
  }
