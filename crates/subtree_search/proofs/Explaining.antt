-- Literals that are left out one by one.
use Rattle.std.proofs.Common.{◌≡◌, ◌≢◌, ◌⊎◌, ◌↔◌, ℕ, ◌+◌, ◌<◌, ◌≤◌, ◌^◌, Bool, true, false, eqb, not, IsTrue, List, [], ◌∷◌, ◌++◌, length, All, AllPairs, Contains, Option, Result, Ok, Err, refl, sym, ap, subst, ◌∙◌, inl, inr, ⊎_elim, arith}
use Rattle.std.specs.List.{slice_get, filter, list_any}
use Rattle.std.specs.Result.{IsErr}
use Rattle.std.proofs.lemmas.Bool.{cases_Bool, eq-eqb, eqb-true, true≢false, false_from_ne_true}
use Rattle.std.proofs.lemmas.List.Elements.{All-append, All-contains, All-cons, All-filter, All-nil, Contains-append_left, Contains-append_right, Contains-append_cases}
use Rattle.fapp_model.specs.declared.instance.Instance.{Instance}
use Rattle.fapp_model.specs.declared.literal.Literal.{Literal}
use Rattle.fapp_model.specs.declared.tag.Tag.{Tag}
use Rattle.fapp_model.specs.Assignments.{count_at}
use Rattle.fapp_model.specs.Instances.{IsInstance}
use Rattle.fapp_model.specs.Tags.{IsTagOf, mode_level, triple_from}
use Rattle.fapp_model.specs.search.Clashes.{clashes}
use Rattle.fapp_model.specs.search.Dead.{Dead}
use Rattle.fapp_model.specs.search.Partials.{HasAll, IsLiteral, IsPartial, literal, names}
use Rattle.fapp_model.proofs.Anys.{any-member, no-member, none-member, passing}
use Rattle.fapp_model.proofs.InOrder.{pairs-filter, pairs-head, pairs-tail}
use Rattle.fapp_model.proofs.Members.{All-from_members, at_front, behind, front_or_behind, no_member}
use Rattle.dead_laws.proofs.DeadMore.{dead-more}
use Rattle.cert_lines.proofs.ListLaws.{few_choices}
use Rattle.search_log.specs.declared.line.ChoiceRef.{ChoiceRef}
use Rattle.search_log.specs.declared.line.LogLine.{LogLine}
use Rattle.search_log.specs.declared.line.Ref.{Ref}
use Rattle.search_log.specs.declared.line.Ref.TheVariants.{Own, Row}
use Rattle.search_log.specs.GoodLines.{IsSettled}
use Rattle.nogood.specs.Literals.{other_paths}
use Rattle.choice_counts.specs.CountedSums.{IsCalm, RemainsAt}
use Rattle.choice_counts.proofs.DeadByBound.{calm_or_dead}
use Rattle.nogood.specs.Rows.{row_literals}
use Rattle.search_log.specs.declared.shared.Cite.{Cite}
use Rattle.search_log.specs.LogStates.{LogState}
use Rattle.settle_laws.specs.declared.found.Found.{Found}
use Rattle.settle_laws.specs.declared.node.Node.{Node}
use Rattle.settle_laws.specs.Lines.{IsLined}
use Rattle.settle_laws.specs.Explained.{Explains, IsClosedBy, IsDeadPart, StaysFor}
use Rattle.settle_laws.proofs.Adding.{has-cons, has-front, has-same, has-trans, pairs-join}
use Rattle.settle_laws.proofs.LineParts.{names-same}
use Rattle.dead_laws.proofs.OneMoreLiteral.{with-literal}
use Rattle.subtree_search.specs.Explaining.{IsNodeToExplain, IsOffPath}

-- a choice that isn't left at the tag's level is dead
pub left-dead : (instance : Instance) (literals : List Literal) (a : Literal) (code level : ℕ) → IsInstance instance → IsPartial instance (a ∷ literals) → level ≡ mode_level (triple_from code) → (RemainsAt instance level literals a → ⊥) → Dead instance (triple_from code) (a ∷ literals)
left-dead instance literals a code level valid partial same gone = ⊎_elim
    (λ calm. absurd (gone (subst (λ l. RemainsAt instance l literals a) (sym same) (record {
      kept = calm.within a (at_front a literals);
      free = no-member (clashes instance (mode_level (triple_from code)) a) literals (λ b m. calm.apart a b (at_front a literals) (behind a literals b m));
    }))))
    (λ dead. dead)
    (calm_or_dead instance (triple_from code) (a ∷ literals) valid partial)

-- one literal more of a further path, behind
pub snoc-partial : (instance : Instance) (literals : List Literal) (a : Literal) → IsPartial instance literals → IsLiteral instance a → names literals a.path ≡ false → IsPartial instance (literals ++ a ∷ [])
snoc-partial instance literals a partial is apart = record {
  in_range = All-append (IsLiteral instance) literals (a ∷ []) partial.in_range (All-cons (IsLiteral instance) a [] is (All-nil (IsLiteral instance)));
  distinct = pairs-join (λ (x y : Literal). x.path ≢ y.path) literals (a ∷ []) partial.distinct (λ i j d less l. absurd (omega (arith, less, l))) (λ x y m n same.
      let y-is : a ≡ y = ⊎_elim (λ e. e) (λ later. absurd (no_member y later)) (front_or_behind a [] y n) in
      true≢false (sym (eq-eqb x.path a.path (same ∙ ap (λ (z : Literal). z.path) (sym y-is))) ∙ none-member (λ (z : Literal). eqb z.path a.path) literals apart x m));
}

pub dead-with : (instance : Instance) (literals : List Literal) (path choice code : ℕ) → IsInstance instance → IsPartial instance literals → path < length instance.paths → choice < count_at instance path → names literals path ≡ false →
    Dead instance (triple_from code) (literals ++ literal path choice ∷ []) → Dead instance (triple_from code) (literal path choice ∷ literals)
dead-with instance literals path choice code valid partial small below apart dead = dead-more instance (triple_from code) (literals ++ literal path choice ∷ []) (literal path choice ∷ literals) valid
    (snoc-partial instance literals (literal path choice) partial (record { path = small; choice = below }) apart)
    (with-literal instance literals path choice partial small below apart) (has-front (literal path choice) literals) dead

-- a node has at most 2^16 choices
pub asked-few : (instance : Instance) (literals : List Literal) (node : Node) → IsNodeToExplain instance literals node → node.count ≤ 2 ^ 16
asked-few instance literals node asked = omega (arith, few_choices instance asked.valid node.path asked.small, asked.counted)

-- fewer literals are asked about in the same way
pub asked-fewer : (instance : Instance) (literals fewer : List Literal) (node : Node) → IsNodeToExplain instance literals node → IsPartial instance fewer → HasAll literals fewer → IsNodeToExplain instance fewer node
asked-fewer instance literals fewer node asked partial within = record {
  valid = asked.valid;
  partial = partial;
  tag = asked.tag;
  small = asked.small;
  counted = asked.counted;
  apart = names-same literals fewer node.path within asked.apart;
}

-- literals on distinct paths have one of a path
one-of-path : (xs : List Literal) → AllPairs (λ (a b : Literal). a.path ≢ b.path) xs → (x y : Literal) → Contains xs x → Contains xs y → x.path ≡ y.path → x ≡ y
one-of-path [] distinct x y m n p = absurd (no_member x m)
one-of-path (b ∷ xs) distinct x y m n p =
    let apart = pairs-head (λ (u v : Literal). u.path ≢ v.path) b xs distinct in
    ⊎_elim
    (λ first. ⊎_elim
    (λ second. sym first ∙ second)
    (λ later. absurd (All-contains (λ (z : Literal). b.path ≢ z.path) xs y apart later (ap (λ (z : Literal). z.path) first ∙ p)))
    (front_or_behind b xs y n))
    (λ early. ⊎_elim
    (λ second. absurd (All-contains (λ (z : Literal). b.path ≢ z.path) xs x apart early (ap (λ (z : Literal). z.path) second ∙ sym p)))
    (λ later. one-of-path xs (pairs-tail (λ (u v : Literal). u.path ≢ v.path) b xs distinct) x y early later p)
    (front_or_behind b xs y n))
    (front_or_behind b xs x m)

-- ---- without a path's literal

others-partial : (instance : Instance) (literals : List Literal) (path : ℕ) → IsPartial instance literals → IsPartial instance (other_paths path literals)
others-partial instance literals path partial = record {
  in_range = All-filter (λ (a : Literal). not (eqb a.path path)) (IsLiteral instance) literals partial.in_range;
  distinct = pairs-filter (λ (a b : Literal). a.path ≢ b.path) (λ (a : Literal). not (eqb a.path path)) literals partial.distinct;
}

pub others-within : (literals : List Literal) (path : ℕ) → HasAll literals (other_paths path literals)
others-within literals path = All-filter (λ (a : Literal). not (eqb a.path path)) (Contains literals) literals (has-same literals)

apart-more : (a : Literal) (literals : List Literal) (path : ℕ) → names (other_paths path literals) path ≡ false → names (other_paths path (a ∷ literals)) path ≡ false
apart-more a literals path rest = by_cases (eqb a.path path) refl
  where
    by_cases : (b : Bool) → eqb a.path path ≡ b → names (other_paths path (a ∷ literals)) path ≡ false
    by_cases true e = rw (e) rest
    by_cases false e = rw (e, e) rest

pub others-apart : (literals : List Literal) (path : ℕ) → names (other_paths path literals) path ≡ false
others-apart [] path = refl
others-apart (a ∷ literals) path = apart-more a literals path (others-apart literals path)

has-more : (b : Literal) (literals : List Literal) (path : ℕ) (a : Literal) → eqb a.path path ≡ false → Contains (b ∷ literals) a → (Contains literals a → Contains (other_paths path literals) a) → Contains (other_paths path (b ∷ literals)) a
has-more b literals path a e m rest = by_cases (eqb b.path path) refl
  where
    by_cases : (t : Bool) → eqb b.path path ≡ t → Contains (other_paths path (b ∷ literals)) a
    by_cases true f = rw (f) (⊎_elim
        (λ same. absurd (true≢false (sym f ∙ (ap (λ (x : Literal). eqb x.path path) same ∙ e))))
        (λ later. rest later)
        (front_or_behind b literals a m))
    by_cases false f = rw (f) (⊎_elim
        (λ same. subst (λ x. Contains (b ∷ other_paths path literals) x) same (at_front b (other_paths path literals)))
        (λ later. behind b (other_paths path literals) a (rest later))
        (front_or_behind b literals a m))

others-has : (literals : List Literal) (path : ℕ) (a : Literal) → Contains literals a → eqb a.path path ≡ false → Contains (other_paths path literals) a
others-has [] path a m e = absurd (no_member a m)
others-has (b ∷ literals) path a m e = has-more b literals path a e m (λ later. others-has literals path a later e)

-- without a path's literal, and with it again
module _ (instance : Instance) (literals pushed : List Literal) (whole : IsPartial instance literals) (partial : IsPartial instance pushed) (within : HasAll literals pushed) (a : Literal) (m : Contains literals a) where
  abbrev again : List Literal
  again = other_paths a.path pushed ++ a ∷ []

  same-path : (b : Literal) → Contains literals b → b.path ≡ a.path → b ≡ a
  same-path b n same = one-of-path literals whole.distinct b a n m same

  has-again : HasAll again pushed
  has-again = All-from_members (Contains again) pushed (λ b n. ⊎_elim
      (λ yes. subst (λ x. Contains again x) (sym (same-path b (All-contains (Contains literals) pushed b within n) (eqb-true b.path a.path yes)))
      (Contains-append_right (other_paths a.path pushed) (a ∷ []) a (at_front a [])))
      (λ no. Contains-append_left (other_paths a.path pushed) (a ∷ []) b (others-has pushed a.path b n no))
      (cases_Bool (eqb b.path a.path)))

  again-partial : IsPartial instance again
  again-partial = snoc-partial instance (other_paths a.path pushed) a (others-partial instance pushed a.path partial) (All-contains (IsLiteral instance) literals a whole.in_range m) (others-apart pushed a.path)

  again-within : HasAll literals again
  again-within = All-append (Contains literals) (other_paths a.path pushed) (a ∷ []) (has-trans (other_paths a.path pushed) pushed literals (others-within pushed a.path) within) (All-cons (Contains literals) a [] m (All-nil (Contains literals)))

module _ (instance : Instance) (cites : List Cite) (lines : List LogLine) (literals pushed : List Literal) (node : Node) (asked : IsNodeToExplain instance literals node) (why : Explains instance cites lines literals pushed node) where
  module _ (path : ℕ) where
    free-stays : (ref : Ref) → IsOffPath cites lines path ref → StaysFor cites lines literals pushed ref → StaysFor cites lines literals (other_paths path pushed) ref
    free-stays (Own n) free stay = λ line at a m l. others-has pushed path a (stay line at a m l) (none-member (λ (x : Literal). eqb x.path path) line.lits (free line at) a m)
    free-stays (Row r) free stay = λ a may l. others-has pushed path a (stay a may l) (none-member (λ (x : Literal). eqb x.path path) (row_literals free.0.content) free.2 a (may free.0 free.1.0 free.1.1))

    pub asked-without : IsNodeToExplain instance (other_paths path pushed) node
    asked-without = asked-fewer instance literals (other_paths path pushed) node asked (others-partial instance pushed path why.partial)
        (has-trans (other_paths path pushed) pushed literals (others-within pushed path) why.within)

    pub explains-without : All (λ (r : ChoiceRef). IsOffPath cites lines path r.line) node.refs → IsClosedBy instance (other_paths path pushed) node → Explains instance cites lines literals (other_paths path pushed) node
    explains-without free closed = record {
      partial = others-partial instance pushed path why.partial;
      within = has-trans (other_paths path pushed) pushed literals (others-within pushed path) why.within;
      stay = All-from_members (λ (r : ChoiceRef). StaysFor cites lines literals (other_paths path pushed) r.line) node.refs (λ r m.
          free-stays r.line (All-contains (λ (x : ChoiceRef). IsOffPath cites lines path x.line) node.refs r free m) (All-contains (λ (x : ChoiceRef). StaysFor cites lines literals pushed x.line) node.refs r why.stay m));
      closed = closed;
    }

  -- and with it again
  module _ (a : Literal) (m : Contains literals a) where
    abbrev once : List Literal
    once = again instance literals pushed asked.partial why.partial why.within a m

    has-once : HasAll once pushed
    has-once = has-again instance literals pushed asked.partial why.partial why.within a m

    once-partial : IsPartial instance once
    once-partial = again-partial instance literals pushed asked.partial why.partial why.within a m

    once-within : HasAll literals once
    once-within = again-within instance literals pushed asked.partial why.partial why.within a m

    stays-more : (ref : Ref) → StaysFor cites lines literals pushed ref → StaysFor cites lines literals once ref
    stays-more (Own n) stay = λ line at b k l. All-contains (Contains once) pushed b has-once (stay line at b k l)
    stays-more (Row r) stay = λ b may l. All-contains (Contains once) pushed b has-once (stay b may l)

    closed-more : (i : ℕ) → i < node.count → IsSettled instance node.tag.code pushed node.path node.refs i → IsSettled instance node.tag.code once node.path node.refs i
    closed-more i l (inl listed) = inl listed
    closed-more i l (inr dead) = inr (dead-more instance (triple_from node.tag.code) (literal node.path i ∷ pushed) (literal node.path i ∷ once) asked.valid
        (with-literal instance pushed node.path i why.partial asked.small (omega (arith, l, asked.counted)) (names-same literals pushed node.path why.within asked.apart))
        (with-literal instance once node.path i once-partial asked.small (omega (arith, l, asked.counted)) (names-same literals once node.path once-within asked.apart))
        (has-cons (literal node.path i) pushed once has-once) dead)

    pub explains-again : Explains instance cites lines literals once node
    explains-again = record {
      partial = once-partial;
      within = once-within;
      stay = All-from_members (λ (r : ChoiceRef). StaysFor cites lines literals once r.line) node.refs (λ r k. stays-more r.line (All-contains (λ (x : ChoiceRef). StaysFor cites lines literals pushed x.line) node.refs r why.stay k));
      closed = λ i l. closed-more i l (why.closed i l);
    }

-- all literals explain
pub explains-all : (instance : Instance) (cites : List Cite) (lines : List LogLine) (literals : List Literal) (node : Node) → IsNodeToExplain instance literals node → IsClosedBy instance literals node → Explains instance cites lines literals literals node
explains-all instance cites lines literals node asked closed = record {
  partial = asked.partial;
  within = has-same literals;
  stay = All-from_members (λ (r : ChoiceRef). StaysFor cites lines literals literals r.line) node.refs (λ r m. stays-all r.line);
  closed = closed;
}
  where
    stays-all : (ref : Ref) → StaysFor cites lines literals literals ref
    stays-all (Own n) = λ line at a m l. l
    stays-all (Row r) = λ a may l. l

-- or there was no memory
pub lined-err : {E : Type 0} → (instance : Instance) (literals : List Literal) (tag : Tag) (path : Option ℕ) (refs : List ChoiceRef) (log : LogState) (result : Result Found E) → IsErr result → IsLined instance literals tag path refs log log result
lined-err instance literals tag path refs log (Ok found) err = cc
lined-err instance literals tag path refs log (Err e) err = refl

-- ---- literals that are dead

module _ (instance : Instance) (valid : IsInstance instance) (tag : ℕ) (literals pushed : List Literal) (whole : IsPartial instance literals) (part : IsDeadPart instance tag literals pushed) where
  pub part-without : (path : ℕ) → Dead instance (triple_from tag) (other_paths path pushed) → IsDeadPart instance tag literals (other_paths path pushed)
  part-without path dead = record {
    partial = others-partial instance pushed path part.partial;
    within = has-trans (other_paths path pushed) pushed literals (others-within pushed path) part.within;
    dead = dead;
  }

  pub part-again : (a : Literal) → Contains literals a → IsDeadPart instance tag literals (other_paths a.path pushed ++ a ∷ [])
  part-again a m = record {
    partial = again-partial instance literals pushed whole part.partial part.within a m;
    within = again-within instance literals pushed whole part.partial part.within a m;
    dead = dead-more instance (triple_from tag) pushed (other_paths a.path pushed ++ a ∷ []) valid part.partial (again-partial instance literals pushed whole part.partial part.within a m)
        (has-again instance literals pushed whole part.partial part.within a m) part.dead;
  }

pub part-all : (instance : Instance) (tag : ℕ) (literals : List Literal) → IsPartial instance literals → Dead instance (triple_from tag) literals → IsDeadPart instance tag literals literals
part-all instance tag literals partial dead = record { partial = partial; within = has-same literals; dead = dead }

pub over-false : (b : Bool) → not b ≡ false → b ≡ true
over-false true e = refl
over-false false e = cc
