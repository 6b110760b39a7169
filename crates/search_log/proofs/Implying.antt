-- A good line is implied, where what it cites is.
use Rattle.std.proofs.Common.{◌≡◌, ℕ, zero, suc, ◌<◌, ◌≤◌, List, ◌∷◌, length, take, get_or, All, IsTrue, Option, Some, None, eqb, refl, sym, subst, ⊎_elim, arith}
use Rattle.std.specs.List.{list_any, slice_get}
use Rattle.std.proofs.lemmas.Bool.{cases_lt, eqb-true}
use Rattle.std.proofs.lemmas.Option.{slice_get-get_or}
use Rattle.std.proofs.lemmas.List.Elements.{All-contains}
use Rattle.fapp_model.specs.declared.instance.Instance.{Instance}
use Rattle.fapp_model.specs.declared.literal.Literal.{Literal}
use Rattle.fapp_model.specs.Assignments.{count_at}
use Rattle.fapp_model.specs.Costs.{cost}
use Rattle.fapp_model.specs.Instances.{IsInstance}
use Rattle.fapp_model.specs.Tags.{IsTagOf, triple_from}
use Rattle.fapp_model.specs.Triples.{IsBelow}
use Rattle.fapp_model.specs.search.Dead.{Dead}
use Rattle.fapp_model.specs.search.Implied.{Implied, RulesOut}
use Rattle.fapp_model.specs.search.Partials.{AreLiterals, HasAll, IsPartial, literal}
use Rattle.fapp_model.proofs.Anys.{passing}
use Rattle.fapp_model.proofs.Members.{All-from_members}
use Rattle.dead_laws.proofs.DeadImplied.{dead-by-arcs-and-test, dead-implied}
use Rattle.dead_laws.proofs.DeadLower.{nothing_below}
use Rattle.dead_laws.proofs.ImpliedLemmas.{Implied-branch, Implied-lower, Implied-more}
use Rattle.cert_lines.specs.acceptance.Contained.{has, has_all}
use Rattle.search_log.specs.declared.line.ChoiceRef.{ChoiceRef}
use Rattle.search_log.specs.declared.line.LogLine.{LogLine}
use Rattle.search_log.specs.declared.line.Ref.{Ref}
use Rattle.search_log.specs.declared.line.Ref.TheVariants.{Own, Row}
use Rattle.search_log.specs.Contents.{Cites, Content, KnownRow, content_of, known_row}
use Rattle.search_log.specs.GoodLines.{AreGoodLines, IsBranch, IsChildOf, IsCount, IsGoodLine, PassesBy, is_ruled_out}
use Rattle.search_log.specs.LogLaws.{IsContentImplied}
use Rattle.fapp_model.proofs.CodeOrder.{codes-at_most}
use Rattle.search_log.proofs.ByPlace.{get-take, zip-left, zip-right}
use Rattle.cert_lines.proofs.Having.{has_all-each}
use Rattle.dead_laws.proofs.OneMoreLiteral.{with-literal}

-- ---- lists that have literals

-- literals of a line are a partial assignment, and so they are with one of a path that they don't name
pub lits-partial : (instance : Instance) (literals : List Literal) → AreLiterals instance literals → IsPartial instance literals
lits-partial instance literals h = record {
  in_range = h.in_range;
  distinct = λ i j d less small same. let below = h.ascending i j d less small in omega arith;
}

-- ---- one line

-- whatever a reference names is implied
abbrev pub CitesImplied : Instance → List KnownRow → List LogLine → Type 0
CitesImplied instance rows earlier = (ref : Ref) (content : Content) → Cites rows earlier ref content → IsContentImplied instance content

module _ (instance : Instance) (valid : IsInstance instance) where
  -- what has the literals of a content is implied at a tag that is no greater
  content-implied : (tag : ℕ) (content : Content) (literals : List Literal) → IsContentImplied instance content → tag ≤ content.tag → HasAll literals content.lits → Implied instance (triple_from tag) literals
  content-implied tag content literals implied most has = Implied-more instance (triple_from tag) content.lits literals has
      (Implied-lower instance (triple_from content.tag) (triple_from tag) content.lits (codes-at_most tag content.tag most) implied)

  count-implied : (tag : ℕ) (literals : List Literal) (contents : List Content) → IsTagOf instance (triple_from tag) → IsPartial instance literals → All (IsContentImplied instance) contents → IsCount instance tag literals contents → Implied instance (triple_from tag) literals
  count-implied tag literals contents own partial implied h =
      dead-by-arcs-and-test (is_ruled_out contents literals) instance (triple_from tag) literals valid own partial rules-out h.dead
    where
      rules-out : RulesOut instance (triple_from tag) literals (λ a. IsTrue (is_ruled_out contents literals a))
      rules-out a at_home ruled =
          let found = passing (λ content. has_all (a ∷ literals) content.lits) contents ruled in
          content-implied tag found.item (a ∷ literals)
          (All-contains (IsContentImplied instance) contents found.item implied found.member)
          (All-contains (λ content. tag ≤ content.tag) contents found.item h.reaches found.member)
          (has_all-each (a ∷ literals) found.item.lits found.passes)

  branch-implied : (tag : ℕ) (literals : List Literal) (path : ℕ) (refs : List ChoiceRef) (contents : List Content) → IsTagOf instance (triple_from tag) → IsPartial instance literals → path < length instance.paths → All (IsContentImplied instance) contents → IsBranch instance tag literals path refs contents → Implied instance (triple_from tag) literals
  branch-implied tag literals path refs contents own partial small implied h = Implied-branch instance (triple_from tag) literals path small
      (λ index below. ⊎_elim (by-child index) (by-arcs index below) (h.settled index below))
    where
      by-child : (index : ℕ) → IsTrue (list_any (λ r. eqb r.choice index) refs) → Implied instance (triple_from tag) (literal path index ∷ literals)
      by-child index listed =
          let found = passing (λ (r : ChoiceRef). eqb r.choice index) refs listed in
          let beside = zip-left (IsChildOf path literals) refs contents h.contained found.item found.member in
          subst (λ c. Implied instance (triple_from tag) (literal path c ∷ literals)) (eqb-true found.item.choice index found.passes)
          (content-implied tag beside.0 (literal path found.item.choice ∷ literals)
          (All-contains (IsContentImplied instance) contents beside.0 implied beside.1)
          (All-contains (λ content. tag ≤ content.tag) contents beside.0 h.reaches beside.1)
          (has_all-each (literal path found.item.choice ∷ literals) beside.0.lits beside.2))

      by-arcs : (index : ℕ) → index < count_at instance path → Dead instance (triple_from tag) (literal path index ∷ literals) → Implied instance (triple_from tag) (literal path index ∷ literals)
      by-arcs index below dead = dead-implied instance (triple_from tag) (literal path index ∷ literals) valid own (with-literal instance literals path index partial small below h.apart) dead

  module _ (rows : List KnownRow) (earlier : List LogLine) (cited : CitesImplied instance rows earlier) (line : LogLine) (good : IsGoodLine instance rows earlier line) where
    contents-implied : All (IsContentImplied instance) good.contents
    contents-implied = All-from_members (IsContentImplied instance) good.contents (λ content m.
        let beside = zip-right (λ (ref : ChoiceRef) content. Cites rows earlier ref.line content) line.refs good.contents good.cites content m in
        cited beside.0.line content beside.2)

    by-rule : (path : Option ℕ) → line.path ≡ path → PassesBy instance line good.contents path → IsContentImplied instance (content_of line)
    by-rule (Some path) e h = branch-implied line.tag.code line.lits path line.refs good.contents good.tag (lits-partial instance line.lits good.lits) (rw e at good.refs).path_in_range contents-implied h
    by-rule None e h = count-implied line.tag.code line.lits good.contents good.tag (lits-partial instance line.lits good.lits) contents-implied h

    nothing-less : line.tag.code ≡ 0 → IsContentImplied instance (content_of line)
    nothing-less e = λ plan feasible extends below. nothing_below (cost instance plan) (subst (λ n. IsBelow (cost instance plan) (triple_from n)) e below)

    pub line-implied : IsContentImplied instance (content_of line)
    line-implied = ⊎_elim
        (λ some. by-rule line.path refl (good.passes some))
        (λ none. nothing-less (omega arith))
        (cases_lt 0 line.tag.code)

-- ---- all lines

module _ (instance : Instance) (valid : IsInstance instance) (rows : List KnownRow) (rows_implied : All (λ (row : KnownRow). IsContentImplied instance row.content) rows) (lines : List LogLine) (good : AreGoodLines instance rows lines) where
  cites-implied : (n : ℕ) → ((m : ℕ) (line : LogLine) → m < n → slice_get lines m ≡ Some line → IsContentImplied instance (content_of line)) → CitesImplied instance rows (take n lines)
  cites-implied n before (Own k) content h =
      let there = get-take lines n k h.0 h.1 in
      subst (IsContentImplied instance) (sym h.2) (before k h.0 there.0 there.1)
  cites-implied n before (Row r) content h = All-contains (λ (row : KnownRow). IsContentImplied instance row.content) rows (known_row r content) rows_implied h

  lines-before : (n m : ℕ) (line : LogLine) → m < n → slice_get lines m ≡ Some line → IsContentImplied instance (content_of line)
  lines-before zero m line l e = absurd (omega arith)
  lines-before (suc n) m line l e = line-implied instance valid rows (take m lines) (cites-implied m (λ k other below at. lines-before n k other (omega arith) at)) line (good m line e)

  pub lines-implied : All (λ line. IsContentImplied instance (content_of line)) lines
  lines-implied k d l = lines-before (suc k) k (get_or lines k d) (omega arith) (slice_get-get_or lines k d l)
