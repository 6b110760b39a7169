-- A line on the literals that are pushed is good, where what it says holds of them.
use Rattle.std.proofs.Common.{◌≡◌, ◌≢◌, ℕ, ◌<◌, ◌≤◌, true, false, eqb, List, [], ◌∷◌, length, get_or, All, Contains, IsTrue, Some, None, refl, sym, subst, inl, inr, ⊎_elim}
use Rattle.std.specs.List.{AllZip}
use Rattle.std.proofs.lemmas.Bool.{and_from, eq-eqb, true≢false}
use Rattle.std.proofs.lemmas.List.Elements.{All-contains, All-cons, All-head, All-nil, All-tail}
use Rattle.std.proofs.lemmas.List.Sums.{list_all-from_AllPass}
use Rattle.fapp_model.specs.declared.instance.Instance.{Instance}
use Rattle.fapp_model.specs.declared.literal.Literal.{Literal}
use Rattle.fapp_model.specs.Assignments.{count_at}
use Rattle.fapp_model.specs.InstanceTags.{IsTagFor}
use Rattle.fapp_model.specs.Instances.{IsInstance}
use Rattle.fapp_model.specs.Tags.{mode_level, triple_from}
use Rattle.fapp_model.specs.search.Arcs.{OutsideArc}
use Rattle.fapp_model.specs.search.Dead.{Dead}
use Rattle.fapp_model.specs.search.Partials.{HasAll, IsPartial, literal, names}
use Rattle.fapp_model.proofs.Anys.{any-member, no-member, none-member}
use Rattle.cert_lines.specs.acceptance.Contained.{has, has_all, has_all_but_one, is_same}
use Rattle.dead_laws.proofs.DeadMore.{dead-more}
use Rattle.dead_laws.proofs.DeadTests.{dead_by-along}
use Rattle.search_log.specs.declared.line.ChoiceRef.{ChoiceRef}
use Rattle.search_log.specs.declared.line.LogLine.{LogLine}
use Rattle.search_log.specs.Contents.{Cites, Content, KnownRow}
use Rattle.search_log.specs.GoodLines.{AreRefs, IsBranch, IsChildOf, IsCount, IsGoodLine, IsOutside, PassesBy}
use Rattle.search_log.proofs.Implying.{lits-partial}
use Rattle.settle_laws.specs.Lines.{AreSorted}
use Rattle.settle_laws.specs.Trying.{AreTriedChoices, IsTriedChild}
use Rattle.settle_laws.proofs.Adding.{has-cons, has-trans}
use Rattle.dead_laws.proofs.OneMoreLiteral.{with-literal}

-- ---- lists that have literals

contains-has : (literals : List Literal) (a : Literal) → Contains literals a → has literals a ≡ true
contains-has literals a m = any-member (λ (b : Literal). is_same b a) literals a m (and_from (eqb a.path a.path) (eqb a.choice a.choice) (eq-eqb a.path a.path refl) (eq-eqb a.choice a.choice refl))

pub each-has_all : (literals cited : List Literal) → HasAll literals cited → has_all literals cited ≡ true
each-has_all literals cited h = list_all-from_AllPass (has literals) cited (λ k d l. contains-has literals (get_or cited k d) (h k d l))

pub names-same : (pushed literals : List Literal) (path : ℕ) → HasAll pushed literals → names pushed path ≡ false → names literals path ≡ false
names-same pushed literals path only none = no-member (λ (a : Literal). eqb a.path path) literals (λ a m. none-member (λ (b : Literal). eqb b.path path) pushed none a (All-contains (Contains pushed) literals a only m))

-- ---- what is cited, side by side

-- contents that stand beside the references
record Beside (rows : List KnownRow) (lines : List LogLine) (literals : List Literal) (tag path : ℕ) (refs : List ChoiceRef) : Type 0 where
  contents : List Content
  cites : AllZip (λ (ref : ChoiceRef) content. Cites rows lines ref.line content) refs contents
  contained : AllZip (IsChildOf path literals) refs contents
  reaches : All (λ content. tag ≤ content.tag) contents

beside : (instance : Instance) (rows : List KnownRow) (lines : List LogLine) (pushed literals : List Literal) (tag path : ℕ) → HasAll literals pushed → (refs : List ChoiceRef) → All (IsTriedChild instance rows lines pushed tag path) refs → Beside rows lines literals tag path refs
beside instance rows lines pushed literals tag path has [] h = record { contents = []; cites = tt; contained = tt; reaches = All-nil (λ (content : Content). tag ≤ content.tag) }
beside instance rows lines pushed literals tag path has (ref ∷ refs) h =
    let first = All-head (IsTriedChild instance rows lines pushed tag path) ref refs h in
    let rest = beside instance rows lines pushed literals tag path has refs (All-tail (IsTriedChild instance rows lines pushed tag path) ref refs h) in
    record {
      contents = first.content ∷ rest.contents;
      cites = (first.cited, rest.cites);
      contained = (each-has_all (literal path ref.choice ∷ literals) first.content.lits (has-trans first.content.lits (literal path ref.choice ∷ pushed) (literal path ref.choice ∷ literals) first.contained (has-cons (literal path ref.choice) pushed literals has)), rest.contained);
      reaches = All-cons (λ (content : Content). tag ≤ content.tag) first.content rest.contents first.reaches rest.reaches;
    }

-- ---- good lines

module _ (instance : Instance) (valid : IsInstance instance) (pushed : List Literal) (partial : IsPartial instance pushed) (rows : List KnownRow) (lines : List LogLine) (line : LogLine) (sorted : AreSorted instance pushed line.lits) (own : IsTagFor instance line.tag) where
  line-partial : IsPartial instance line.lits
  line-partial = lits-partial instance line.lits sorted.are

  module _ (path : ℕ) (small : path < length instance.paths) (apart : names pushed path ≡ false) (path_is : line.path ≡ Some path) (tried : AreTriedChoices instance rows lines pushed line.tag.code path (count_at instance path) line.refs) where
    children : Beside rows lines line.lits line.tag.code path line.refs
    children = beside instance rows lines pushed line.lits line.tag.code path sorted.has line.refs tried.children

    free : names line.lits path ≡ false
    free = names-same pushed line.lits path sorted.only apart

    is-branch : IsBranch instance line.tag.code line.lits path line.refs children.contents
    is-branch = record {
      apart = free;
      contained = children.contained;
      reaches = children.reaches;
      settled = λ choice below. ⊎_elim
          (λ listed. inl listed)
          (λ dead. inr (dead-more instance (triple_from line.tag.code) (literal path choice ∷ pushed) (literal path choice ∷ line.lits) valid
          (with-literal instance pushed path choice partial small below apart) (with-literal instance line.lits path choice line-partial small below free)
          (has-cons (literal path choice) pushed line.lits sorted.has) dead))
          (tried.settled choice below);
    }

    pub branch-good : IsGoodLine instance rows lines line
    branch-good = record {
      tag = own;
      lits = sorted.are;
      refs = subst (λ p. AreRefs instance p line.refs) (sym path_is) (record { path_in_range = small; in_range = tried.below; ascending = tried.ascending });
      contents = children.contents;
      cites = children.cites;
      passes = λ some. subst (λ p. PassesBy instance line children.contents p) (sym path_is) is-branch;
    }

  module _ (path_is : line.path ≡ None) (none : line.refs ≡ []) (dead : Dead instance (triple_from line.tag.code) pushed) where
    is-count : IsCount instance line.tag.code line.lits []
    is-count = record {
      contained = All-nil (λ (content : Content). IsTrue (has_all_but_one line.lits content.lits));
      reaches = All-nil (λ (content : Content). line.tag.code ≤ content.tag);
      dead = dead_by-along instance (OutsideArc instance (mode_level (triple_from line.tag.code))) (IsOutside instance line.tag.code [] line.lits)
          (λ a home. ((λ out. inl out), (λ h. ⊎_elim (λ o. o) (λ e. absurd (true≢false (sym e))) h)))
          (triple_from line.tag.code) line.lits line-partial
          (dead-more instance (triple_from line.tag.code) pushed line.lits valid partial line-partial sorted.has dead);
    }

    pub count-good : IsGoodLine instance rows lines line
    count-good = record {
      tag = own;
      lits = sorted.are;
      refs = subst (λ p. AreRefs instance p line.refs) (sym path_is) tt;
      contents = [];
      cites = subst (λ (refs : List ChoiceRef). AllZip (λ (ref : ChoiceRef) content. Cites rows lines ref.line content) refs []) (sym none) tt;
      passes = λ some. subst (λ p. PassesBy instance line [] p) (sym path_is) is-count;
    }
