-- A good line of a log is good and well formed as the certificate has it.
use Rattle.std.proofs.Common.{◌≡◌, ℕ, ◌<◌, ◌≤◌, Bool, true, false, not, List, [], ◌∷◌, length, flat_map, refl, ap, sym, subst, ◌∙◌, inl, inr, arith, None, AllPairs, Contains, eqb, cond}
use Rattle.std.specs.List.{AllZip, list_any, list_all, range_with_len}
use Rattle.std.proofs.lemmas.Bool.{or_left, or_right, eqb-true, eqb-false, eq-eqb, ne_eqb, not_from_false}
use Rattle.std.proofs.lemmas.List.Elements.{All-contains, All-nil}
use Rattle.fapp_model.specs.declared.instance.Instance.{Instance}
use Rattle.fapp_model.specs.declared.literal.Literal.{Literal}
use Rattle.fapp_model.specs.declared.tag.Tag.{Tag}
use Rattle.fapp_model.specs.Assignments.{count_at}
use Rattle.fapp_model.specs.Instances.{IsInstance, IsNumber}
use Rattle.fapp_model.specs.InstanceTags.{IsTagFor}
use Rattle.fapp_model.specs.Tags.{mode_level, triple_from}
use Rattle.fapp_model.specs.search.Arcs.{OutsideArc}
use Rattle.fapp_model.specs.search.Dead as Dead
use Rattle.fapp_model.specs.search.Dead.{Dead}
use Rattle.fapp_model.specs.search.Partials.{AreLiterals, literal, names, IsPartial}
use Rattle.fapp_model.proofs.Anys.{any-member, passing}
use Rattle.fapp_model.proofs.InOrder.{pairs-cons, pairs-flat_map, pairs-nil, pairs-weaker}
use Rattle.fapp_model.proofs.Members.{All-from_members, at_front, from-flat_map, from-range, front_or_behind, in-flat_map, no_member}
use Rattle.cert_lines.specs.declared.answer.Child.{Child}
use Rattle.cert_lines.specs.declared.answer.Line.{Line}
use Rattle.cert_lines.specs.declared.reject.RejectCause.TheVariants.{NotDead, WrongPath}
use Rattle.cert_lines.specs.WellFormed.{IsChild, IsLine}
use Rattle.cert_lines.specs.acceptance.Contained.{has_all}
use Rattle.cert_lines.specs.acceptance.Excluded.{is_cited, is_excluded, is_marked}
use Rattle.cert_lines.specs.acceptance.LineFaults.{first_of, cause_unless, child_fault, is_dead, is_settled, branch_fault, line_fault}
use Rattle.cert_lines.proofs.Deleting.{plain-excluded}
use Rattle.dead_laws.proofs.DeadLower.{dead_lower}
use Rattle.dead_laws.proofs.DeadMore.{dead-more}
use Rattle.fapp_model.proofs.CodeOrder.{codes-at_most}
use Rattle.accept_laws.proofs.Having.{formed-partial}
use Rattle.cert_lines.proofs.Having.{has_all-each}
use Rattle.accept_laws.proofs.Judging.{judged-where-excluded}
use Rattle.accept_laws.proofs.Options.{both-none}
use Rattle.search_log.specs.declared.line.ChoiceRef.{ChoiceRef}
use Rattle.search_log.specs.declared.line.LogLine.{LogLine}
use Rattle.search_log.specs.declared.line.Ref.{Ref}
use Rattle.search_log.specs.Contents.{Cites, Content, KnownRow}
use Rattle.search_log.specs.GoodLines.{AreBranchRefs, IsBranch, IsChildOf}
use Rattle.merge_laws.specs.Fates.{AreMarked, IsFate}
use Rattle.merge_laws.specs.Written.{child_for, written, written_child}
use Rattle.merge_laws.proofs.Beside.{zip-both}
use Rattle.dead_laws.proofs.OneMoreLiteral.{with-literal}
use Rattle.accept_laws.proofs.Renumbering.{above-least, passes-none}
use Rattle.merge_laws.proofs.Clean.{all-from, clean-cite, first_of-clean}

-- what is dead is judged dead, from lines that mark the choices outside the arcs, whatever is cited
pub marked-judged : (instance : Instance) (out : List Line) (t : Tag) (cites : List ℕ) (literals : List Literal) → AreMarked instance out → IsTagFor instance t → IsPartial instance literals → 0 < t.code → Dead instance (triple_from t.code) literals → is_dead instance out t cites literals ≡ true
marked-judged instance out t cites literals marked own partial some dead =
    judged-where-excluded (OutsideArc instance (mode_level (triple_from t.code))) (is_excluded out t cites literals) instance (triple_from t.code) literals partial
    (λ a home outside. plain-excluded out marked.plain t cites literals a ∙ or_left (is_marked out t a) (is_cited out cites literals a) (marked.marks t a own home outside))
    (above-least t.code some) dead

-- what a written child is
not-zero : (choice n : ℕ) (z : Child) → Contains (child_for choice n) z → (0 < n) × (record { choice = choice; cite = n } ≡ z)
not-zero choice n z m = by_zero (eqb n 0) refl m
  where
    by_zero : (b : Bool) → eqb n 0 ≡ b → Contains (cond b [] (record { choice = choice; cite = n } ∷ [])) z → (0 < n) × (record { choice = choice; cite = n } ≡ z)
    by_zero true e m = absurd (no_member z m)
    by_zero false e m = (let apart = eqb-false n 0 e in omega arith, elim (front_or_behind (record { choice = choice; cite = n }) [] z m) [ inl here ↦ here | inr later ↦ absurd (no_member z later) ])

child-there : (choice n : ℕ) → 0 < n → Contains (child_for choice n) (record { choice = choice; cite = n })
child-there choice n some = rw (ne_eqb n 0 (omega arith)) (at_front (record { choice = choice; cite = n }) [])

abbrev Rise : Child → Child → Type 0
Rise a b = a.choice < b.choice

one-rises : (choice n : ℕ) → AllPairs Rise (child_for choice n)
one-rises choice n = by_zero (eqb n 0)
  where
    by_zero : (b : Bool) → AllPairs Rise (cond b [] (record { choice = choice; cite = n } ∷ []))
    by_zero true = pairs-nil Rise
    by_zero false = pairs-cons Rise (record { choice = choice; cite = n }) [] (All-nil (Rise (record { choice = choice; cite = n }))) (pairs-nil Rise)

-- what each reference of a line names has its fate
abbrev pub HaveFates : Instance → List KnownRow → List LogLine → List Line → (Ref → ℕ) → LogLine → Type 0
HaveFates instance rows earlier out number line = (ref : ChoiceRef) (content : Content) → Contains line.refs ref →
    Cites rows earlier ref.line content → IsFate instance out content (number ref.line)

module _ (instance : Instance) (rows : List KnownRow) (earlier : List LogLine) (out : List Line) (number : Ref → ℕ) (line : LogLine) (path : ℕ) (valid : IsInstance instance) (marked : AreMarked instance out)
    (fates : HaveFates instance rows earlier out number line) (above : 0 < line.tag.code) (own : IsTagFor instance line.tag) (lits : AreLiterals instance line.lits) (refs : AreBranchRefs instance path line.refs)
    (contents : List Content) (cites : AllZip (λ (ref : ChoiceRef) content. Cites rows earlier ref.line content) line.refs contents) (branch : IsBranch instance line.tag.code line.lits path line.refs contents) where
  abbrev pub children : List Child
  children = flat_map (written_child number) line.refs

  -- what a reference names, with its fate
  record Named (ref : ChoiceRef) : Type 0 where
    pub content : Content
    pub within : has_all (literal path ref.choice ∷ line.lits) content.lits ≡ true
    pub reaches : line.tag.code ≤ content.tag
    pub fate : IsFate instance out content (number ref.line)

  named : (ref : ChoiceRef) → Contains line.refs ref → Named ref
  named ref m =
      let r = zip-both (λ (ref : ChoiceRef) content. Cites rows earlier ref.line content) (IsChildOf path line.lits) line.refs contents cites branch.contained ref m in
      record {
        content = r.0;
        within = r.3;
        reaches = All-contains (λ content. line.tag.code ≤ content.tag) contents r.0 branch.reaches r.1;
        fate = fates ref r.0 m r.2;
      }

  small-choice : (ref : ChoiceRef) → Contains line.refs ref → ref.choice < count_at instance path
  small-choice ref m = All-contains (λ (r : ChoiceRef). r.choice < count_at instance path) line.refs ref refs.in_range m

  child-good : (ref : ChoiceRef) → Contains line.refs ref → 0 < number ref.line → child_fault out line.tag line.lits path (record { choice = ref.choice; cite = number ref.line }) ≡ None
  child-good ref m some =
      let c = named ref m in
      elim c.fate [
        | inl left ↦ absurd (let e = left.none in omega arith)
        | inr stands ↦ clean-cite out marked.plain line.tag (has_all (literal path ref.choice ∷ line.lits)) (number ref.line) stands.low stands.high
            (subst (λ lits. has_all (literal path ref.choice ∷ line.lits) lits ≡ true) (sym stands.lits_are) c.within)
            (let e = stands.tag_is in let r = c.reaches in omega arith)
      ]

  -- which reference a written child is of
  record From (z : Child) : Type 0 where
    pub ref : ChoiceRef
    pub member : Contains line.refs ref
    pub some : 0 < number ref.line
    pub is : record { choice = ref.choice; cite = number ref.line } ≡ z

  from-child : (z : Child) → Contains children z → From z
  from-child z m =
      let found = from-flat_map (written_child number) line.refs z m in
      let there = not-zero found.0.choice (number found.0.line) z found.2 in
      record { ref = found.0; member = found.1; some = there.0; is = there.1 }

  written-child-good : (z : Child) → Contains children z → child_fault out line.tag line.lits path z ≡ None
  written-child-good z m = let f = from-child z m in subst (λ y. child_fault out line.tag line.lits path y ≡ None) f.is (child-good f.ref f.member f.some)

  whole : (index : ℕ) → index < count_at instance path → IsPartial instance (literal path index ∷ line.lits)
  whole index below = with-literal instance line.lits path index (formed-partial instance line.lits lits) refs.path_in_range below branch.apart

  judged : (index : ℕ) → index < count_at instance path → Dead instance (triple_from line.tag.code) (literal path index ∷ line.lits) → is_settled instance out line.tag line.lits path children index ≡ true
  judged index below dead = or_right (list_any (λ child. eqb child.choice index) children) (is_dead instance out line.tag [] (literal path index ∷ line.lits))
      (marked-judged instance out line.tag [] (literal path index ∷ line.lits) marked own (whole index below) above dead)

  by-child : (ref : ChoiceRef) → Contains line.refs ref → is_settled instance out line.tag line.lits path children ref.choice ≡ true
  by-child ref m =
      let c = named ref m in
      let below = small-choice ref m in
      elim c.fate [
        | inl left ↦ judged ref.choice below
            (dead-more instance (triple_from line.tag.code) c.content.lits (literal path ref.choice ∷ line.lits) valid left.partial (whole ref.choice below) (has_all-each (literal path ref.choice ∷ line.lits) c.content.lits c.within)
            (dead_lower instance (triple_from c.content.tag) (triple_from line.tag.code) c.content.lits valid left.tag_of own (codes-at_most line.tag.code c.content.tag c.reaches) left.dead))
        | inr stands ↦ or_left (list_any (λ z. eqb z.choice ref.choice) children) (is_dead instance out line.tag [] (literal path ref.choice ∷ line.lits))
            (any-member (λ z. eqb z.choice ref.choice) children (record { choice = ref.choice; cite = number ref.line })
            (in-flat_map (written_child number) line.refs ref (record { choice = ref.choice; cite = number ref.line }) m (child-there ref.choice (number ref.line) stands.low))
            (eq-eqb ref.choice ref.choice refl))
      ]

  index-settled : (index : ℕ) → index < count_at instance path → is_settled instance out line.tag line.lits path children index ≡ true
  index-settled index below = elim (branch.settled index below) [
    | inl listed ↦ (let found = passing (λ (r : ChoiceRef). eqb r.choice index) line.refs listed in
        subst (λ i. is_settled instance out line.tag line.lits path children i ≡ true) (eqb-true found.item.choice index found.passes) (by-child found.item found.member))
    | inr dead ↦ judged index below dead
  ]

  branch-clean : branch_fault instance out line.tag line.lits path children ≡ None
  branch-clean =
      both-none (cause_unless (not (names line.lits path)) WrongPath) _ (passes-none (not (names line.lits path)) WrongPath (not_from_false (names line.lits path) branch.apart))
      (both-none (first_of (child_fault out line.tag line.lits path) children) _ (first_of-clean (child_fault out line.tag line.lits path) children written-child-good)
      (passes-none (list_all (is_settled instance out line.tag line.lits path children) (range_with_len 0 (count_at instance path))) NotDead
      (all-from (is_settled instance out line.tag line.lits path children) (range_with_len 0 (count_at instance path)) (λ index m. index-settled index (from-range (count_at instance path) index m)))))

  pub written-good : line_fault instance out (written number path line) ≡ None
  unfolding line_fault
  written-good = rw (ne_eqb line.tag.code 0 (omega (arith, above))) branch-clean

  child-formed : IsNumber (length out) → (z : Child) → Contains children z → IsChild instance path z
  child-formed few z m =
      let f = from-child z m in
      let c = named f.ref f.member in
      subst (IsChild instance path) f.is (record {
        choice = small-choice f.ref f.member;
        cite = elim c.fate [
          | inl left ↦ absurd (let e = left.none in let s = f.some in omega arith)
          | inr stands ↦ (let high = stands.high in omega arith)
        ];
      })

  rises : (x y : ChoiceRef) → x.choice < y.choice → (a b : Child) → Contains (written_child number x) a → Contains (written_child number y) b → Rise a b
  rises x y less a b ma mb =
      let first = not-zero x.choice (number x.line) a ma in
      let second = not-zero y.choice (number y.line) b mb in
      let e = ap (λ (z : Child). z.choice) first.1 in
      let g = ap (λ (z : Child). z.choice) second.1 in
      omega arith

  children-rise : AllPairs Rise children
  children-rise = pairs-flat_map Rise (written_child number) line.refs
      (All-from_members (λ ref. AllPairs Rise (written_child number ref)) line.refs (λ ref m. one-rises ref.choice (number ref.line)))
      (pairs-weaker (λ (a b : ChoiceRef). a.choice < b.choice) (λ x y. (a b : Child) → Contains (written_child number x) a → Contains (written_child number y) b → Rise a b) rises line.refs refs.ascending)

  pub written-formed : IsNumber (length out) → IsLine instance (written number path line)
  written-formed few = record {
    tag = own;
    lits = lits;
    rule = (refs.path_in_range, record { each = All-from_members (IsChild instance path) children (child-formed few); ascending = children-rise });
  }
