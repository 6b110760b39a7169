-- The end of a certificate: the arcs' root line, or the tree that the verdict's rule gives.
use Rattle.std.proofs.Common.{◌≡◌, ◌≢◌, ℕ, suc, ◌+◌, ◌<◌, ◌≤◌, List, [], ◌∷◌, length, get_or, refl, ap, sym, subst, inl, inr, arith, None, Some, All, AllPairs, Contains, IsTrue, take}
use Rattle.std.proofs.lemmas.Bool.{cases_lt}
use Rattle.std.proofs.lemmas.List.{get_or-take, length-take}
use Rattle.std.proofs.lemmas.List.Elements.{All-contains, All-nil}
use Rattle.fapp_model.specs.declared.instance.Instance.{Instance}
use Rattle.fapp_model.specs.declared.literal.Literal.{Literal}
use Rattle.fapp_model.specs.declared.tag.Tag.{Tag}
use Rattle.fapp_model.specs.declared.triple.Triple.{Triple}
use Rattle.fapp_model.specs.Instances.{IsInstance}
use Rattle.fapp_model.specs.InstanceTags.{IsTagFor}
use Rattle.fapp_model.specs.Levels.{levels_of}
use Rattle.fapp_model.specs.Tags.{least_tag, mode_level, triple_from}
use Rattle.fapp_model.specs.Triples.{IsAtMost, IsBelow}
use Rattle.fapp_model.specs.search.Dead.{Dead, no_choice_left}
use Rattle.fapp_model.specs.search.Jobs.{depth, job_count, prefixes}
use Rattle.fapp_model.specs.search.Partials.{AreLiterals, HasAll, IsLiteral, IsPartial}
use Rattle.fapp_model.specs.search.WorkOrder.{comes_before, degree, work_order}
use Rattle.fapp_model.proofs.InOrder.{pairs-nil, pairs-weaker}
use Rattle.fapp_model.proofs.Members.{All-from_members}
use Rattle.fapp_model.proofs.TagParts.{TagShape, limited, plain, mode-limited, mode-plain, shape_of}
use Rattle.fapp_model.proofs.WorkOrders.{first-asym, order-is}
use Rattle.cert_lines.specs.declared.answer.Line.{Line}
use Rattle.cert_lines.specs.declared.answer.Verdict.{Verdict}
use Rattle.cert_lines.specs.WellFormed.{is_shown}
use Rattle.cert_lines.specs.acceptance.RootFaults.{verdict_tag}
use Rattle.cert_lines.specs.acceptance.LineFaults.{line_fault}
use Rattle.fapp_model.proofs.CodeOrder.{codes-at_most}
use Rattle.arc_levels.specs.Outside.{HasNoChoice, IsRootTag}
use Rattle.search_log.specs.declared.line.LogLine.{LogLine}
use Rattle.search_log.specs.declared.line.Ref.{Ref}
use Rattle.search_log.specs.Contents.{Cites, Content, KnownRow}
use Rattle.search_log.specs.declared.job.Outcome.TheVariants.{Refuted}
use Rattle.fapp_plan.specs.Outcomes.{IsPlacedFor, Placed, outcomes_at, settled_by}
use Rattle.fapp_plan.specs.NamedPaths.{prefix_paths}
use Rattle.fapp_plan.specs.VerdictRule.{IsVerdictOf, lower_code}
use Rattle.fapp_plan.proofs.Rules.{prefix-partial, some-prefix}
use Rattle.merge_laws.specs.Fates.{AreMarked, IsFate}
use Rattle.merge_laws.specs.MergedLaws.{IsSettledAt}
use Rattle.merge_laws.specs.Levels.{root_line}
use Rattle.merge_laws.specs.Refuted.{number_by, prefix_number}
use Rattle.fapp_plan.specs.Shown.{AreRefuted}
use Rattle.merge_laws.specs.Stages.{Merged, merged_number}
use Rattle.search_log.specs.GoodLogs.{lines_of}
use Rattle.accept_laws.proofs.Renumbering.{above-least}
use Rattle.merge_laws.proofs.Ruling.{IsFound, found-everywhere, job-of, root-is_tag, ruled-tag}
use Rattle.merge_laws.proofs.Tree.{AreSettled, IsSettled}
use Rattle.merge_laws.proofs.TreeLines.{bare-good}

-- ---- the root line

module _ (instance : Instance) where
  pub empty-partial : IsPartial instance []
  empty-partial = record { in_range = All-nil (IsLiteral instance); distinct = pairs-nil (λ (a b : Literal). a.path ≢ b.path) }

  pub empty-literals : AreLiterals instance []
  empty-literals = record { in_range = All-nil (IsLiteral instance); ascending = pairs-nil (λ (a b : Literal). a.path < b.path) }

  -- a tag above (0, 0, 0) that is at most the arcs' root tag looks at a level below it
  level-below : (t root : Triple) (levels : ℕ) → TagShape levels t → (t ≡ least_tag → ⊥) → root.v ≡ 0 → root.s ≡ 0 → IsAtMost t root → mode_level t < root.k
  level-below t root levels (limited some low high v s) above none nothing most = let e = mode-limited t some in elim most [
    | inl less ↦ by_order less
    | inr same ↦ absurd (let v = ap (λ (u : Triple). u.v) same in omega arith)
  ]
    where
      by_order : IsBelow t root → mode_level t < root.k
      by_order (inl k) = let e = mode-limited t some in omega arith
      by_order (inr (k, inl v)) = absurd (omega arith)
      by_order (inr (k, inr (v, s))) = absurd (omega arith)
  level-below t root levels (plain v_none s_none high) above none nothing most = let e = mode-plain t v_none in elim most [
    | inl less ↦ by_order less
    | inr same ↦ (let k = ap (λ (u : Triple). u.k) same in let some = level-some in omega arith)
  ]
    where
      made : (k v s : ℕ) → k ≡ 0 → v ≡ 0 → s ≡ 0 → record { k = k; v = v; s = s } ≡ least_tag
      made k v s e f g = rw (e, f, g) refl

      level-some : 0 < t.k
      level-some = elim (cases_lt 0 t.k) [ inl some ↦ some | inr zero_k ↦ absurd (above (made t.k t.v t.s (omega arith) v_none s_none)) ]

      by_order : IsBelow t root → mode_level t < root.k
      by_order (inl k) = let e = mode-plain t v_none in omega arith
      by_order (inr (k, inl v)) = absurd (omega arith)
      by_order (inr (k, inr (v, s))) = absurd (omega arith)

  pub root-dead : (t : Tag) (root : ℕ) → IsTagFor instance t → 0 < t.code → IsRootTag instance (triple_from root) → t.code ≤ root → Dead instance (triple_from t.code) []
  root-dead t root own some is most =
      let shape = shape_of instance (triple_from t.code) own in
      let below = level-below (triple_from t.code) (triple_from root) (levels_of instance) shape (above-least t.code some) is.limit is.further (codes-at_most t.code root most) in
      let none : HasNoChoice instance (mode_level (triple_from t.code)) = (is.levels (mode_level (triple_from t.code)) (let few = is.few in omega arith)).1 below in
      no_choice_left none.path none.inside refl (λ index small. inl (none.outside index small))

  pub root-good : (out : List Line) (t : Tag) (root : ℕ) → AreMarked instance out → IsTagFor instance t → 0 < t.code → IsRootTag instance (triple_from root) → t.code ≤ root → line_fault instance out (root_line t) ≡ None
  root-good out t root marked own some is most = bare-good instance out t [] marked own empty-partial some (root-dead t root own some is most)

-- ---- the paths of the prefixes

pub paths-apart : (instance : Instance) (split : ℕ) → AllPairs (λ p q. p ≢ q) (prefix_paths instance split)
paths-apart instance split = pairs-take (depth instance split) (work_order instance)
    (pairs-weaker (λ a b. IsTrue (comes_before instance a b)) (λ p q. p ≢ q) (λ p q before e. apart p q before e) (work_order instance) (order-is instance).ordered)
  where
    apart : (p q : ℕ) → IsTrue (comes_before instance p q) → p ≡ q → ⊥
    apart p q before e =
        let loop : IsTrue (comes_before instance q q) = subst (λ z. IsTrue (comes_before instance z q)) e before in
        first-asym (degree instance q) (degree instance q) q q loop loop

    pairs-take : (n : ℕ) (xs : List ℕ) → AllPairs (λ p q. p ≢ q) xs → AllPairs (λ p q. p ≢ q) (take n xs)
    pairs-take n xs h i j d less inside =
        let few = length-take n xs in
        let small : j < n = omega arith in
        rw (get_or-take n xs i d (omega arith)) (rw (get_or-take n xs j d small) (h i j d less (omega arith)))

-- ---- each prefix is settled

settled-is : (instance : Instance) (outcomes : List Placed) (code place : ℕ) (found : IsFound code (outcomes_at instance outcomes place)) → settled_by instance outcomes code place ≡ Some (found.log, found.ref)
unfolding settled_by
settled-is instance outcomes code place found = found.first

module _ (instance : Instance) (split : ℕ) (outcomes : List Placed) (rows : List KnownRow) (logs : List (List LogLine)) (t : Tag) (arcs : ℕ) (own : IsTagFor instance t) (some : 0 < t.code) (count : length outcomes ≡ job_count instance split)
    (refuted : AreRefuted instance split rows logs outcomes) (above : arcs < t.code) (most : t.code ≤ lower_code instance split outcomes arcs) (s : Merged)
    (fates : (log : ℕ) (ref : Ref) (content : Content) → Cites rows (lines_of logs log) ref content → IsFate instance s.out content (merged_number s log ref)) where
  abbrev pub number : ℕ → ℕ
  number place = prefix_number instance outcomes t.code s place

  pub place-settled : (place : ℕ) → place < length (prefixes instance split) → IsSettled instance t own some s.out (get_or (prefixes instance split) place []) (number place)
  place-settled place small =
      let found = found-everywhere t.code some instance split outcomes arcs place above most small in
      let job = job-of instance split outcomes place (Some (found.log, Refuted found.ref found.tag)) count found.member in
      let by = refuted job.id found.log found.ref found.tag job.below job.at in
      record {
        content = by.content;
        reaches = (let a = found.reaches in let b = by.reaches in omega arith);
        within = subst (λ l. HasAll l by.content.lits) job.prefix by.within;
        fate = subst (λ o. IsFate instance s.out by.content (number_by s o)) (sym (settled-is instance outcomes t.code place found)) (fates found.log found.ref by.content by.cites);
      }

  settled-from : (lists : List (List Literal)) (place : ℕ) → ((k : ℕ) → k < length lists → IsSettled instance t own some s.out (get_or lists k []) (number (place + k))) → AreSettled instance t own some s.out number place lists
  settled-from [] place h = tt
  settled-from (literals ∷ lists) place h = (
    subst (λ n. IsSettled instance t own some s.out literals (number n)) (let e : place + 0 ≡ place = omega arith in e) (h 0 (omega arith)),
    settled-from lists (place + 1) (λ k l. subst (λ n. IsSettled instance t own some s.out (get_or lists k []) (number n)) (let e : place + suc k ≡ place + 1 + k = omega arith in e) (h (suc k) (omega arith))),
  )

  pub prefixes-settled : AreSettled instance t own some s.out number 0 (prefixes instance split)
  prefixes-settled = settled-from (prefixes instance split) 0 (λ k l. subst (λ n. IsSettled instance t own some s.out (get_or (prefixes instance split) k []) (number n)) (let e : k ≡ 0 + k = omega arith in e) (place-settled k l))

  -- without paths nothing is within a prefix
  pub first-settled : IsInstance instance → IsSettled instance t own some s.out (get_or (prefixes instance split) 0 []) (number 0)
  first-settled valid = place-settled 0 (some-prefix instance split valid)

  pub nothing-within : IsInstance instance → length instance.paths ≡ 0 → (literals : List Literal) → HasAll (get_or (prefixes instance split) 0 []) literals → HasAll [] literals
  nothing-within valid none literals h = All-from_members (Contains []) literals (λ a m.
      let partial = prefix-partial instance split 0 (some-prefix instance split valid) in
      let home = All-contains (IsLiteral instance) (get_or (prefixes instance split) 0 []) a partial.in_range (All-contains (Contains (get_or (prefixes instance split) 0 [])) literals a h m) in
      absurd (let l = home.path in omega arith))

-- ---- by the rule alone

pub rule-settles : (instance : Instance) (split : ℕ) (outcomes : List Placed) (word root place : ℕ) (verdict : Verdict) → IsInstance instance → length outcomes ≡ job_count instance split → All (IsPlacedFor instance) outcomes →
    IsTrue (is_shown (levels_of instance) (triple_from word)) → IsRootTag instance (triple_from root) → IsVerdictOf instance split outcomes word root verdict → root < (verdict_tag instance verdict).code → place < length (prefixes instance split) →
    IsSettledAt instance split outcomes (verdict_tag instance verdict).code place
rule-settles instance split outcomes word root place verdict valid count tags shown is rule above small =
    let t = verdict_tag instance verdict in
    let ruled = ruled-tag instance split outcomes word root verdict valid tags shown (root-is_tag instance root is) rule in
    let found = found-everywhere t.code (omega arith) instance split outcomes root place above ruled.most small in
    let job = job-of instance split outcomes place (Some (found.log, Refuted found.ref found.tag)) count found.member in
    record {
      id = job.id;
      below = job.below;
      prefix = job.prefix;
      log = found.log;
      line = found.ref;
      tag = found.tag;
      refuted = job.at;
      reaches = found.reaches;
      first = settled-is instance outcomes t.code place found;
    }
