-- The merged lines are well formed, good, rooted and few.
use Rattle.std.proofs.Common.{◌≡◌, ◌≢◌, ◌⊎◌, ℕ, ◌+◌, ◌*◌, ◌<◌, ◌≤◌, Bool, true, false, max, List, [], ◌∷◌, ◌++◌, length, take, append_assoc, refl, ap, sym, subst, ◌∙◌, inl, inr, arith, Option, None, Some, All, Contains, ltb, leb, cond}
use Rattle.std.specs.List.{fold}
use Rattle.std.proofs.lemmas.Bool.{cases_lt, eq-eqb, leb-true, leb-false}
use Rattle.std.proofs.lemmas.List.{append-nil, length-append, length_push, take-append-le, take_all}
use Rattle.std.proofs.lemmas.List.Elements.{All-append, All-contains, All-head, All-nil, All-push, All-tail, All-weaker}
use Rattle.fapp_model.specs.declared.instance.Instance.{Instance}
use Rattle.fapp_model.specs.declared.literal.Literal.{Literal}
use Rattle.fapp_model.specs.declared.tag.Tag.{Tag}
use Rattle.fapp_model.specs.Assignments.{count_at}
use Rattle.fapp_model.specs.Instances.{IsInstance, IsNumber}
use Rattle.fapp_model.specs.InstanceTags.{IsTagFor}
use Rattle.fapp_model.specs.search.Partials.{IsLiteral}
use Rattle.fapp_model.specs.search.LineBound.{choice_total, tree_size}
use Rattle.fapp_model.specs.search.Prefixes.{lists_along}
use Rattle.fapp_model.proofs.InOrder.{pairs-nil}
use Rattle.fapp_model.proofs.Members.{All-from_members, from-map}
use Rattle.fapp_model.proofs.TagParts.{tag_from_plain}
use Rattle.fapp_model.specs.Levels.{levels_of}
use Rattle.fapp_model.specs.Tags.{IsTagOf, triple_from}
use Rattle.cert_lines.specs.declared.answer.Answer.{Answer}
use Rattle.cert_lines.specs.declared.answer.Line.{Line}
use Rattle.cert_lines.specs.declared.answer.Verdict.{Verdict}
use Rattle.cert_lines.specs.WellFormed.{IsLine}
use Rattle.cert_lines.specs.acceptance.LineFaults.{line_fault}
use Rattle.cert_lines.specs.acceptance.Accepts.{answer_fault}
use Rattle.cert_lines.specs.acceptance.PlanFaults.{plan_fault}
use Rattle.cert_lines.specs.acceptance.RootFaults.{greater, is_root, root_fault, root_fault_by, root_tag, verdict_tag, with_root_line}
use Rattle.cert_lines.proofs.Deleting.{IsPlain, all-stay, formed-plain}
use Rattle.accept_laws.specs.Lines.{AreGood}
use Rattle.accept_laws.proofs.GoodLines.{clean-lines, good-none}
use Rattle.accept_laws.proofs.Accepting.{parts-accepted}
use Rattle.arc_levels.specs.ArcLines.{AreArcLines, IsLineOf}
use Rattle.search_log.specs.declared.line.LogLine.{LogLine}
use Rattle.search_log.specs.declared.line.Ref.{Ref}
use Rattle.search_log.specs.Contents.{Cites, Content, KnownRow}
use Rattle.search_log.specs.LogStates.{LogState}
use Rattle.fapp_plan.specs.Outcomes.{Placed}
use Rattle.fapp_plan.specs.VerdictRule.{IsVerdictOf}
use Rattle.fapp_plan.specs.NamedPaths.{prefix_paths}
use Rattle.fapp_plan.proofs.Depths.{prefix_paths-in}
use Rattle.search_log.specs.declared.piece.Piece.{Piece}
use Rattle.merge_laws.specs.Certificates.{gathered}
use Rattle.merge_laws.specs.Conditions.{AreOld, IsMergeable, IsMergeableAfter}
use Rattle.merge_laws.specs.Fates.{IsFate, StandsAt}
use Rattle.merge_laws.specs.GoodLogs.{AreByRow, AreGoodLogsAfter, IsPlacedIn}
use Rattle.search_log.specs.GoodLogs.{AreGoodLogs, IsHomeRow, all_lines, lines_of, pieces_of}
use Rattle.merge_laws.specs.OldRoots.{code_or_zero, is_enough, is_rooted, old_root}
use Rattle.merge_laws.specs.MergedLaws.{AreGathered}
use Rattle.merge_laws.specs.Levels.{level_line, emit_level, emit_prefixes, emit_tree, all_longer, prefix_line, root_line}
use Rattle.merge_laws.specs.MergedLines.{IsBareLine, IsCertificate, IsCertificateAfter, IsCertificateAfterAt, IsCertificateAt, IsMerged, IsMergedAfter, IsOrderedAfter, branch_total}
use Rattle.merge_laws.specs.Refuted.{prefix_number}
use Rattle.merge_laws.specs.Stages.{Merged, merged_number}
use Rattle.merge_laws.proofs.Staged.{IsStage}
use Rattle.merge_laws.proofs.BottomLists.{bottom, bottom-all}
use Rattle.merge_laws.proofs.BranchCounts.{IsBounded, all-branches, gathered-bounded}
use Rattle.merge_laws.proofs.Finishing.{empty-literals, first-settled, nothing-within, number, paths-apart, prefixes-settled, root-good}
use Rattle.merge_laws.proofs.Gathering.{cited-fate, whole-stage}
use Rattle.accept_laws.proofs.Renumbering.{passes-none}
use Rattle.merge_laws.proofs.GrowingCertificates.{AreFormed, formed-grows, good-grows, stands-last}
use Rattle.merge_laws.proofs.LineCounts.{few-arcs, length-tree}
use Rattle.merge_laws.proofs.LogFacts.{AreLogFacts, log-facts, placed_numbers}
use Rattle.merge_laws.proofs.NoPaths.{none-fated}
use Rattle.merge_laws.proofs.Roots.{root-enough}
use Rattle.merge_laws.proofs.Ruling.{IsRuledTag, one-root, root-is_tag, ruled-tag}
use Rattle.merge_laws.proofs.Stretches.{log-inside, pooled_at_end}
use Rattle.merge_laws.proofs.Tree.{AreSettled}
use Rattle.merge_laws.proofs.TreeLines.{says}
use Rattle.merge_laws.proofs.Trees.{rooted-tree}

-- ---- the tag that old root lines claim

unrooted-below : (t : Tag) (found : Option Tag) → 0 < t.code → is_enough t found ≡ false → code_or_zero found < t.code
unrooted-below t None some e = some
unrooted-below t (Some u) some e = leb-false t.code u.code e

rooted-enough : (instance : Instance) (verdict : Verdict) (old : List Line) → All IsPlain old → is_rooted (verdict_tag instance verdict) old ≡ true → root_fault instance verdict old ≡ None
unfolding root_fault
rooted-enough instance verdict old plain e = subst (λ ls. root_fault_by (verdict_tag instance verdict) (root_tag ls) ≡ None) (sym (all-stay old plain)) (by_tag (root_tag old) e)
  where
    by_tag : (found : Option Tag) → is_enough (verdict_tag instance verdict) found ≡ true → root_fault_by (verdict_tag instance verdict) found ≡ None
    by_tag None e = absurd (cc)
    by_tag (Some u) e = passes-none (leb (verdict_tag instance verdict).code u.code) _ e

-- the tag of an old root line is one of the instance
module _ (instance : Instance) where
  abbrev IsOwn : Option Tag → Type 0
  IsOwn None = Unit {0}
  IsOwn (Some t) = IsTagFor instance t

  own-greater : (found : Option Tag) (t : Tag) → IsOwn found → IsTagFor instance t → IsTagFor instance (greater found t)
  own-greater None t h own = own
  own-greater (Some u) t h own = by_order (ltb u.code t.code)
    where
      by_order : (b : Bool) → IsTagFor instance (let w : Tag = cond b t u in w)
      by_order true = own
      by_order false = h

  own-found : (lines : List Line) (found : Option Tag) → All (IsLine instance) lines → IsOwn found → IsOwn (fold with_root_line found lines)
  own-found [] found formed h = h
  own-found (line ∷ lines) found formed h = own-found lines (with_root_line found line) (All-tail (IsLine instance) line lines formed) (by_root (is_root line))
    where
      by_root : (b : Bool) → IsOwn (let o : Option Tag = cond b (Some (greater found line.tag)) found in o)
      by_root true = own-greater found line.tag h (All-head (IsLine instance) line lines formed).tag
      by_root false = h

  pub own-root : (old : List Line) → All (IsLine instance) old → IsTagOf instance (triple_from (old_root old))
  unfolding root_tag
  own-root old formed = by_tag (fold with_root_line None old) (own-found old None formed tt)
    where
      by_tag : (found : Option Tag) → IsOwn found → IsTagOf instance (triple_from (code_or_zero found))
      by_tag None h = tag_from_plain (levels_of instance) (triple_from 0) refl refl (omega arith)
      by_tag (Some u) h = h

  pub own-most : (a b : ℕ) → IsTagOf instance (triple_from a) → IsTagOf instance (triple_from b) → IsTagOf instance (triple_from (max a b))
  own-most a b h g = elim (cases_lt a b) [
    | inl less ↦ subst (λ c. IsTagOf instance (triple_from c)) (let e : b ≡ max a b = omega arith in e) g
    | inr most ↦ subst (λ c. IsTagOf instance (triple_from c)) (let e : a ≡ max a b = omega arith in e) h
  ]

ruled-after : (instance : Instance) (split : ℕ) (old : List Line) (placed : List (ℕ × ℕ)) (logs : List LogState) (outcomes : List Placed) (word : ℕ) (verdict : Verdict) → IsInstance instance → (given : IsMergeableAfter instance split old placed logs outcomes word verdict) →
    IsRuledTag instance split outcomes (max given.ruled.root (old_root old)) (verdict_tag instance verdict)
ruled-after instance split old placed logs outcomes word verdict valid given =
    ruled-tag instance split outcomes word (max given.ruled.root (old_root old)) verdict valid given.outcomes_are.tags given.ruled.shown
    (own-most instance given.ruled.root (old_root old) (root-is_tag instance given.ruled.root given.ruled.root_is) (own-root instance old given.old_are.formed)) given.ruled.rule

-- ---- what stays with each further line

-- lines that begin with the old ones; none of the tag (0, 0, 0) cites anything, where none of the old ones does
pub record Keeps (old out : List Line) : Type 0 where
  pub more : List Line
  pub begins : out ≡ old ++ more
  pub bare : All IsBareLine old → All IsBareLine out

above-bare : (line : Line) → 0 < line.tag.code → IsBareLine line
above-bare line some e = absurd (omega arith)

keeps-more : (old out : List Line) (line : Line) → IsBareLine line → Keeps old out → Keeps old (out ++ line ∷ [])
keeps-more old out line bare h = record {
  more = h.more ++ line ∷ [];
  begins = ap (λ ls. ls ++ line ∷ []) h.begins ∙ append_assoc old h.more (line ∷ []);
  bare = λ before. All-push IsBareLine out line (h.bare before) bare;
}

keeps-above : (old out : List Line) (line : Line) → 0 < line.tag.code → Keeps old out → Keeps old (out ++ line ∷ [])
keeps-above old out line some h = keeps-more old out line (above-bare line some) h

keeps-begins : (old out : List Line) → Keeps old out → take (length old) out ≡ old
keeps-begins old out h = ap (λ ls. take (length old) ls) h.begins ∙ (take-append-le (length old) old h.more (omega arith) ∙ take_all (length old) old (omega arith))

keeps-itself : (old : List Line) → Keeps old old
keeps-itself old = record { more = []; begins = sym (append-nil old); bare = λ before. before }

-- what is shown of the lines, whatever they end with
record IsEnded (instance : Instance) (split : ℕ) (old : List Line) (logs : List LogState) (t : Tag) (lines : List Line) : Type 0 where
  pub good : AreGood instance lines
  pub formed : AreFormed instance lines
  pub root : StandsAt lines (says t []) (length lines)
  pub kept : Keeps old lines
  pub few : length lines ≤ length old + (choice_total instance + tree_size instance split + branch_total logs + 1)

-- ---- the tree's lines are of its tag

module _ (old : List Line) where
  level-keeps : (instance : Instance) (t : Tag) (path : ℕ) → 0 < t.code → (lists : List (List Literal)) (next : ℕ) (out : List Line) → Keeps old out → Keeps old (emit_level instance t path next lists out)
  level-keeps instance t path some [] next out h = h
  level-keeps instance t path some (literals ∷ lists) next out h = level-keeps instance t path some lists (next + count_at instance path) (out ++ level_line instance t path next literals ∷ []) (keeps-above old out (level_line instance t path next literals) some h)

  prefixes-keep : (t : Tag) (number : ℕ → ℕ) → 0 < t.code → (lists : List (List Literal)) (place : ℕ) (out : List Line) → Keeps old out → Keeps old (emit_prefixes t number place lists out)
  prefixes-keep t number some [] place out h = h
  prefixes-keep t number some (literals ∷ lists) place out h = prefixes-keep t number some lists (place + 1) (out ++ prefix_line t literals (number place) ∷ []) (keeps-above old out (prefix_line t literals (number place)) some h)

  tree-keeps : (instance : Instance) (t : Tag) (number : ℕ → ℕ) → 0 < t.code → (paths : List ℕ) (lists : List (List Literal)) (out : List Line) → Keeps old out → Keeps old (emit_tree instance t number paths lists out)
  tree-keeps instance t number some [] lists out h = prefixes-keep t number some lists 0 out h
  tree-keeps instance t number some (path ∷ paths) lists out h = level-keeps instance t path some lists _ (emit_tree instance t number paths (all_longer instance path lists) out) (tree-keeps instance t number some paths (all_longer instance path lists) out h)

-- ---- the root line

root-formed : (instance : Instance) (t : Tag) → IsTagFor instance t → IsLine instance (root_line t)
root-formed instance t own = record {
  tag = own;
  lits = empty-literals instance;
  rule = record { each = All-nil IsNumber; ascending = pairs-nil (λ (a b : ℕ). a < b); few = omega arith };
}

no-fault-at-zero : (instance : Instance) (out : List Line) (t : Tag) → t.code ≡ 0 → line_fault instance out (root_line t) ≡ None
unfolding line_fault
no-fault-at-zero instance out t e = rw (eq-eqb t.code 0 e) refl

-- behind old lines
root-alone : (instance : Instance) (split : ℕ) (old : List Line) (logs : List LogState) (t : Tag) → AreOld instance old → IsTagFor instance t → t.code ≡ 0 → IsEnded instance split old logs t (old ++ root_line t ∷ [])
root-alone instance split old logs t old_are own e = record {
  good = good-grows instance old (root_line t) old_are.good (no-fault-at-zero instance old t e);
  formed = formed-grows instance old (root_line t) (λ few. old_are.formed) (λ few. root-formed instance t own);
  root = subst (λ n. StandsAt (old ++ root_line t ∷ []) (says t []) n) (sym (length_push old (root_line t))) (stands-last old (root_line t));
  kept = keeps-more old old (root_line t) (λ e. refl) (keeps-itself old);
  few = (let one = length_push old (root_line t) in omega arith);
}

rows-fit : (instance : Instance) (rows : List KnownRow) (logs : List (List LogLine)) (placed : List (ℕ × ℕ)) (pieces : List Piece) (room : ℕ) → AreLogFacts instance rows logs (placed_numbers placed) pieces →
    All (λ (p : Piece). p.row < room) pieces → All (λ p. p.0 < room) placed → All (λ (row : KnownRow). row.number < room) rows
rows-fit instance rows logs placed pieces room facts fit placed_fit = All-from_members (λ (row : KnownRow). row.number < room) rows (λ row m. elim (facts.home row m) [
  | inl h ↦ (let small = All-contains (λ (p : Piece). p.row < room) pieces h.piece fit h.member in
      let e = ap (λ (r : KnownRow). r.number) h.is in omega arith)
  | inr k ↦ (let found = from-map (λ p. p.0) placed row.number k in
      let small : found.0.0 < room = All-contains (λ p. p.0 < room) placed found.0 placed_fit found.1 in
      let e : found.0.0 ≡ row.number = found.2 in omega (arith, small, e))
])

-- a row that is no segment's is said by an old line
only-said : (instance : Instance) (old : List Line) (placed : List (ℕ × ℕ)) (rows : List KnownRow) (logs : List LogState) → AreGoodLogsAfter instance old placed rows logs → (row : KnownRow) → Contains rows row →
    Contains (placed_numbers placed) row.number → IsPlacedIn old placed row
only-said instance old placed rows logs h row m k = elim (All-contains (λ row. IsHomeRow logs row ⊎ IsPlacedIn old placed row) rows row h.home m) [
  | inr p ↦ p
  | inl r ↦ absurd (
      let found = from-map (λ p. p.0) placed row.number k in
      let e = ap (λ (x : KnownRow). x.number) r.is in
      let number : found.0.0 ≡ row.number = found.2 in
      All-contains (λ (q : Piece). found.0.0 ≢ q.row) (pieces_of logs) r.piece
      (All-contains (λ p. All (λ (q : Piece). p.0 ≢ q.row) (pieces_of logs)) placed found.0 h.apart found.1) r.member (number ∙ e))
]

-- ---- all that the merge is given

module _ (instance : Instance) (split : ℕ) (logs : List LogState) (outcomes : List Placed) (word : ℕ) (verdict : Verdict) (lines : List Line) (valid : IsInstance instance) (old : List Line) (placed : List (ℕ × ℕ)) (given : IsMergeableAfter instance split old placed logs outcomes word verdict) (made : IsOrderedAfter instance split old placed logs outcomes (verdict_tag instance verdict) lines)
    (unrooted : is_rooted (verdict_tag instance verdict) old ≡ false) where
  abbrev t : Tag
  t = verdict_tag instance verdict

  abbrev rows : List KnownRow
  rows = given.rows

  -- the lines before those of the logs
  abbrev begun : List Line
  begun = old ++ made.arcs

  facts : AreLogFacts instance rows (all_lines logs) (placed_numbers placed) made.pieces
  facts = log-facts instance rows logs made.pieces old placed given.logs_are made.by_row

  fits : All (λ (row : KnownRow). row.number < made.room) rows
  fits = rows-fit instance rows (all_lines logs) placed made.pieces made.room facts made.fits made.placed_fit

  root-same : given.ruled.root ≡ made.root
  root-same = one-root instance given.ruled.root made.root given.ruled.root_is made.root_is

  -- the greater of the arcs' root tag and that of the old lines
  abbrev most : ℕ
  most = max made.root (old_root old)

  ruled : IsRuledTag instance split outcomes most t
  ruled = subst (λ root. IsRuledTag instance split outcomes (max root (old_root old)) t) root-same (ruled-after instance split old placed logs outcomes word verdict valid given)

  abbrev whole : Merged
  whole = gathered begun placed (all_lines logs) made.pieces made.room

  stage : IsStage instance rows (all_lines logs) (placed_numbers placed) (pooled_at_end 0 made.pieces) whole
  stage = whole-stage instance rows (all_lines logs) made.pieces made.arcs made.room valid made.arcs_are old given.old_are placed facts fits (only-said instance old placed rows logs given.logs_are) given.logs_are.placed_once

  fates : (log : ℕ) (ref : Ref) (content : Content) → Cites rows (lines_of (all_lines logs) log) ref content → IsFate instance whole.out content (merged_number whole log ref)
  fates = cited-fate instance rows (all_lines logs) made.pieces made.arcs made.room valid made.arcs_are old given.old_are placed facts fits (only-said instance old placed rows logs given.logs_are) given.logs_are.placed_once

  arcs-bare : (line : Line) → Contains made.arcs line → IsBareLine line
  arcs-bare line m = above-bare line (All-contains (λ (line : Line). (a : Literal) × IsLiteral instance a × IsLineOf instance a line) made.arcs line made.arcs_are.formed m).2.above

  kept-begun : Keeps old begun
  kept-begun = record { more = made.arcs; begins = refl; bare = λ before. All-append IsBareLine old made.arcs before (All-from_members IsBareLine made.arcs arcs-bare) }

  bounded : IsBounded (Keeps old) (all_lines logs) (length begun) whole
  bounded = gathered-bounded (Keeps old) (keeps-above old) begun placed (all_lines logs) made.pieces made.room kept-begun
      (λ p m. let l = facts.last p m in log-inside (all_lines logs) p.log p.last l.0 l.1)

  whole-few : length whole.out ≤ length old + (choice_total instance + branch_total logs)
  whole-few =
      let b = bounded.few in
      let arcs = few-arcs instance made.arcs made.arcs_are in
      let front = length-append old made.arcs in
      let all = all-branches whole.own logs in omega arith

  -- where the arcs say as much
  by-arcs : 0 < t.code → t.code ≤ made.root → IsEnded instance split old logs t (whole.out ++ root_line t ∷ [])
  by-arcs some most = record {
    good = good-grows instance whole.out (root_line t) stage.good (root-good instance whole.out t made.root stage.marked ruled.own some made.root_is most);
    formed = formed-grows instance whole.out (root_line t) stage.formed (λ few. root-formed instance t ruled.own);
    root = subst (λ n. StandsAt (whole.out ++ root_line t ∷ []) (says t []) n) (sym (length_push whole.out (root_line t))) (stands-last whole.out (root_line t));
    kept = keeps-above old whole.out (root_line t) some bounded.kept;
    few = (let one = length_push whole.out (root_line t) in let w = whole-few in omega arith);
  }

  -- where the tree is written
  module _ (some : 0 < t.code) (above : most < t.code) where
    abbrev counted : ℕ → ℕ
    counted = number instance split outcomes rows (all_lines logs) t most ruled.own some given.outcomes_are.count given.outcomes_are.refuted above ruled.most whole fates

    abbrev planted : List Line
    planted = emit_tree instance t counted (prefix_paths instance split) ([] ∷ []) whole.out

    settled : AreSettled instance t ruled.own some whole.out counted 0 (bottom instance (prefix_paths instance split) ([] ∷ []))
    settled = subst (AreSettled instance t ruled.own some whole.out counted 0) (sym (bottom-all instance (prefix_paths instance split)))
        (prefixes-settled instance split outcomes rows (all_lines logs) t most ruled.own some given.outcomes_are.count given.outcomes_are.refuted above ruled.most whole fates)

    length-planted : length planted ≡ length whole.out + 1 * tree_size instance split
    length-planted = length-tree instance t counted (prefix_paths instance split) ([] ∷ []) whole.out

    -- there is a path, since the empty plan costs nothing
    some-path : IsNumber (length planted) → 0 < length instance.paths
    some-path few = elim (cases_lt 0 (length instance.paths)) [
      | inl more ↦ more
      | inr none ↦ absurd (no-paths (omega arith))
    ]
      where
        no-paths : length instance.paths ≡ 0 → ⊥
        no-paths none =
            let first = first-settled instance split outcomes rows (all_lines logs) t most ruled.own some given.outcomes_are.count given.outcomes_are.refuted above ruled.most whole fates valid in
            let fewer : IsNumber (length whole.out) = (let e = length-planted in omega arith) in
            none-fated instance valid none whole.out first.content (counted 0) stage.good (stage.formed fewer) (let r = first.reaches in omega arith)
            (nothing-within instance split outcomes rows (all_lines logs) t most ruled.own some given.outcomes_are.count given.outcomes_are.refuted above ruled.most whole fates valid none first.content.lits first.within) first.fate

    by-tree : IsNumber (length planted) → IsEnded instance split old logs t planted
    by-tree few =
        let rooted = rooted-tree instance t ruled.own some valid (some-path few) counted (prefix_paths instance split) whole.out (prefix_paths-in instance split) (paths-apart instance split) stage.good stage.formed stage.marked settled in
        record {
          good = rooted.0;
          formed = rooted.1;
          root = rooted.2;
          kept = tree-keeps old instance t counted some (prefix_paths instance split) ([] ∷ []) whole.out bounded.kept;
          few = (let e = length-planted in let w = whole-few in omega arith);
        }

  by-root : 0 < t.code → (b : Bool) → leb t.code made.root ≡ b → (ls : List Line) → ls ≡ cond b (whole.out ++ root_line t ∷ []) (emit_tree instance t (prefix_number instance outcomes t.code whole) (prefix_paths instance split) ([] ∷ []) whole.out) →
      IsNumber (length ls) → IsEnded instance split old logs t ls
  by-root some true e ls is few = subst (IsEnded instance split old logs t) (sym is) (by-arcs some (leb-true t.code made.root e))
  by-root some false e ls is few =
      let above : most < t.code = (let arcs = leb-false t.code made.root e in let olds = unrooted-below t (root_tag old) some unrooted in omega arith) in
      subst (IsEnded instance split old logs t) (sym is) (by-tree some above (subst (λ l. IsNumber (length l)) is few))

  ordered-ended : 0 < t.code → IsNumber (length lines) → IsEnded instance split old logs t lines
  ordered-ended some few = by-root some (leb t.code made.root) refl lines made.is few

-- ---- the lines for a verdict

module _ (instance : Instance) (split : ℕ) (old : List Line) (placed : List (ℕ × ℕ)) (logs : List LogState) (outcomes : List Placed) (word : ℕ) (verdict : Verdict) (lines : List Line) (valid : IsInstance instance)
    (given : IsMergeableAfter instance split old placed logs outcomes word verdict) where
  -- the verdict's tag is one of the instance
  own-tag : IsTagFor instance (verdict_tag instance verdict)
  own-tag = (ruled-after instance split old placed logs outcomes word verdict valid given).own

  by-end : IsNumber (length lines) → IsEnded instance split old logs (verdict_tag instance verdict) lines → IsMergedAfter instance split old logs verdict lines
  by-end few h = record {
    begins = keeps-begins old lines h.kept;
    formed = h.formed few;
    good = good-none instance lines h.good;
    root = root-enough instance verdict lines (length lines) (formed-plain instance lines (h.formed few)) h.root;
    bare = h.kept.bare;
    few = h.few;
  }

  old-enough : is_rooted (verdict_tag instance verdict) old ≡ true → IsMergedAfter instance split old logs verdict old
  old-enough rooted = record {
    begins = keeps-begins old old (keeps-itself old);
    formed = given.old_are.formed;
    good = good-none instance old given.old_are.good;
    root = rooted-enough instance verdict old (formed-plain instance old given.old_are.formed) rooted;
    bare = λ before. before;
    few = omega arith;
  }

  pub merged-after : IsCertificateAfter instance split old placed logs outcomes verdict lines → IsNumber (length lines) → IsMergedAfter instance split old logs verdict lines
  merged-after (inl (rooted, is)) few = subst (IsMergedAfter instance split old logs verdict) (sym is) (old-enough rooted)
  merged-after (inr (unrooted, inl (zero_tag, is))) few =
      by-end few (subst (IsEnded instance split old logs (verdict_tag instance verdict)) (sym is) (root-alone instance split old logs (verdict_tag instance verdict) given.old_are own-tag zero_tag))
  merged-after (inr (unrooted, inr (some, made))) few = by-end few (ordered-ended instance split logs outcomes word verdict lines valid old placed given made unrooted some few)

-- ---- without old lines

no-old : (instance : Instance) → AreOld instance []
no-old instance = record { formed = All-nil (IsLine instance); good = λ n small. absurd (omega arith) }

pub logs-after : (instance : Instance) (rows : List KnownRow) (logs : List LogState) → AreGoodLogs instance rows logs → AreGoodLogsAfter instance [] [] rows logs
logs-after instance rows logs h = record {
  good = h.good;
  home = All-weaker (IsHomeRow logs) (λ row. IsHomeRow logs row ⊎ IsPlacedIn [] [] row) (λ row at. inl at) rows h.home;
  once = h.once;
  placed_once = pairs-nil (λ p q. p.0 ≢ q.0);
  apart = All-nil (λ p. All (λ (q : Piece). p.0 ≢ q.row) (pieces_of logs));
  bare = h.bare;
}

pub mergeable-after : (instance : Instance) (split : ℕ) (logs : List LogState) (outcomes : List Placed) (word : ℕ) (verdict : Verdict) → IsMergeable instance split logs outcomes word verdict → IsMergeableAfter instance split [] [] logs outcomes word verdict
unfolding root_tag
mergeable-after instance split logs outcomes word verdict h = record {
  old_are = no-old instance;
  rows = h.rows;
  logs_are = logs-after instance h.rows logs h.logs_are;
  outcomes_are = h.outcomes_are;
  ruled = record {
    shown = h.ruled.shown;
    root = h.ruled.root;
    root_is = h.ruled.root_is;
    rule = subst (λ root. IsVerdictOf instance split outcomes word root verdict) (let e : h.ruled.root ≡ max h.ruled.root 0 = omega arith in e) h.ruled.rule;
  };
}

certificate-after : (instance : Instance) (split : ℕ) (logs : List LogState) (outcomes : List Placed) (t : Tag) (lines : List Line) → IsCertificateAt instance split logs outcomes t lines → IsCertificateAfterAt instance split [] [] logs outcomes t lines
unfolding root_tag
certificate-after instance split logs outcomes t lines (inl h) = inr (refl, inl h)
certificate-after instance split logs outcomes t lines (inr (some, made)) = inr (
  refl,
  inr (
    some,
    record {
      arcs = made.arcs;
      arcs_are = made.arcs_are;
      root = made.root;
      root_is = made.root_is;
      pieces = made.pieces;
      by_row = made.by_row;
      room = made.room;
      fits = made.fits;
      placed_fit = All-nil (λ p. p.0 < made.room);
      is = made.is;
    },
  ),
)

pub certificate-before : (instance : Instance) (split : ℕ) (logs : List LogState) (outcomes : List Placed) (t : Tag) (lines : List Line) → IsCertificateAfterAt instance split [] [] logs outcomes t lines → IsCertificateAt instance split logs outcomes t lines
unfolding root_tag
certificate-before instance split logs outcomes t lines (inl (rooted, is)) = absurd (cc)
certificate-before instance split logs outcomes t lines (inr (unrooted, inl h)) = inl h
certificate-before instance split logs outcomes t lines (inr (unrooted, inr (some, made))) = inr (
  some,
  record {
    arcs = made.arcs;
    arcs_are = made.arcs_are;
    root = made.root;
    root_is = made.root_is;
    pieces = made.pieces;
    by_row = made.by_row;
    room = made.room;
    fits = made.fits;
    is = made.is;
  },
)

pub merged-before : (instance : Instance) (split : ℕ) (logs : List LogState) (verdict : Verdict) (lines : List Line) → IsMergedAfter instance split [] logs verdict lines → IsMerged instance split logs verdict lines
merged-before instance split logs verdict lines h = record { formed = h.formed; good = h.good; root = h.root; bare = h.bare (All-nil IsBareLine); few = (let f = h.few in omega arith) }

pub merged : (instance : Instance) (split : ℕ) (logs : List LogState) (outcomes : List Placed) (word : ℕ) (verdict : Verdict) (lines : List Line) → IsInstance instance → IsMergeable instance split logs outcomes word verdict →
    IsCertificate instance split logs outcomes verdict lines → IsNumber (length lines) → IsMerged instance split logs verdict lines
merged instance split logs outcomes word verdict lines valid given made few =
    merged-before instance split logs verdict lines (merged-after instance split [] [] logs outcomes word verdict lines valid (mergeable-after instance split logs outcomes word verdict given) (certificate-after instance split logs outcomes (verdict_tag instance verdict) lines made) few)

-- ---- the parts alone

pub gathered-good : (instance : Instance) (rows : List KnownRow) (logs : List LogState) (pieces : List Piece) (arcs : List Line) (room : ℕ) → IsInstance instance → AreArcLines instance arcs → AreGoodLogs instance rows logs → AreByRow logs pieces →
    All (λ (p : Piece). p.row < room) pieces → AreGathered instance rows logs (gathered arcs [] (all_lines logs) pieces room)
gathered-good instance rows logs pieces arcs room valid lined good sorted fit =
    let after = logs-after instance rows logs good in
    let facts = log-facts instance rows logs pieces [] [] after sorted in
    let fits = rows-fit instance rows (all_lines logs) [] pieces room facts fit (All-nil (λ p. p.0 < room)) in
    let stage = whole-stage instance rows (all_lines logs) pieces arcs room valid lined [] (no-old instance) [] facts fits (only-said instance [] [] rows logs after) after.placed_once in
    record { good = stage.good; formed = stage.formed; marked = stage.marked; cited = cited-fate instance rows (all_lines logs) pieces arcs room valid lined [] (no-old instance) [] facts fits (only-said instance [] [] rows logs after) after.placed_once }

pub whole-tree : (instance : Instance) (t : Tag) (number : ℕ → ℕ) (paths : List ℕ) (out : List Line) → length (emit_tree instance t number paths ([] ∷ []) out) ≡ length out + length (lists_along instance paths)
whole-tree instance t number paths out = let e = length-tree instance t number paths ([] ∷ []) out in omega arith

pub answer-accepted : (instance : Instance) (split : ℕ) (logs : List LogState) (answer : Answer) → plan_fault instance answer.plan answer.verdict ≡ None → IsMerged instance split logs answer.verdict answer.lines → answer_fault instance answer ≡ None
answer-accepted instance split logs answer plan h = parts-accepted instance answer (record { plan = plan; lines = clean-lines instance answer.lines h.good; root = h.root })
