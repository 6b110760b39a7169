-- The arc lines mark what is outside the arcs, and are a certificate's start.
use Rattle.std.proofs.Common.{◌≡◌, ◌≢◌, ℕ, ◌<◌, ◌≤◌, true, ◌&&◌, List, [], ◌∷◌, ◌++◌, length, map, get_or, set, replicate, refl, ap, sym, subst, ◌∙◌, inl, inr, ⊎_elim, arith, All, Contains, AllPairs, IsTrue, leb, eqb}
use Rattle.std.proofs.lemmas.Bool.{and_from, or_right, cases_lt, eq-eqb, le-leb}
use Rattle.std.proofs.lemmas.List.{get_or-replicate, get_or-set_other, get_or-set_same, length-replicate, length-set, get_or_past}
use Rattle.std.proofs.lemmas.List.Elements.{All-append, All-cons, All-contains, All-nil}
use Rattle.std.proofs.lemmas.List.Folds.{list_any-append}
use Rattle.fapp_model.specs.declared.instance.Instance.{Instance}
use Rattle.fapp_model.specs.declared.items.Items.{Items}
use Rattle.fapp_model.specs.declared.literal.Literal.{Literal}
use Rattle.fapp_model.specs.declared.tag.Tag.{Tag}
use Rattle.fapp_model.specs.declared.triple.Triple.{Triple}
use Rattle.fapp_model.specs.Instances.{IsInstance}
use Rattle.fapp_model.specs.InstanceTags.{IsTagFor}
use Rattle.fapp_model.specs.Levels.{levels_of}
use Rattle.fapp_model.specs.Tags.{mode_level, triple_from}
use Rattle.fapp_model.specs.Triples.{IsBelow}
use Rattle.fapp_model.specs.search.Arcs.{OutsideArc}
use Rattle.fapp_model.specs.search.Partials.{AreLiterals, IsLiteral}
use Rattle.fapp_model.proofs.Anys.{any-member}
use Rattle.fapp_model.proofs.InOrder.{pairs-cons, pairs-head, pairs-nil, pairs-tail}
use Rattle.fapp_model.proofs.Members.{All-from_members, at_front, behind, front_or_behind, no_member}
use Rattle.fapp_model.proofs.TagParts.{TagShape, limited, plain, mode-limited, mode-plain, shape_of, tag_from_plain}
use Rattle.cert_lines.specs.declared.answer.Line.{Line}
use Rattle.cert_lines.specs.declared.answer.Rule.{Rule}
use Rattle.cert_lines.specs.declared.answer.Rule.TheVariants.{Count}
use Rattle.cert_lines.specs.WellFormed.{IsLine, IsRule}
use Rattle.cert_lines.specs.acceptance.Excluded.{is_marked, is_only}
use Rattle.dead_laws.proofs.LowerLevels.{outside_lower}
use Rattle.arc_levels.specs.ArcLines.{AreArcLines, IsLineOf}
use Rattle.search_log.specs.declared.line.LogLine.{LogLine}
use Rattle.search_log.specs.Contents.{KnownRow}
use Rattle.fapp_model.proofs.CodeOrder.{below-codes}
use Rattle.merge_laws.specs.Stages.{start, with_placed}
use Rattle.cert_lines.proofs.Deleting.{IsPlain, formed-plain}
use Rattle.accept_laws.specs.Lines.{AreGood}
use Rattle.accept_laws.specs.Renumbering.{shifted}
use Rattle.accept_laws.proofs.Renumbering.{good-behind}
use Rattle.merge_laws.specs.Conditions.{AreOld}
use Rattle.merge_laws.specs.Fates.{AreMarked, IsFate}
use Rattle.merge_laws.specs.GoodLogs.{IsPlacedIn}
use Rattle.merge_laws.proofs.GrowingCertificates.{stands-grows}
use Rattle.merge_laws.proofs.LogFacts.{placed_numbers}
use Rattle.merge_laws.proofs.Staged.{IsStage}

-- the level at which a tag looks
mode-within : (instance : Instance) (t : Tag) → TagShape (levels_of instance) (triple_from t.code) → mode_level (triple_from t.code) ≤ levels_of instance
mode-within instance t (limited some low high v s) = let e = mode-limited (triple_from t.code) some in omega arith
mode-within instance t (plain none nothing high) = let e = mode-plain (triple_from t.code) none in omega arith

-- a tag with a level alone that is above the one at which another looks is at least that one
module _ (level : ℕ) (t high : Triple) (levels : ℕ) (shape : TagShape levels t) (none : high.v ≡ 0) (nothing : high.s ≡ 0) (above : mode_level t < high.k) where
  not-below : IsBelow high t → ⊥
  not-below below = by_shape shape below
    where
      by_shape : TagShape levels t → IsBelow high t → ⊥
      by_shape (limited some low most v s) b = let e = mode-limited t some in elim b [
        | inl less ↦ absurd (omega arith)
        | inr (same, rest) ↦ absurd (omega arith)
      ]
      by_shape (plain v_none s_none most) b = let e = mode-plain t v_none in elim b [
        | inl less ↦ absurd (omega arith)
        | inr (same, inl less) ↦ absurd (omega arith)
        | inr (same, inr (equal, less)) ↦ absurd (omega arith)
      ]

reaches : (t : Tag) (line : Line) → (IsBelow (triple_from line.tag.code) (triple_from t.code) → ⊥) → t.code ≤ line.tag.code
reaches t line not = elim (cases_lt line.tag.code t.code) [ inl less ↦ absurd (not (below-codes line.tag.code t.code less)) | inr most ↦ most ]

only-self : (a : Literal) (literals : List Literal) → literals ≡ a ∷ [] → is_only a literals ≡ true
only-self a literals e = rw e (and_from (eqb a.path a.path) (eqb a.choice a.choice) (eq-eqb a.path a.path refl) (eq-eqb a.choice a.choice refl))

-- ---- the numbers of placed rows

pub length-placed : (placed : List (ℕ × ℕ)) (row : List ℕ) → length (with_placed placed row) ≡ length row
length-placed [] row = refl
length-placed (p ∷ placed) row = length-placed placed (set row p.0 p.1) ∙ length-set row p.0 p.1

unplaced-at : (placed : List (ℕ × ℕ)) (r : ℕ) (row : List ℕ) → ((p : ℕ × ℕ) → Contains placed p → p.0 ≢ r) → get_or (with_placed placed row) r 0 ≡ get_or row r 0
unplaced-at [] r row apart = refl
unplaced-at (p ∷ placed) r row apart = unplaced-at placed r (set row p.0 p.1) (λ q m. apart q (behind p placed q m)) ∙ get_or-set_other row p.0 r p.1 0 (λ same. apart p (at_front p placed) (sym same))

placed-at : (placed : List (ℕ × ℕ)) (r n : ℕ) (row : List ℕ) → AllPairs (λ p q. p.0 ≢ q.0) placed → Contains placed (r, n) → r < length row → get_or (with_placed placed row) r 0 ≡ n
placed-at [] r n row once m small = absurd (no_member (r, n) m)
placed-at (p ∷ placed) r n row once m small = ⊎_elim
    (λ (here : p ≡ (r, n)). unplaced-at placed r (set row p.0 p.1) (λ q k same. All-contains (λ (q : ℕ × ℕ). p.0 ≢ q.0) placed q (pairs-head (λ p q. p.0 ≢ q.0) p placed once) k (ap (λ x. x.0) here ∙ sym same))
    ∙ (ap (λ x. get_or (set row x.0 x.1) r 0) here ∙ get_or-set_same row r n 0 small))
    (λ later. placed-at placed r n (set row p.0 p.1) (pairs-tail (λ p q. p.0 ≢ q.0) p placed once) later (let e = length-set row p.0 p.1 in omega arith))
    (front_or_behind p placed (r, n) m)

module _ (instance : Instance) (arcs : List Line) (valid : IsInstance instance) (lined : AreArcLines instance arcs) where
  marks : (t : Tag) (a : Literal) → IsTagFor instance t → IsLiteral instance a → OutsideArc instance (mode_level (triple_from t.code)) a → IsTrue (is_marked arcs t a)
  marks t a own home outside =
      let shape = shape_of instance (triple_from t.code) own in
      let within = mode-within instance t shape in
      let found = lined.each a home (outside_lower instance valid 0 (mode_level (triple_from t.code)) (omega arith) a outside) in
      let line = found.0 in
      let is = found.2 in
      let above : mode_level (triple_from t.code) < (triple_from line.tag.code).k = (is.tag.levels.levels (mode_level (triple_from t.code)) within).0 outside in
      any-member (λ line. is_only a line.lits && leb t.code line.tag.code) arcs line found.1
      (and_from (is_only a line.lits) (leb t.code line.tag.code) (only-self a line.lits is.lits)
      (le-leb t.code line.tag.code (reaches t line (not-below (mode_level (triple_from t.code)) (triple_from t.code) (triple_from line.tag.code) (levels_of instance) shape is.tag.limit is.tag.further above))))

  one-literal : (a : Literal) → AllPairs (λ (x y : Literal). x.path < y.path) (a ∷ [])
  one-literal a = pairs-cons (λ (x y : Literal). x.path < y.path) a [] (All-nil (λ (y : Literal). a.path < y.path)) (pairs-nil (λ (x y : Literal). x.path < y.path))

  pub no-cites : IsRule instance (Count [])
  no-cites = record { each = All-nil _; ascending = pairs-nil (λ (a b : ℕ). a < b); few = omega arith }

  line-formed : (line : Line) → ((a : Literal) × IsLiteral instance a × IsLineOf instance a line) → IsLine instance line
  line-formed line (a, home, is) = record {
    tag = tag_from_plain (levels_of instance) (triple_from line.tag.code) is.tag.limit is.tag.further is.tag.levels.few;
    lits = subst (λ (l : List Literal). AreLiterals instance l) (sym is.lits) (record { in_range = All-cons (IsLiteral instance) a [] home (All-nil (IsLiteral instance)); ascending = one-literal a });
    rule = subst (λ (r : Rule). IsRule instance r) (sym is.rule) no-cites;
  }

  pub arcs-formed : All (IsLine instance) arcs
  arcs-formed = All-from_members (IsLine instance) arcs (λ line m. line-formed line (All-contains (λ (line : Line). (a : Literal) × IsLiteral instance a × IsLineOf instance a line) arcs line lined.formed m))

  -- arc lines cite nothing, so they are themselves behind others
  arcs-stay : (others : List Line) → map (shifted (length others)) arcs ≡ arcs
  arcs-stay others = all-stay arcs (λ line m. let is = (All-contains (λ (line : Line). (a : Literal) × IsLiteral instance a × IsLineOf instance a line) arcs line lined.formed m).2 in stays line is.rule)
    where
      stays : (line : Line) → line.rule ≡ Count [] → shifted (length others) line ≡ line
      stays line e = by_rule line.tag line.lits line.rule e
        where
          by_rule : (t : Tag) (l : Items Literal) (r : Rule) → r ≡ Count [] → shifted (length others) (record { tag = t; lits = l; rule = r }) ≡ record { tag = t; lits = l; rule = r }
          by_rule t l r e = rw e refl

      all-stay : (xs : List Line) → ((line : Line) → Contains xs line → shifted (length others) line ≡ line) → map (shifted (length others)) xs ≡ xs
      all-stay [] h = refl
      all-stay (x ∷ xs) h = rw (h x (at_front x xs)) (ap (λ ys. x ∷ ys) (all-stay xs (λ line m. h line (behind x xs line m))))

  module _ (old : List Line) (old_are : AreOld instance old) where
    pub old-good : AreGood instance (old ++ arcs)
    old-good = subst (λ xs. AreGood instance (old ++ xs)) (arcs-stay old) (good-behind instance old arcs old_are.formed arcs-formed old_are.good lined.good)

    old-formed : All (IsLine instance) (old ++ arcs)
    old-formed = All-append (IsLine instance) old arcs old_are.formed arcs-formed

    old-marks : AreMarked instance (old ++ arcs)
    old-marks = record {
      plain = All-append IsPlain old arcs (formed-plain instance old old_are.formed) (formed-plain instance arcs arcs-formed);
      marks = λ t a own home outside. list_any-append (λ line. is_only a line.lits && leb t.code line.tag.code) old arcs ∙ or_right (is_marked old t a) (is_marked arcs t a) (marks t a own home outside);
    }

  module _ (old : List Line) (old_are : AreOld instance old) (placed : List (ℕ × ℕ)) (rows : List KnownRow) (logs : List (List LogLine)) (room : ℕ) (fits : All (λ (row : KnownRow). row.number < room) rows)
      (said : (row : KnownRow) → Contains rows row → Contains (placed_numbers placed) row.number → IsPlacedIn old placed row) (once : AllPairs (λ p q. p.0 ≢ q.0) placed) where
    abbrev blank : List (List ℕ)
    blank = replicate (length logs) []

    none-done : (log : ℕ) → get_or blank log [] ≡ []
    none-done log = elim (cases_lt log (length logs)) [
      | inl inside ↦ get_or-replicate (length logs) log [] [] inside
      | inr outside ↦ get_or_past blank log [] (let e : length blank ≡ length logs = length-replicate (length logs) [] in omega arith)
    ]

    pub start-stage : IsStage instance rows logs (placed_numbers placed) 0 (start (old ++ arcs) placed (length logs) room)
    start-stage = record {
      good = old-good old old_are;
      formed = λ few. old-formed old old_are;
      marked = old-marks old old_are;
      logs_are = length-replicate (length logs) [];
      room = subst (λ n. All (λ (row : KnownRow). row.number < n) rows) (sym (length-placed placed (replicate room 0) ∙ length-replicate room 0)) fits;
      own = λ log place line small at. absurd (let e = ap (λ (xs : List ℕ). length xs) (none-done log) in omega arith);
      row = λ row m done. elim done [
        | inl small ↦ absurd (omega arith)
        | inr listed ↦ (let p = said row m listed in
            subst (IsFate instance (old ++ arcs) row.content) (sym (placed-at placed row.number p.number (replicate room 0) once p.listed (let small = All-contains (λ (row : KnownRow). row.number < room) rows row fits m in let e : length (replicate {A = ℕ} room 0) ≡ room = length-replicate {A = ℕ} room 0 in omega (arith, small, e))))
            (inr (stands-grows old arcs row.content p.number p.stands)))
      ];
    }
