-- From the arcs of one level to those of the next, and what the heights of all levels tell.
use Rattle.std.proofs.Common.{◌≡◌, ◌↔◌, ◌⊎◌, ℕ, ◌+◌, ◌-◌, ◌<◌, ◌≤◌, Bool, List, [], ◌∷◌, ◌++◌, length, replicate, sym, ap, ◌∙◌, subst, inl, inr, arith}
use Rattle.std.proofs.lemmas.Bool.{cases_lt, leb-true, le-leb}
use Rattle.std.proofs.lemmas.List.{get_or_append_left, get_or_push, get_or-replicate, length-replicate, length_push}
use Rattle.std.proofs.lemmas.List.Elements.{All-contains, All-nil}
use Rattle.fapp_model.specs.declared.instance.Instance.{Instance}
use Rattle.fapp_model.specs.declared.literal.Literal.{Literal}
use Rattle.fapp_model.specs.declared.triple.Triple.{Triple}
use Rattle.fapp_model.specs.Assignments.{count_at}
use Rattle.fapp_model.specs.Instances.{IsInstance}
use Rattle.fapp_model.specs.Levels.{levels_of}
use Rattle.fapp_model.specs.Tags.{triple_from}
use Rattle.fapp_model.specs.search.Arcs.{InArc, IsSupported, OutsideArc}
use Rattle.fapp_model.specs.search.Partials.{literal, IsLiteral}
use Rattle.fapp_model.proofs.LevelNumbers.{levels-few}
use Rattle.fapp_model.proofs.Members.{All-from_members}
use Rattle.dead_laws.specs.ArcLaws.{IsArcs}
use Rattle.dead_laws.proofs.LowerLevels.{InArc_higher}
use Rattle.cert_lines.specs.declared.answer.Line.{Line}
use Rattle.arc_levels.specs.ArcLines.{AreArcLines, IsLineOf}
use Rattle.arc_levels.specs.Heights.{AreArcs, AreClear, AreHeights, Falls, IsGreatestLeast, IsLeastHeight, IsOutsidePath, IsWideAt, arc_of, height_at, height_of, no_height}
use Rattle.arc_levels.specs.Outside.{HasNoChoice, IsOutsideBelow, IsOutsideTag, IsRootTag}
use Rattle.arc_levels.specs.Removals.{AreBlank, AreLines, AreRemovals, IsArcTable, IsLineAt, IsLineHere}
use Rattle.arc_levels.proofs.HeightLaws.{within_higher, within_heights}

supported_as : (instance : Instance) (level : ℕ) (f g : Literal → Bool) → ((a : Literal) → f a ≡ g a) → IsSupported instance level g → IsSupported instance level f
supported_as instance level f g e s = record {
  in_range = λ a h. s.in_range a (sym (e a) ∙ h);
  supported = λ a path h shares. let friend = s.supported a path (sym (e a) ∙ h) shares in
      record { index = friend.index; member = e (literal path friend.index) ∙ friend.member; apart = friend.apart };
}

pub arcs_as : (instance : Instance) (level : ℕ) (f g : Literal → Bool) → ((a : Literal) → f a ≡ g a) → IsArcs instance level g → IsArcs instance level f
arcs_as instance level f g e s = record {
  supported = supported_as instance level f g e s.supported;
  members = λ a. (λ h. (s.members a).0 (sym (e a) ∙ h), λ h. e a ∙ (s.members a).1 h);
}

-- so many levels have been settled, the highest
pub record IsPassed (instance : Instance) (rows : List (List ℕ)) (lines : List Line) (step : ℕ) : Type 0 where
  pub heights : AreHeights instance rows
  pub lined : AreLines instance rows lines
  pub low : (a : Literal) → IsLiteral instance a → height_at rows a.path a.choice ≤ levels_of instance + 1
  pub clear : (p k : ℕ) → height_at rows p k + step ≤ levels_of instance + 1 → height_at rows p k ≡ 0
  pub arcs : (level : ℕ) → level ≤ levels_of instance → levels_of instance + 1 ≤ level + step → IsArcs instance level (arc_of rows level)
  pub wide : step ≤ levels_of instance → IsWideAt instance (levels_of instance - step) rows

pub passed_removals : (instance : Instance) (rows : List (List ℕ)) (lines : List Line) (step : ℕ) → step ≤ levels_of instance → IsPassed instance rows lines step →
    AreRemovals instance (levels_of instance - step) rows lines
passed_removals instance rows lines step small p = record {
  heights = p.heights;
  clear = λ q k low. p.clear q k (omega (arith, low, small));
  wide = p.wide small;
  lined = p.lined;
}

pub passed_more : (instance : Instance) → IsInstance instance → (old rows : List (List ℕ)) (before lines : List Line) (step : ℕ) → step ≤ levels_of instance → IsPassed instance old before step →
    AreRemovals instance (levels_of instance - step) rows lines → Falls (levels_of instance - step) old rows →
    IsArcs instance (levels_of instance - step) (arc_of rows (levels_of instance - step)) → IsPassed instance rows lines (step + 1)
passed_more instance valid old rows before lines step small p kept falls arcs = record {
  heights = kept.heights;
  lined = kept.lined;
  low = λ a h. elim (falls a.path a.choice) [
    | inl same ↦ omega (arith, same, p.low a h)
    | inr (low, is) ↦ omega (arith, is)
  ];
  clear = λ q k few. kept.clear q k (omega (arith, few));
  arcs = λ level l high. elim (cases_lt (levels_of instance - step) level) [
    | inl above ↦ arcs_as instance level (arc_of rows level) (arc_of old level) (within_higher (levels_of instance - step) level old rows above falls) (p.arcs level l (omega (arith, above)))
    | inr below ↦ let same : level ≡ levels_of instance - step = omega (arith, below, high) in subst (λ x. IsArcs instance x (arc_of rows x)) (sym same) arcs
  ];
  wide = λ more family supported a member.
      let higher : InArc instance (levels_of instance - step) a =
      InArc_higher instance valid (levels_of instance - (step + 1)) (levels_of instance - step) (omega arith) a (family, supported, member) in
      let within = leb-true (height_at rows a.path a.choice) (levels_of instance - step) ((arcs.members a).1 higher) in
      let none = kept.clear a.path a.choice within in
      le-leb _ _ (omega (arith, none));
}

pub passed_none : (instance : Instance) (rows : List (List ℕ)) (lines : List Line) → AreHeights instance rows → AreClear instance rows → lines ≡ [] → IsPassed instance rows lines 0
passed_none instance rows lines heights clear none = record {
  heights = heights;
  lined = subst (AreLines instance rows) (sym none) (record {
    formed = All-nil (IsLineHere instance rows);
    each = λ a h some. absurd (omega (arith, some, clear a h));
    once = λ i j d lt within. absurd (omega (arith, within));
    good = λ n below. absurd (omega (arith, below));
  });
  low = λ a h. omega (arith, clear a h);
  clear = λ p k few. clear (literal p k) (within_heights instance rows heights (literal p k) (omega (arith, few, (levels-few instance).1)));
  arcs = λ level l high. absurd (omega (arith, l, high));
  wide = λ h family supported a member. le-leb _ _ (omega (arith, clear a (supported.in_range a member)));
}

pub passed_all : (instance : Instance) (rows : List (List ℕ)) (lines : List Line) (step : ℕ) → levels_of instance + 1 ≤ step → IsPassed instance rows lines step → AreArcs instance rows
passed_all instance rows lines step all p = record { heights = p.heights; low = p.low; arcs = λ level l. p.arcs level l (omega (arith, all)) }

-- ---- blank rows

pub blank_more : (instance : Instance) (rows : List (List ℕ)) (heights : List ℕ) (n : ℕ) → AreBlank instance rows n → heights ≡ replicate (count_at instance n) 0 → AreBlank instance (rows ++ heights ∷ []) (n + 1)
blank_more instance rows heights n b is = record {
  paths = omega (arith, length_push rows heights, b.paths);
  blank = λ path below. elim (cases_lt path n) [
    | inl less ↦ get_or_append_left rows (heights ∷ []) [] path (omega (arith, less, b.paths)) ∙ b.blank path less
    | inr more ↦ let same : path ≡ n = omega (arith, below, more) in
        get_or_push rows heights [] path (b.paths ∙ sym same) ∙ (is ∙ ap (λ x. replicate (count_at instance x) 0) (sym same))
  ];
}

pub blank_none : (instance : Instance) → AreBlank instance [] 0
blank_none instance = record { paths = omega arith; blank = λ path below. absurd (omega (arith, below)) }

pub blank_heights : (instance : Instance) (rows : List (List ℕ)) → AreBlank instance rows (length instance.paths) → AreHeights instance rows
blank_heights instance rows b = record {
  paths = b.paths;
  counts = λ path below. ap length (b.blank path below) ∙ length-replicate (count_at instance path) 0;
}

pub blank_clear : (instance : Instance) (rows : List (List ℕ)) → AreBlank instance rows (length instance.paths) → AreClear instance rows
blank_clear instance rows b a home = ap (λ (r : List ℕ). height_of r a.choice) (b.blank a.path home.path) ∙ get_or-replicate (count_at instance a.path) a.choice 0 no_height home.choice

-- ---- what the heights tell

pub outside_below : (instance : Instance) (rows : List (List ℕ)) → AreArcs instance rows → (a : Literal) → IsLiteral instance a → IsOutsideBelow instance a (height_at rows a.path a.choice)
outside_below instance rows arcs a home = record { few = arcs.low a home; levels = λ level small. (to level small, from level small) }
  where
    to : (level : ℕ) → level ≤ levels_of instance → OutsideArc instance level a → level < height_at rows a.path a.choice
    to level small out = elim (cases_lt level (height_at rows a.path a.choice)) [
      | inl less ↦ less
      | inr more ↦ absurd (out (((arcs.arcs level small).members a).0 (le-leb _ _ more)))
    ]

    from : (level : ℕ) → level ≤ levels_of instance → level < height_at rows a.path a.choice → OutsideArc instance level a
    from level small less inside = let within = leb-true (height_at rows a.path a.choice) level (((arcs.arcs level small).members a).1 inside) in absurd (omega (arith, within, less))

pub outside_tag : (instance : Instance) (rows : List (List ℕ)) → AreArcs instance rows → (a : Literal) → IsLiteral instance a → (t : Triple) → t.k ≡ height_at rows a.path a.choice → t.v ≡ 0 → t.s ≡ 0 → IsOutsideTag instance a t
outside_tag instance rows arcs a home t k v s = record { levels = subst (IsOutsideBelow instance a) (sym k) (outside_below instance rows arcs a home); limit = v; further = s }

pub root_tag : (instance : Instance) (rows : List (List ℕ)) (n : ℕ) → AreArcs instance rows → IsGreatestLeast instance rows (length instance.paths) n → (t : Triple) → t.k ≡ n → t.v ≡ 0 → t.s ≡ 0 → IsRootTag instance t
root_tag instance rows n arcs g t k v s = record {
  few = subst (λ x. x ≤ levels_of instance + 1) (sym k) g.few;
  levels = λ level small. subst (λ x. HasNoChoice instance level ↔ (level < x)) (sym k) (to level small, from level small);
  limit = v;
  further = s;
}
  where
    to : (level : ℕ) → level ≤ levels_of instance → HasNoChoice instance level → level < n
    to level small none = (g.below level small).0 (record {
      path = none.path;
      inside = none.inside;
      outside = λ index below. ((outside_below instance rows arcs (literal none.path index) (record { path = none.inside; choice = below })).levels level small).0 (none.outside index below);
    })

    from : (level : ℕ) → level ≤ levels_of instance → level < n → HasNoChoice instance level
    from level small less = let found = (g.below level small).1 less in record {
      path = found.path;
      inside = found.inside;
      outside = λ index below. ((outside_below instance rows arcs (literal found.path index) (record { path = found.inside; choice = below })).levels level small).1 (found.outside index below);
    }

line_of : (instance : Instance) (rows : List (List ℕ)) → AreArcs instance rows → (a : Literal) → IsLiteral instance a → 0 < height_at rows a.path a.choice → (line : Line) → IsLineAt a (height_at rows a.path a.choice) line → IsLineOf instance a line
line_of instance rows arcs a home some line is = record {
  lits = is.lits;
  rule = is.rule;
  tag = outside_tag instance rows arcs a home (triple_from line.tag.code) (ap (λ (t : Triple). t.k) is.triple) (ap (λ (t : Triple). t.v) is.triple) (ap (λ (t : Triple). t.s) is.triple);
  above = omega (arith, is.code, some);
}

pub arc_lines : (instance : Instance) (rows : List (List ℕ)) (lines : List Line) → IsArcTable instance rows lines → AreArcLines instance lines
arc_lines instance rows lines t = record {
  formed = All-from_members (λ (line : Line). (a : Literal) × IsLiteral instance a × IsLineOf instance a line) lines (λ line c.
      let here = All-contains (IsLineHere instance rows) lines line t.lined.formed c in
      (here.lit, here.inside, line_of instance rows t.arcs here.lit here.inside here.removed line here.is));
  each = λ a home out.
      let some = ((outside_below instance rows t.arcs a home).levels 0 (omega arith)).0 out in
      let found = t.lined.each a home some in
      (found.0, found.1, line_of instance rows t.arcs a home some found.0 found.2);
  once = t.lined.once;
  good = t.lined.good;
}

-- ---- the least height of a path, and the greatest of these

pub least_none : (instance : Instance) (rows : List (List ℕ)) (path : ℕ) → IsLeastHeight instance rows path 0 (levels_of instance + 1)
least_none instance rows path = record { few = omega arith; below = λ level small. (λ h. omega (arith, small), λ h index below. absurd (omega (arith, below))) }

pub least_more : (instance : Instance) (rows : List (List ℕ)) (path count least new : ℕ) → IsLeastHeight instance rows path count least → (new ≡ least) × (least ≤ height_at rows path count) ⊎ (new ≡ height_at rows path count) × (height_at rows path count ≤ least) →
    IsLeastHeight instance rows path (count + 1) new
least_more instance rows path count least new l by = record {
  few = omega (arith, l.few, within);
  below = λ level small. (λ h. omega (arith, (l.below level small).0 (λ index below. h index (omega (arith, below))), h count (omega arith), reached), λ h. up level small h);
}
  where
    within : new ≤ least
    within = elim by [ inl kept ↦ omega (arith, kept.0) | inr fell ↦ omega (arith, fell.0, fell.1) ]

    under : new ≤ height_at rows path count
    under = elim by [ inl kept ↦ omega (arith, kept.0, kept.1) | inr fell ↦ omega (arith, fell.0) ]

    reached : (new ≡ least) ⊎ (new ≡ height_at rows path count)
    reached = elim by [ inl kept ↦ inl kept.0 | inr fell ↦ inr fell.0 ]

    up : (level : ℕ) → level ≤ levels_of instance → level < new → (index : ℕ) → index < count + 1 → level < height_at rows path index
    up level small h index below = elim (cases_lt index count) [
      | inl less ↦ (l.below level small).1 (omega (arith, h, within)) index less
      | inr more ↦ let same : index ≡ count = omega (arith, below, more) in subst (λ x. level < height_at rows path x) (sym same) (omega (arith, h, under))
    ]

pub greatest_none : (instance : Instance) (rows : List (List ℕ)) → IsGreatestLeast instance rows 0 0
greatest_none instance rows = record { few = omega arith; below = λ level small. (λ h. absurd (omega (arith, h.inside)), λ h. absurd (omega (arith, h))) }

pub greatest_more : (instance : Instance) (rows : List (List ℕ)) (count greatest least new : ℕ) → IsGreatestLeast instance rows count greatest → IsLeastHeight instance rows count (count_at instance count) least →
    greatest ≤ new → least ≤ new → (new ≡ greatest) ⊎ (new ≡ least) → IsGreatestLeast instance rows (count + 1) new
greatest_more instance rows count greatest least new g l over above reached = record {
  few = elim reached [ inl same ↦ omega (arith, same, g.few) | inr same ↦ omega (arith, same, l.few) ];
  below = λ level small. (to level small, from level small);
}
  where
    to : (level : ℕ) → level ≤ levels_of instance → IsOutsidePath instance rows (count + 1) level → level < new
    to level small h = elim (cases_lt h.path count) [
      | inl less ↦ omega (arith, (g.below level small).0 (record { path = h.path; inside = less; outside = h.outside }), over)
      | inr more ↦ let same : h.path ≡ count = omega (arith, h.inside, more) in
          omega (arith, (l.below level small).0 (subst (λ x. (index : ℕ) → index < count_at instance x → level < height_at rows x index) same h.outside), above)
    ]

    from : (level : ℕ) → level ≤ levels_of instance → level < new → IsOutsidePath instance rows (count + 1) level
    from level small h = elim reached [
      | inl same ↦ let found = (g.below level small).1 (omega (arith, h, same)) in record { path = found.path; inside = omega (arith, found.inside); outside = found.outside }
      | inr same ↦ record { path = count; inside = omega arith; outside = (l.below level small).1 (omega (arith, h, same)) }
    ]
