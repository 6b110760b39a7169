-- What the loops keep while choices are removed.
use Rattle.std.proofs.Common.{◌≡◌, ◌≢◌, ℕ, zero, suc, ◌+◌, ◌<◌, ◌≤◌, Bool, true, false, leb, ◌||◌, List, [], ◌∷◌, ◌++◌, length, get_or, set, replicate, refl, ap, sym, ◌∙◌, subst, inl, inr, arith, IsTrue}
use Rattle.std.proofs.lemmas.Bool.{both_ways, cases_eq, cases_lt, or_cases, or_left, or_parts, false_from_ne_true, leb-true}
use Rattle.std.specs.List.{list_any, range_with_len}
use Rattle.std.proofs.lemmas.List.{get_or_default, get_or-set_other, get_or-set_same, length-replicate, length-set}
use Rattle.std.proofs.lemmas.List.Elements.{All-contains}
use Rattle.fapp_model.specs.declared.instance.Instance.{Instance}
use Rattle.fapp_model.specs.declared.level.TheConstants.{MAX_LEVELS}
use Rattle.fapp_model.specs.declared.record.Record.{Record}
use Rattle.fapp_model.specs.search.Arcs.{HasPartner}
use Rattle.fapp_model.specs.Assignments.{count_at}
use Rattle.fapp_model.specs.search.Clashes.{joins, shares_record}
use Rattle.fapp_model.specs.Instances.{IsInstance, IsRecord}
use Rattle.fapp_model.specs.Levels.{levels_of}
use Rattle.fapp_model.specs.search.Partials.{literal, IsLiteral}
use Rattle.fapp_model.proofs.Anys.{passing}
use Rattle.fapp_model.proofs.Members.{in-filter, in-range}
use Rattle.dead_laws.proofs.RecordEnds.{joins-ends, shares-range}
use Rattle.fapp_tables.specs.Indexes.{neighbours_of}
use Rattle.cert_lines.specs.declared.answer.Line.{Line}
use Rattle.arc_levels.specs.Heights.{height_at, Falls, IsLonelyFrom, HasPartners, arc_of, size_of}
use Rattle.arc_levels.specs.Removals.{AreFresh, AreRemovals, IsRemoval, IsRevision, IsSweep, IsTurn, is_stale, marked}
use Rattle.arc_levels.proofs.LineLaws.{lines_more, no_fault}
use Rattle.arc_levels.proofs.HeightLaws.{falls_both, falls_marked, falls_none, fewer, height_row, height_same, heights_still, partner_still, wide_still, within_before, within_range}

pub shares_apart : (instance : Instance) → IsInstance instance → (p q : ℕ) → IsTrue (shares_record instance p q) → q ≡ p → ⊥
shares_apart instance v p q h same =
    let found = passing (λ r. joins p q r || joins q p r) instance.records h in
    let valid = All-contains (IsRecord (levels_of instance) (length instance.paths)) instance.records found.item v.records found.member in
    elim (or_cases (joins p q found.item) (joins q p found.item) found.passes) [
      | inl e ↦ let ends = joins-ends p q found.item e in valid.different (ends.0 ∙ (sym same ∙ sym ends.1))
      | inr e ↦ let ends = joins-ends q p found.item e in valid.different (ends.0 ∙ (same ∙ sym ends.1))
    ]

-- what was removed is outside
pub marked_out : (rows : List (List ℕ)) (p k level : ℕ) → p < length rows → k < length (get_or rows p []) → arc_of (marked rows p k (level + 1)) level (literal p k) ≡ false
marked_out rows p k level h l = false_from_ne_true _ (λ e. absurd (omega (arith, leb-true _ _ e, height_same rows p k (level + 1) h l)))

-- ---- turns

pub turn_none : (instance : Instance) (level : ℕ) (rows : List (List ℕ)) → IsTurn instance level rows rows false
turn_none instance level rows = record { falls = falls_none level rows; stays = λ e. refl; loses = λ e. absurd (cc) }

pub turn_more : (instance : Instance) (level : ℕ) (old rows new : List (List ℕ)) (changed lost : Bool) → IsTurn instance level old rows changed → IsTurn instance level rows new lost → IsTurn instance level old new (lost || changed)
turn_more instance level old rows new changed lost a b = record {
  falls = falls_both level old rows new a.falls b.falls;
  stays = λ e. let parts = or_parts lost changed e in b.stays parts.0 ∙ a.stays parts.1;
  loses = λ e. less changed lost a b e;
}
  where
    less : (changed lost : Bool) → IsTurn instance level old rows changed → IsTurn instance level rows new lost → lost || changed ≡ true → size_of instance level new < size_of instance level old
    less true true a b e = omega (arith, a.loses refl, b.loses refl)
    less false true a b e = subst (λ x. size_of instance level new < size_of instance level x) (a.stays refl) (b.loses refl)
    less true false a b e = subst (λ x. size_of instance level x < size_of instance level old) (sym (b.stays refl)) (a.loses refl)
    less false false a b e = absurd (cc)

pub turn_same : (instance : Instance) (level : ℕ) (old rows new : List (List ℕ)) (changed : Bool) → new ≡ rows → IsTurn instance level old rows changed → IsTurn instance level old new changed
turn_same instance level old rows new changed e t = subst (λ x. IsTurn instance level old x changed) (sym e) t

-- ---- a removal

-- a choice is lonely on a path that shares a record with its own
pub record MayFall (instance : Instance) (level path other choice : ℕ) (rows : List (List ℕ)) (lines : List Line) : Type 0 where
  pub valid : IsInstance instance
  pub small : level ≤ MAX_LEVELS
  pub home : IsLiteral instance (literal path choice)
  pub end : other < length instance.paths
  pub shares : IsTrue (shares_record instance path other)
  pub kept : AreRemovals instance level rows lines
  pub within : IsTrue (arc_of rows level (literal path choice))
  pub lonely : IsLonelyFrom instance level rows (literal path choice) other 0

module _ (instance : Instance) (level path other choice : ℕ) (rows new : List (List ℕ)) (lines after : List Line) (m : MayFall instance level path other choice rows lines) (r : IsRemoval level (literal path choice) rows new lines after) where
  inside : path < length rows
  inside = omega (arith, m.kept.heights.paths, m.home.path)

  place : choice < length (get_or rows path [])
  place = omega (arith, m.kept.heights.counts path m.home.path, m.home.choice)

  fresh : height_at rows path choice ≡ 0
  fresh = m.kept.clear path choice (leb-true _ _ m.within)

  step : Falls level rows (marked rows path choice (level + 1))
  step = falls_marked level rows path choice inside place m.within

  apart : other ≡ path → ⊥
  apart = shares_apart instance m.valid path other m.shares

  kept_marked : AreRemovals instance level (marked rows path choice (level + 1)) (lines ++ r.line ∷ [])
  kept_marked = record {
    heights = heights_still instance rows path choice (level + 1) m.kept.heights m.home.path;
    clear = λ p k low. elim (step p k) [
      | inl same ↦ same ∙ m.kept.clear p k (omega (arith, same, low))
      | inr (before, is) ↦ absurd (omega (arith, is, low))
    ];
    wide = wide_still instance level rows path choice other m.kept.heights m.small m.home.path m.shares m.kept.wide m.lonely;
    lined = lines_more instance rows path choice level inside place fresh lines r.line m.kept.lined m.home r.is
        (no_fault instance level rows lines r.line (literal path choice) other m.kept.lined m.end apart r.is m.lonely);
  }

  pub removed_kept : AreRemovals instance level new after
  removed_kept =
      subst (λ (x : List (List ℕ)). AreRemovals instance level x after) (sym r.rows)
      (subst (λ (x : List Line). AreRemovals instance level (marked rows path choice (level + 1)) x) (sym r.lines) kept_marked)

  pub removed_turn : IsTurn instance level rows new true
  removed_turn = turn_same instance level rows (marked rows path choice (level + 1)) new true r.rows (record {
    falls = step;
    stays = λ e. absurd (cc);
    loses = λ e. fewer instance level rows (marked rows path choice (level + 1)) step (literal path choice) m.home m.within (marked_out rows path choice level inside place);
  })

  pub removed_others : (p k : ℕ) → p ≢ path → height_at new p k ≡ height_at rows p k
  removed_others p k apart = subst (λ (x : List (List ℕ)). height_at x p k ≡ height_at rows p k) (sym r.rows) (height_row rows path choice (level + 1) p k apart)

  pub removed_out : IsTrue (arc_of new level (literal path choice)) → ⊥
  removed_out h = both_ways _ (marked_out rows path choice level inside place) (subst (λ (x : List (List ℕ)). IsTrue (arc_of x level (literal path choice))) r.rows h)

  pub removed_still : (k : ℕ) → (IsTrue (arc_of rows level (literal path k)) → HasPartner instance level (arc_of rows level) (literal path k) other) →
      IsTrue (arc_of new level (literal path k)) → HasPartner instance level (arc_of new level) (literal path k) other
  removed_still k served within =
      subst (λ (x : List (List ℕ)). HasPartner instance level (arc_of x level) (literal path k) other) (sym r.rows)
      (partner_still instance level rows path choice (level + 1) other (literal path k) apart
      (served (within_before level rows (marked rows path choice (level + 1)) step (literal path k) (subst (λ (x : List (List ℕ)). IsTrue (arc_of x level (literal path k))) r.rows within))))

-- ---- the choices of a path against another path, up to one

pub record IsRevised (instance : Instance) (level path other : ℕ) (old rows : List (List ℕ)) (lines : List Line) (changed : Bool) (choice : ℕ) : Type 0 where
  pub kept : AreRemovals instance level rows lines
  pub turn : IsTurn instance level old rows changed
  pub others : (p k : ℕ) → p ≢ path → height_at rows p k ≡ height_at old p k
  pub served : (k : ℕ) → k < choice → IsTrue (arc_of rows level (literal path k)) → HasPartner instance level (arc_of rows level) (literal path k) other

pub revised_kept : (instance : Instance) (level path other : ℕ) (old rows : List (List ℕ)) (lines : List Line) (changed : Bool) (choice : ℕ) → IsRevised instance level path other old rows lines changed choice →
    (IsTrue (arc_of rows level (literal path choice)) → HasPartner instance level (arc_of rows level) (literal path choice) other) → IsRevised instance level path other old rows lines changed (choice + 1)
revised_kept instance level path other old rows lines changed choice r friend = record {
  kept = r.kept;
  turn = r.turn;
  others = r.others;
  served = λ k below within. elim (cases_lt k choice) [
    | inl less ↦ r.served k less within
    | inr more ↦ let same : k ≡ choice = omega arith in
        subst (λ x. HasPartner instance level (arc_of rows level) (literal path x) other) (sym same)
        (friend (subst (λ x. IsTrue (arc_of rows level (literal path x))) same within))
  ];
}

pub revised_less : (instance : Instance) (level path other : ℕ) (old rows new : List (List ℕ)) (lines after : List Line) (changed : Bool) (choice : ℕ) → IsRevised instance level path other old rows lines changed choice →
    MayFall instance level path other choice rows lines → IsRemoval level (literal path choice) rows new lines after → IsRevised instance level path other old new after true (choice + 1)
revised_less instance level path other old rows new lines after changed choice r m removal = record {
  kept = removed_kept instance level path other choice rows new lines after m removal;
  turn = turn_more instance level old rows new changed true r.turn (removed_turn instance level path other choice rows new lines after m removal);
  others = λ p k apart. removed_others instance level path other choice rows new lines after m removal p k apart ∙ r.others p k apart;
  served = λ k below within. elim (cases_lt k choice) [
    | inl less ↦ removed_still instance level path other choice rows new lines after m removal k (r.served k less) within
    | inr more ↦ let same : k ≡ choice = omega arith in
        absurd (removed_out instance level path other choice rows new lines after m removal (subst (λ x. IsTrue (arc_of new level (literal path x))) same within))
  ];
}

pub revised_none : (instance : Instance) (level path other : ℕ) (rows : List (List ℕ)) (lines : List Line) → AreRemovals instance level rows lines → IsRevised instance level path other rows rows lines false 0
revised_none instance level path other rows lines kept = record { kept = kept; turn = turn_none instance level rows; others = λ p k apart. refl; served = λ k below. absurd (omega arith) }

pub revised_all : (instance : Instance) (level path other : ℕ) (old rows : List (List ℕ)) (lines : List Line) (changed : Bool) (choice : ℕ) → level ≤ MAX_LEVELS → count_at instance path ≤ choice →
    IsRevised instance level path other old rows lines changed choice → IsRevision instance level path other old rows changed
revised_all instance level path other old rows lines changed choice small all r = record {
  turn = r.turn;
  others = r.others;
  served = λ k within. r.served k (omega (arith, (within_range instance level rows r.kept.heights small (literal path k) within).choice, all)) within;
}

-- ---- the neighbours of a path, up to one

-- what had a partner on a path has one while nothing of that path is removed
pub served_still : (instance : Instance) (level : ℕ) (old new : List (List ℕ)) (p q : ℕ) → Falls level old new → ((k : ℕ) → height_at new q k ≡ height_at old q k) → HasPartners instance level old p q → HasPartners instance level new p q
served_still instance level old new p q falls same served index within =
    let friend = served index (within_before level old new falls (literal p index) within) in
    record { index = friend.index; member = subst (λ x. leb x level ≡ true) (sym (same friend.index)) friend.member; apart = friend.apart }

shares_turned : (instance : Instance) (p q : ℕ) → shares_record instance p q ≡ shares_record instance q p
shares_turned instance p q = any-either instance.records
  where
    either : (x y : Bool) → (x || y) ≡ (y || x)
    either true true = refl
    either true false = refl
    either false true = refl
    either false false = refl

    any-either : (rs : List Record) → list_any (λ r. joins p q r || joins q p r) rs ≡ list_any (λ r. joins q p r || joins p q r) rs
    any-either rs = ap (λ test. list_any test rs) (λ i r. either (joins p q r) (joins q p r) i)

pub shares_back : (instance : Instance) (p q : ℕ) → IsTrue (shares_record instance p q) → IsTrue (shares_record instance q p)
shares_back instance p q h = shares_turned instance q p ∙ h

pub fresh_lost : (instance : Instance) (level path : ℕ) (rows new : List (List ℕ)) (stale : List Bool) → path < length instance.paths → AreFresh instance level rows stale → Falls level rows new →
    ((p k : ℕ) → p ≢ path → height_at new p k ≡ height_at rows p k) → AreFresh instance level new (set stale path true)
fresh_lost instance level path rows new stale inside fresh falls others = record {
  whole = length-set stale path true ∙ fresh.whole;
  served = λ p q shares flag. elim (cases_eq q path) [
    | inl same ↦ absurd (both_ways _ flag (subst (λ x. is_stale (set stale path true) x ≡ true) (sym same) (get_or-set_same stale path true true (omega (arith, inside, fresh.whole)))))
    | inr apart ↦ served_still instance level rows new p q falls (λ k. others q k apart) (fresh.served p q shares (sym (get_or-set_other stale path q true true apart) ∙ flag))
  ];
}

-- so many neighbours of a path have partners on it
pub record IsTurned (instance : Instance) (level other : ℕ) (old rows : List (List ℕ)) (lines : List Line) (before stale : List Bool) (changed : Bool) (place : ℕ) : Type 0 where
  pub kept : AreRemovals instance level rows lines
  pub turn : IsTurn instance level old rows changed
  pub fresh : AreFresh instance level rows stale
  pub mine : (k : ℕ) → height_at rows other k ≡ height_at old other k
  pub done : (n : ℕ) → n < place → HasPartners instance level rows (get_or (neighbours_of instance other) n 0) other
  pub same : changed ≡ false → stale ≡ before

pub turned_none : (instance : Instance) (level other : ℕ) (rows : List (List ℕ)) (lines : List Line) (stale : List Bool) → AreRemovals instance level rows lines → AreFresh instance level rows stale → IsTurned instance level other rows rows lines stale stale false 0
turned_none instance level other rows lines stale kept fresh = record {
  kept = kept;
  turn = turn_none instance level rows;
  fresh = fresh;
  mine = λ k. refl;
  done = λ n below. absurd (omega (arith, below));
  same = λ e. refl;
}

module _ (instance : Instance) (level other path : ℕ) (old rows new : List (List ℕ)) (lines after : List Line) (before stale : List Bool) (changed lost : Bool) (place : ℕ)
    (valid : IsInstance instance) (inside : path < length instance.paths) (shares : IsTrue (shares_record instance path other)) (is : get_or (neighbours_of instance other) place 0 ≡ path)
    (t : IsTurned instance level other old rows lines before stale changed place) (kept : AreRemovals instance level new after) (revision : IsRevision instance level path other rows new lost) where
  unlike : other ≢ path
  unlike = shares_apart instance valid path other shares

  still : (k : ℕ) → height_at new other k ≡ height_at rows other k
  still k = revision.others other k unlike

  done_more : (n : ℕ) → n < place + 1 → HasPartners instance level new (get_or (neighbours_of instance other) n 0) other
  done_more n below = elim (cases_lt n place) [
    | inl less ↦ served_still instance level rows new (get_or (neighbours_of instance other) n 0) other revision.turn.falls still (t.done n less)
    | inr more ↦ let here : n ≡ place = omega (arith, below, more) in
        subst (λ x. HasPartners instance level new x other) (sym is ∙ ap (λ x. get_or (neighbours_of instance other) x 0) (sym here)) revision.served
  ]

  pub turned_lost : lost ≡ true → IsTurned instance level other old new after before (set stale path true) true (place + 1)
  turned_lost e = record {
    kept = kept;
    turn = subst (IsTurn instance level old new) (or_left lost changed e) (turn_more instance level old rows new changed lost t.turn revision.turn);
    fresh = fresh_lost instance level path rows new stale inside t.fresh revision.turn.falls revision.others;
    mine = λ k. still k ∙ t.mine k;
    done = done_more;
    same = λ f. absurd (cc);
  }

  pub turned_same : lost ≡ false → IsTurned instance level other old new after before stale changed (place + 1)
  turned_same e = record {
    kept = kept;
    turn = subst (λ (x : List (List ℕ)). IsTurn instance level old x changed) (sym (revision.turn.stays e)) t.turn;
    fresh = subst (λ (x : List (List ℕ)). AreFresh instance level x stale) (sym (revision.turn.stays e)) t.fresh;
    mine = λ k. still k ∙ t.mine k;
    done = done_more;
    same = t.same;
  }

pub turned_fresh : (instance : Instance) (level other : ℕ) (old rows : List (List ℕ)) (lines : List Line) (before stale : List Bool) (changed : Bool) (place : ℕ) → IsInstance instance → length (neighbours_of instance other) ≤ place →
    IsTurned instance level other old rows lines before stale changed place → AreFresh instance level rows (set stale other false)
turned_fresh instance level other old rows lines before stale changed place valid all t = record {
  whole = length-set stale other false ∙ t.fresh.whole;
  served = λ p q shares flag. elim (cases_eq q other) [
    | inl same ↦
        let here : IsTrue (shares_record instance p other) = subst (λ x. IsTrue (shares_record instance p x)) same shares in
        let member = in-filter (shares_record instance other) (range_with_len 0 (length instance.paths)) p (in-range _ _ (shares-range instance valid p other here).0) (shares_back instance p other here) in
        let is : get_or (neighbours_of instance other) member.0 0 ≡ p = get_or_default (neighbours_of instance other) member.0 0 p member.1 ∙ member.2 in
        subst (λ x. HasPartners instance level rows p x) (sym same) (subst (λ x. HasPartners instance level rows x other) is (t.done member.0 (omega (arith, member.1, all))))
    | inr apart ↦ t.fresh.served p q shares (sym (get_or-set_other stale other q false true apart) ∙ flag)
  ];
}

-- ---- the paths, up to one

pub record IsSwept (instance : Instance) (level : ℕ) (old rows : List (List ℕ)) (lines : List Line) (stale : List Bool) (changed : Bool) (path : ℕ) : Type 0 where
  pub kept : AreRemovals instance level rows lines
  pub turn : IsTurn instance level old rows changed
  pub fresh : AreFresh instance level rows stale
  pub clean : changed ≡ false → (q : ℕ) → q < path → is_stale stale q ≡ false

pub swept_none : (instance : Instance) (level : ℕ) (rows : List (List ℕ)) (lines : List Line) (stale : List Bool) → AreRemovals instance level rows lines → AreFresh instance level rows stale → IsSwept instance level rows rows lines stale false 0
swept_none instance level rows lines stale kept fresh = record { kept = kept; turn = turn_none instance level rows; fresh = fresh; clean = λ e q below. absurd (omega (arith, below)) }

pub swept_skip : (instance : Instance) (level : ℕ) (old rows : List (List ℕ)) (lines : List Line) (stale : List Bool) (changed : Bool) (path : ℕ) → is_stale stale path ≡ false →
    IsSwept instance level old rows lines stale changed path → IsSwept instance level old rows lines stale changed (path + 1)
swept_skip instance level old rows lines stale changed path flag s = record {
  kept = s.kept;
  turn = s.turn;
  fresh = s.fresh;
  clean = λ e q below. elim (cases_lt q path) [
    | inl less ↦ s.clean e q less
    | inr more ↦ let same : q ≡ path = omega (arith, below, more) in subst (λ x. is_stale stale x ≡ false) (sym same) flag
  ];
}

pub swept_more : (instance : Instance) (level : ℕ) (old rows new : List (List ℕ)) (lines after : List Line) (stale next : List Bool) (changed lost : Bool) (path : ℕ) → path < length instance.paths →
    IsSwept instance level old rows lines stale changed path → AreRemovals instance level new after → AreFresh instance level new next → IsTurn instance level rows new lost → (lost ≡ false → next ≡ set stale path false) →
    IsSwept instance level old new after next (lost || changed) (path + 1)
swept_more instance level old rows new lines after stale next changed lost path inside s kept fresh turn same = record {
  kept = kept;
  turn = turn_more instance level old rows new changed lost s.turn turn;
  fresh = fresh;
  clean = λ e q below. let parts = or_parts lost changed e in
      subst (λ (x : List Bool). is_stale x q ≡ false) (sym (same parts.0)) (elim (cases_eq q path) [
        | inl here ↦ subst (λ x. is_stale (set stale path false) x ≡ false) (sym here) (get_or-set_same stale path false true (omega (arith, inside, s.fresh.whole)))
        | inr apart ↦ get_or-set_other stale path q false true apart ∙ s.clean parts.1 q (omega (arith, below, apart))
      ]);
}

pub swept_all : (instance : Instance) (level : ℕ) (old rows : List (List ℕ)) (lines : List Line) (stale : List Bool) (changed : Bool) (path : ℕ) → IsInstance instance → length instance.paths ≤ path →
    IsSwept instance level old rows lines stale changed path → IsSweep instance level old rows changed
swept_all instance level old rows lines stale changed path valid all s = record {
  turn = s.turn;
  served = λ e p other shares. s.fresh.served p other shares (s.clean e other (omega (arith, (shares-range instance valid p other shares).1, all)));
}

-- at first each path is stale
pub fresh_none : (instance : Instance) (level : ℕ) (rows : List (List ℕ)) (stale : List Bool) → stale ≡ replicate (length instance.paths) true → AreFresh instance level rows stale
fresh_none instance level rows stale e = record {
  whole = ap length e ∙ length-replicate (length instance.paths) true;
  served = λ p q shares flag. absurd (both_ways _ flag (subst (λ (x : List Bool). is_stale x q ≡ true) (sym e) (get_or-replicate_default (length instance.paths) q)));
}
  where
    get_or-replicate_default : (n q : ℕ) → get_or (replicate n true) q true ≡ true
    get_or-replicate_default zero q = refl
    get_or-replicate_default (suc n) zero = refl
    get_or-replicate_default (suc n) (suc q) = get_or-replicate_default n q

pub revised_as : (instance : Instance) (level path other : ℕ) (old rows new : List (List ℕ)) (lines after : List Line) (changed then : Bool) (choice : ℕ) → new ≡ rows → after ≡ lines → then ≡ changed →
    IsRevised instance level path other old rows lines changed choice → IsRevised instance level path other old new after then choice
revised_as instance level path other old rows new lines after changed then choice e g f r =
    subst (λ t. IsRevised instance level path other old new after t choice) (sym f)
    (subst (λ (x : List Line). IsRevised instance level path other old new x changed choice) (sym g)
    (subst (λ (x : List (List ℕ)). IsRevised instance level path other old x lines changed choice) (sym e) r))

pub swept_as : (instance : Instance) (level : ℕ) (old rows new : List (List ℕ)) (lines after : List Line) (stale next : List Bool) (changed then : Bool) (path : ℕ) → new ≡ rows → after ≡ lines → next ≡ stale → then ≡ changed →
    IsSwept instance level old rows lines stale changed path → IsSwept instance level old new after next then path
swept_as instance level old rows new lines after stale next changed then path e f g h s =
    subst (λ x. IsSwept instance level old new after next x path) (sym h)
    (subst (λ (x : List Bool). IsSwept instance level old new after x changed path) (sym g)
    (subst (λ (x : List Line). IsSwept instance level old new x stale changed path) (sym f)
    (subst (λ (x : List (List ℕ)). IsSwept instance level old x lines stale changed path) (sym e) s)))
