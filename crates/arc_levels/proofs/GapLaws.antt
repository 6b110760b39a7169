-- The next frequency at which all records of a pair are met.
use Rattle.std.proofs.Common.{◌≡◌, ◌⊎◌, ◌==◌, ℕ, ◌<◌, ◌≤◌, ◌+◌, Bool, true, false, List, length, sym, refl, ap, ◌∙◌, subst, inl, inr, arith, All, Contains, IsTrue, slice_index, get_or}
use Rattle.std.specs.List.{range_with_len}
use Rattle.std.proofs.lemmas.Bool.{cases_Bool, cases_lt}
use Rattle.std.proofs.lemmas.List.Elements.{All-from_get_or, Contains-get_or}
use Rattle.fapp_model.specs.declared.choice.Choice.{Choice}
use Rattle.fapp_model.specs.declared.instance.Instance.{Instance}
use Rattle.fapp_model.specs.declared.level.TheConstants.{MAX_LEVELS}
use Rattle.fapp_model.specs.declared.record.Record.{Record}
use Rattle.fapp_model.specs.declared.record.Record.TheVariants.{Freq, Pol, Same, Other}
use Rattle.fapp_model.specs.Records.{first_path}
use Rattle.fapp_model.specs.Instances.{IsInstance}
use Rattle.fapp_model.specs.search.Clashes.{is_hard_bad, shares_record}
use Rattle.fapp_model.proofs.Members.{from-filter, from-range}
use Rattle.fapp_tables.specs.Indexes.{neighbours_of, record_at, records_of, turned_bad}
use Rattle.fapp_tables.proofs.ClashLaws.{clash_found, no_clash}
use Rattle.fapp_tables.proofs.IndexMembers.{records-turned}
use Rattle.arc_levels.specs.declared.gaps.Edge.{Edge}
use Rattle.arc_levels.specs.Gaps.{IsNextApart, IsPair, IsPairOf, pair_clash}
use Rattle.cert_lines.specs.declared.answer.Line.{Line}
use Rattle.arc_levels.specs.declared.left.Left.{Left}
use Rattle.arc_levels.specs.Left.{IsLeft}
use Rattle.arc_levels.specs.Heights.{height_at}
use Rattle.arc_levels.specs.Removals.{AreRemovals, IsRevision}
use Rattle.arc_levels.proofs.LeftLaws.{left_as}
use Rattle.arc_levels.proofs.StepLaws.{shares_apart, shares_back}
use Rattle.fapp_tables.proofs.Turned.{far_turned, same_turned, closer_turned}

-- ---- a record is hard-bad of two choices in either order

pub bad_turned : (level : ℕ) (r : Record) (a b : Choice) → is_hard_bad level r a b ≡ is_hard_bad level r b a
bad_turned level (Freq i j true n) a b = rw (far_turned a.freq b.freq) refl
bad_turned level (Freq i j false n) a b = rw (far_turned a.freq b.freq) refl
bad_turned level (Pol i j true) a b = rw (same_turned a b) refl
bad_turned level (Pol i j false) a b = rw (same_turned a b) refl
bad_turned level (Same i j dist) a b = rw (same_turned a b, closer_turned level dist a b) refl
bad_turned level (Other i j dist) a b = rw (same_turned a b, closer_turned level dist a b) refl

turned_is : (level path : ℕ) (r : Record) (a b : Choice) → turned_bad level path a b r ≡ is_hard_bad level r a b
turned_is level path r a b = by_end (cases_Bool (first_path r == path))
  where
    by_end : ((first_path r == path) ≡ true) ⊎ ((first_path r == path) ≡ false) → turned_bad level path a b r ≡ is_hard_bad level r a b
    by_end (inl same) = rw same refl
    by_end (inr apart) = rw apart (sym (bad_turned level r a b))

-- ---- over the records of a pair

-- a record of the pair is hard-bad
abbrev pub bad_at : Edge → ℕ → Choice → Choice → Bool
bad_at pair index a b = is_hard_bad pair.level (record_at pair.instance.now (slice_index pair.positions.now index)) a b

pair_apart : (pair : Edge) → IsPair pair → pair.path ≡ pair.other → ⊥
pair_apart pair is same = shares_apart pair.instance.now is.valid pair.path pair.other is.shares (sym same)

pub pair_found : (pair : Edge) → IsPair pair → (index : ℕ) → index < length pair.positions.now → (a b : Choice) → bad_at pair index a b ≡ true → pair_clash pair a b ≡ true
pair_found pair is index below a b bad =
    clash_found pair.level pair.path pair.other (pair_apart pair is) a b pair.instance.now (slice_index pair.positions.now index)
    (subst (λ (xs : List ℕ). Contains xs (slice_index pair.positions.now index)) is.positions (Contains-get_or pair.positions.now index 0 below))
    (turned_is pair.level pair.path (record_at pair.instance.now (slice_index pair.positions.now index)) a b ∙ bad)

pub pair_free : (pair : Edge) → IsPair pair → (a b : Choice) → ((index : ℕ) → index < length pair.positions.now → bad_at pair index a b ≡ false) → pair_clash pair a b ≡ false
pair_free pair is a b none =
    let Free : ℕ → Type 0 = λ k. turned_bad pair.level pair.path a b (record_at pair.instance.now k) ≡ false in
    no_clash pair.level pair.path pair.other (pair_apart pair is) a b pair.instance.now
    (subst (All Free) is.positions (All-from_get_or Free pair.positions.now 0 (λ k below. turned_is pair.level pair.path (record_at pair.instance.now (slice_index pair.positions.now k)) a b ∙ none k below)))

-- the next frequency at which none of so many records is hard-bad
pub record IsNextOf (pair : Edge) (a b : Choice) (index next : ℕ) : Type 0 where
  pub from : b.freq ≤ next
  pub before : (c : Choice) → c.pol ≡ b.pol → b.freq ≤ c.freq → c.freq < next → pair_clash pair a c ≡ true
  pub here : next ≡ b.freq → (k : ℕ) → k < index → bad_at pair k a b ≡ false

pub next_none : (pair : Edge) (a b : Choice) → IsNextOf pair a b 0 b.freq
next_none pair a b = record { from = omega arith; before = λ c pol low high. absurd (omega (arith, low, high)); here = λ e k below. absurd (omega (arith, below)) }

pub next_more : (pair : Edge) (a b : Choice) (index next mine more : ℕ) → IsPair pair → index < length pair.positions.now → IsNextOf pair a b index next → IsNextApart (bad_at pair index a) b mine →
    next ≤ more → mine ≤ more → (more ≡ next) ⊎ (more ≡ mine) → IsNextOf pair a b (index + 1) more
next_more pair a b index next mine more is inside so_far found over above reached = record {
  from = omega (arith, so_far.from, over);
  before = λ c pol low high. elim reached [
    | inl same ↦ so_far.before c pol low (omega (arith, same, high))
    | inr same ↦ pair_found pair is index inside a c (found.before c pol low (omega (arith, same, high)))
  ];
  here = λ e k below. elim (cases_lt k index) [
    | inl less ↦ so_far.here (omega (arith, e, so_far.from, over)) k less
    | inr more ↦ let same : k ≡ index = omega (arith, below, more) in
        subst (λ x. bad_at pair x a b ≡ false) (sym same) (found.here (omega (arith, e, found.from, above)))
  ];
}

pub next_all : (pair : Edge) (a b : Choice) (index next : ℕ) → IsPair pair → length pair.positions.now ≤ index → IsNextOf pair a b index next → IsNextApart (pair_clash pair a) b next
next_all pair a b index next is all found = record {
  from = found.from;
  before = found.before;
  here = λ e. pair_free pair is a b (λ k below. found.here e k (omega (arith, below, all)));
}

-- ---- pairs

-- a neighbour of a path, by its place among all
pub record IsNear (instance : Instance) (other place : ℕ) : Type 0 where
  pub inside : get_or (neighbours_of instance other) place 0 < length instance.paths
  pub shares : IsTrue (shares_record instance (get_or (neighbours_of instance other) place 0) other)

pub near : (instance : Instance) (other place : ℕ) → place < length (neighbours_of instance other) → IsNear instance other place
near instance other place below =
    let parts = from-filter (shares_record instance other) (range_with_len 0 (length instance.paths)) (get_or (neighbours_of instance other) place 0) (Contains-get_or (neighbours_of instance other) place 0 below) in
    record { inside = from-range (length instance.paths) _ parts.0; shares = shares_back instance other _ parts.1 }

pub is_pair : (instance : Instance) (level other place : ℕ) (pair : Edge) → IsInstance instance → level ≤ MAX_LEVELS → other < length instance.paths → place < length (neighbours_of instance other) →
    IsPairOf instance level (get_or (neighbours_of instance other) place 0) other pair → pair.positions.now ≡ records_of instance other (get_or (neighbours_of instance other) place 0) → IsPair pair
is_pair instance level other place pair valid small inside below of positions =
    let beside = near instance other place below in
    record {
      valid = subst IsInstance (sym of.instance_is) valid;
      level = omega (arith, of.level_is, small);
      path = subst (λ (i : Instance). pair.path < length i.paths) (sym of.instance_is) (omega (arith, of.path_is, beside.inside));
      other = subst (λ (i : Instance). pair.other < length i.paths) (sym of.instance_is) (omega (arith, of.other_is, inside));
      shares = subst (λ (i : Instance). IsTrue (shares_record i pair.path pair.other)) (sym of.instance_is)
          (subst (λ x. IsTrue (shares_record instance x pair.other)) (sym of.path_is) (subst (λ x. IsTrue (shares_record instance (get_or (neighbours_of instance other) place 0) x)) (sym of.other_is) beside.shares));
      positions = positions ∙ (records-turned instance other (get_or (neighbours_of instance other) place 0)
          ∙ (ap (λ x. records_of instance x other) (sym of.path_is) ∙ (ap (λ x. records_of instance pair.path x) (sym of.other_is) ∙ ap (λ (i : Instance). records_of i pair.path pair.other) (sym of.instance_is))));
    }

module _ (instance : Instance) (level path other : ℕ) (pair : Edge) (of : IsPairOf instance level path other pair) where
  pub kept_of : (rows : List (List ℕ)) (lines : List Line) → AreRemovals pair.instance.now pair.level rows lines → AreRemovals instance level rows lines
  kept_of rows lines kept = subst (λ x. AreRemovals instance x rows lines) of.level_is (subst (λ (i : Instance). AreRemovals i pair.level rows lines) of.instance_is kept)

  pub revision_of : (rows new : List (List ℕ)) (lost : Bool) → IsRevision pair.instance.now pair.level pair.path pair.other rows new lost → IsRevision instance level pair.path other rows new lost
  revision_of rows new lost revision =
      subst (λ x. IsRevision instance level pair.path x rows new lost) of.other_is
      (subst (λ x. IsRevision instance x pair.path pair.other rows new lost) of.level_is
      (subst (λ (i : Instance). IsRevision i pair.level pair.path pair.other rows new lost) of.instance_is revision))

  pub left_of : (old rows : List (List ℕ)) (left : Left) → ((k : ℕ) → height_at rows other k ≡ height_at old other k) → IsLeft instance level old other left → IsLeft pair.instance.now pair.level rows pair.other left
  left_of old rows left same l =
      subst (λ (i : Instance). IsLeft i pair.level rows pair.other left) (sym of.instance_is)
      (subst (λ x. IsLeft instance x rows pair.other left) (sym of.level_is)
      (subst (λ x. IsLeft instance level rows x left) (sym of.other_is) (left_as instance level old rows other left same l)))

  pub removals_of : (rows : List (List ℕ)) (lines : List Line) → AreRemovals instance level rows lines → AreRemovals pair.instance.now pair.level rows lines
  removals_of rows lines kept = subst (λ (i : Instance). AreRemovals i pair.level rows lines) (sym of.instance_is) (subst (λ x. AreRemovals instance x rows lines) (sym of.level_is) kept)

  pub path_of : IsPair pair → (pair.path < length instance.paths) × IsTrue (shares_record instance pair.path other)
  path_of is = (
    subst (λ (i : Instance). pair.path < length i.paths) of.instance_is is.path,
    subst (λ x. IsTrue (shares_record instance pair.path x)) of.other_is (subst (λ (i : Instance). IsTrue (shares_record i pair.path pair.other)) of.instance_is is.shares),
  )
