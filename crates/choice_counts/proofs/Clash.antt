-- Hard-bad records, counted and found.
use Rattle.std.proofs.Common.{◌≡◌, ◌⊎◌, ℕ, ◌+◌, ◌<◌, ◌≤◌, Bool, true, false, cond, ltb, ◌&&◌, ◌||◌, List, length, get_or, refl, sym, ap, ◌∙◌, subst, inl, inr, arith, sum_by, All, Contains, eqb}
use Rattle.std.specs.List.{list_any}
use Rattle.std.proofs.lemmas.Bool.{cases_Bool, cases_eq, cases_lt, lt-ltb, ltb-true, ltb-false, or_from, or_parts, and_left, and_right, both_ways, false_from_ne_true, true_from_ne_false, ne_eqb}
use Rattle.std.proofs.lemmas.List.Elements.{All-contains, Contains-get_or}
use Rattle.fapp_model.specs.declared.choice.Choice.{Choice}
use Rattle.fapp_model.specs.declared.instance.Instance.{Instance}
use Rattle.fapp_model.specs.declared.literal.Literal.{Literal}
use Rattle.fapp_model.specs.declared.record.Record.{Record}
use Rattle.fapp_model.specs.Instances.{IsInstance, IsRecord}
use Rattle.fapp_model.specs.Levels.{levels_of}
use Rattle.fapp_model.specs.Records.{first_path, second_path}
use Rattle.fapp_model.specs.search.Clashes.{blocks, clashes, clashes_with, is_hard_bad, joins, shares_record}
use Rattle.fapp_model.specs.search.Partials.{choice_of}
use Rattle.fapp_model.specs.search.Weights.{between}
use Rattle.fapp_model.proofs.Anys.{no-member, none-member, passing}
use Rattle.fapp_model.proofs.Sums.{none-sum_by, sum_by-none}
use Rattle.fapp_tables.specs.Measures.{both_between, coded_part, hard_part}
use Rattle.fapp_tables.proofs.PairLaws.{both_is, none_between}
use Rattle.dead_laws.proofs.RecordEnds.{joins-ends}
use Rattle.choice_counts.specs.Counts.{clash_part, pair_tally}

pub zero_any : {X : Type 0} (f : X → ℕ) (p : X → Bool) → ((x : X) → f x ≡ 0 → p x ≡ false) → (xs : List X) → sum_by f xs ≡ 0 → list_any p xs ≡ false
zero_any {X = X} f p each xs none = no-member p xs (λ x c. at x c)
  where
    at : (x : X) → Contains xs x → p x ≡ false
    at x (k, inside, e) = subst (λ y. p y ≡ false) e (each (get_or xs k x) (none-sum_by f xs none k x inside))

pub any_zero : {X : Type 0} (f : X → ℕ) (p : X → Bool) → ((x : X) → p x ≡ false → f x ≡ 0) → (xs : List X) → list_any p xs ≡ false → sum_by f xs ≡ 0
any_zero f p each xs none = sum_by-none f xs (λ k d inside. each (get_or xs k d) (none-member p xs none (get_or xs k d) (Contains-get_or xs k d inside)))

abbrev pub flag : Bool → ℕ
flag b = cond b 1 0

pub flag_zero : (b : Bool) → flag b ≡ 0 → b ≡ false
flag_zero true e = absurd (omega (arith, e))
flag_zero false e = refl

pub flag_most : (b : Bool) → flag b ≤ 1
flag_most true = omega arith
flag_most false = omega arith

abbrev bit : Bool → Bool → ℕ
bit j h = cond j (cond h 1 0) 0

bits : (j h : Bool) → bit j h ≡ 0 → (j && h) ≡ false
bits true true e = absurd (omega (arith, e))
bits true false e = refl
bits false h e = refl

bits_back : (j h : Bool) → (j && h) ≡ false → bit j h ≡ 0
bits_back true true e = absurd (both_ways true e refl)
bits_back true false e = refl
bits_back false h e = refl

-- no path shares a record with itself
pub joins_apart : (path : ℕ) (r : Record) → (first_path r ≡ second_path r → ⊥) → joins path path r ≡ false
joins_apart path r different = elim (cases_eq (first_path r) path) [
  | inl e ↦ and_right (eqb (first_path r) path) (eqb (second_path r) path) (ne_eqb _ _ (λ s. different (e ∙ sym s)))
  | inr n ↦ and_left (eqb (first_path r) path) (eqb (second_path r) path) (ne_eqb _ _ n)
]

or_turn : (x y : Bool) → (x || y) ≡ (y || x)
or_turn true true = refl
or_turn true false = refl
or_turn false true = refl
or_turn false false = refl

module _ (instance : Instance) (level : ℕ) where
  between_blocks : (a b : Literal) → between instance (hard_part level) a b ≡ 0 → blocks instance level a b ≡ false
  between_blocks a b = zero_any (λ r. cond (joins a.path b.path r) (hard_part level r (choice_of instance a) (choice_of instance b)) 0) (λ r. joins a.path b.path r && is_hard_bad level r (choice_of instance a) (choice_of instance b)) (λ r. bits (joins a.path b.path r) (is_hard_bad level r (choice_of instance a) (choice_of instance b))) instance.records

  blocks_between : (a b : Literal) → blocks instance level a b ≡ false → between instance (hard_part level) a b ≡ 0
  blocks_between a b = any_zero (λ r. cond (joins a.path b.path r) (hard_part level r (choice_of instance a) (choice_of instance b)) 0) (λ r. joins a.path b.path r && is_hard_bad level r (choice_of instance a) (choice_of instance b)) (λ r. bits_back (joins a.path b.path r) (is_hard_bad level r (choice_of instance a) (choice_of instance b))) instance.records

  pub both_clashes : (a b : Literal) → both_between instance (hard_part level) a b ≡ 0 → clashes instance level a b ≡ false
  both_clashes a b none = or_from (blocks instance level a b) (blocks instance level b a) (between_blocks a b (omega arith)) (between_blocks b a (omega arith))

  pub clashes_both : (a b : Literal) → clashes instance level a b ≡ false → both_between instance (hard_part level) a b ≡ 0
  clashes_both a b none =
      let parts = or_parts (blocks instance level a b) (blocks instance level b a) none in
      omega (arith, blocks_between a b parts.0, blocks_between b a parts.1)

  -- two literals clash where some record between them is hard-bad
  pub clash_found : (a b : Literal) → clashes instance level a b ≡ ltb 0 (both_between instance (hard_part level) a b)
  clash_found a b = by_cases (clashes instance level a b) refl
    where
      by_cases : (t : Bool) → clashes instance level a b ≡ t → t ≡ ltb 0 (both_between instance (hard_part level) a b)
      by_cases true e = sym (lt-ltb 0 (both_between instance (hard_part level) a b) (elim (cases_lt 0 (both_between instance (hard_part level) a b)) [
        | inl some ↦ some
        | inr none ↦ absurd (both_ways (clashes instance level a b) (both_clashes a b (omega arith)) e)
      ]))
      by_cases false e = sym (ap (ltb 0) (clashes_both a b e))

  pub clash_turned : (a b : Literal) → clash_part instance level a b ≡ clash_part instance level b a
  clash_turned a b = ap flag (or_turn (blocks instance level a b) (blocks instance level b a))

  pub pair_turned : (a b : Literal) → pair_tally instance level a b ≡ pair_tally instance level b a
  pair_turned a b = omega (arith, clash_turned a b)

  -- nothing between paths that share no record
  pub none_apart : (a b : Literal) → shares_record instance a.path b.path ≡ false → pair_tally instance level a b ≡ 0
  none_apart a b apart =
      let hard = both_is instance (hard_part level) a b ∙ none_between instance (hard_part level) a.path b.path (choice_of instance a) (choice_of instance b) apart in
      let coded = both_is instance (coded_part level) a b ∙ none_between instance (coded_part level) a.path b.path (choice_of instance a) (choice_of instance b) apart in
      omega (arith, ap flag (both_clashes a b hard), coded)

  module _ (valid : IsInstance instance) where
    -- nothing between two literals of one path
    pub itself_none : (measure : Record → Choice → Choice → ℕ) (a b : Literal) → a.path ≡ b.path → between instance measure a b ≡ 0
    itself_none measure a b same =
        sum_by-none (λ r. cond (joins a.path b.path r) (measure r (choice_of instance a) (choice_of instance b)) 0) instance.records
        (λ k d inside. ap (λ t. cond t (measure (get_or instance.records k d) (choice_of instance a) (choice_of instance b)) 0)
        (ap (λ p. joins a.path p (get_or instance.records k d)) (sym same) ∙ joins_apart a.path (get_or instance.records k d) (valid.records k d inside).different))

    pub clash_self : (a b : Literal) → a.path ≡ b.path → clashes instance level a b ≡ false
    clash_self a b same = both_clashes a b (omega (arith, itself_none (hard_part level) a b same, itself_none (hard_part level) b a (sym same)))
