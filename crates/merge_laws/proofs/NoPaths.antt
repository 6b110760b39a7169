-- Without paths nothing above (0, 0, 0) is implied, since the empty plan costs nothing.
use Rattle.std.proofs.Common.{◌≡◌, ℕ, ◌-◌, ◌<◌, true, not, List, [], ◌∷◌, length, count_by, refl, sym, subst, inl, inr, arith, All, Contains, slice_index}
use Rattle.std.specs.List.{list_all}
use Rattle.std.proofs.lemmas.Bool.{ltb-true}
use Rattle.std.proofs.lemmas.List.Elements.{All-contains, All-head}
use Rattle.fapp_model.specs.declared.instance.Instance.{Instance}
use Rattle.fapp_model.specs.declared.literal.Literal.{Literal}
use Rattle.fapp_model.specs.declared.record.Record.{Record}
use Rattle.fapp_model.specs.Assignments.{breaks, meets, violates}
use Rattle.fapp_model.specs.Costs.{violations}
use Rattle.fapp_model.specs.Instances.{IsInstance, IsRecord}
use Rattle.fapp_model.specs.Least.{IsFeasible}
use Rattle.fapp_model.specs.Levels.{levels_of}
use Rattle.fapp_model.specs.Tags.{IsTagOf, mode_level, triple_from}
use Rattle.fapp_model.specs.search.Implied.{Implied}
use Rattle.fapp_model.specs.search.Partials.{HasAll}
use Rattle.fapp_model.proofs.Members.{All-from_members, no_member}
use Rattle.cert_lines.specs.declared.answer.Line.{Line}
use Rattle.cert_lines.specs.WellFormed.{IsLine}
use Rattle.cert_lines.specs.acceptance.Excluded.{line_at, no_line}
use Rattle.dead_laws.proofs.CostLaws.{within-cost}
use Rattle.dead_laws.proofs.DeadImplied.{dead-implied}
use Rattle.accept_laws.specs.Lines.{AreGood, IsLineImplied}
use Rattle.accept_laws.proofs.GoodLines.{good-lines}
use Rattle.search_log.specs.Contents.{Content}
use Rattle.fapp_model.proofs.CodeOrder.{below-codes}
use Rattle.merge_laws.specs.Fates.{IsFate}

module _ (instance : Instance) (valid : IsInstance instance) (none : length instance.paths ≡ 0) where
  no-records : instance.records ≡ []
  no-records = by_records instance.records valid.records
    where
      by_records : (records : List Record) → All (IsRecord (levels_of instance) (length instance.paths)) records → records ≡ []
      by_records [] h = refl
      by_records (r ∷ records) h = absurd (let l = (All-head (IsRecord (levels_of instance) (length instance.paths)) r records h).first in omega arith)

  meets-all : meets instance [] ≡ true
  meets-all = by_records instance.records no-records
    where
      by_records : (records : List Record) → records ≡ [] → list_all (λ r. not (breaks instance [] r)) records ≡ true
      by_records records e = rw e refl

  feasible : IsFeasible instance []
  feasible = record {
    assignment = record { whole = sym none; in_range = λ position small. absurd (omega arith) };
    met = meets-all;
  }

  nothing-bad : (level : ℕ) → violations instance [] level ≡ 0
  nothing-bad level = by_records instance.records no-records
    where
      by_records : (records : List Record) → records ≡ [] → count_by (violates instance [] level) records ≡ 0
      by_records records e = rw e refl

  extends-none : (literals : List Literal) → HasAll [] literals → All (λ (a : Literal). slice_index [] a.path ≡ a.choice) literals
  extends-none literals h = All-from_members (λ (a : Literal). slice_index [] a.path ≡ a.choice) literals (λ a m. absurd (no_member a (All-contains (Contains []) literals a h m)))

  pub none-implied : (code : ℕ) (literals : List Literal) → IsTagOf instance (triple_from code) → 0 < code → HasAll [] literals → Implied instance (triple_from code) literals → ⊥
  none-implied code literals own some within implied = implied [] feasible (extends-none literals within)
      (within-cost instance (triple_from code) [] own (below-codes 0 code some) (record {
        clear = nothing-bad _;
        limited = λ limit. inl (let e = nothing-bad (mode_level (triple_from code) - 1) in let v = ltb-true 0 (triple_from code).v limit in omega arith);
      }))

  -- so nothing has a fate there
  pub none-fated : (out : List Line) (content : Content) (n : ℕ) → AreGood instance out → All (IsLine instance) out → 0 < content.tag → HasAll [] content.lits → IsFate instance out content n → ⊥
  none-fated out content n good formed some within (inl left) =
      none-implied content.tag content.lits left.tag_of some within (dead-implied instance (triple_from content.tag) content.lits valid left.tag_of left.partial left.dead)
  none-fated out content n good formed some within (inr stands) =
      let low = stands.low in
      let high = stands.high in
      let line : IsLine instance (line_at out n) = formed (n - 1) no_line (omega arith) in
      let implied : IsLineImplied instance (line_at out n) = good-lines instance out valid (λ k d l. inl (formed k d l)) good (n - 1) no_line (omega arith) in
      none-implied content.tag content.lits
      (subst (λ c. IsTagOf instance (triple_from c)) stands.tag_is line.tag) some within
      (subst (λ c. Implied instance (triple_from c) content.lits) stands.tag_is (subst (Implied instance (triple_from (line_at out n).tag.code)) stands.lits_are implied))
