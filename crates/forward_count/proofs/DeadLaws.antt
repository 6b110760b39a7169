-- What a Forward's answers say of dead literals.
use Rattle.std.proofs.Common.{◌≡◌, ◌⊎◌, ◌↔◌, ℕ, ◌+◌, ◌*◌, ◌/◌, ◌%◌, ◌^◌, ◌<◌, ◌≤◌, leb, ltb, Option, List, refl, ap, subst, inl, inr, arith, IsTrue}
use Rattle.std.proofs.Math.Nat.{div-add-mod}
use Rattle.std.proofs.lemmas.Bool.{le-leb, leb-true, lt-ltb, ltb-true}
use Rattle.fapp_model.specs.declared.instance.Instance.{Instance}
use Rattle.fapp_model.specs.declared.limits.TheConstants.{S_SPAN, V_SPAN}
use Rattle.fapp_model.specs.declared.literal.Literal.{Literal}
use Rattle.fapp_model.specs.declared.triple.Triple.{Triple}
use Rattle.fapp_model.specs.Instances.{IsInstance}
use Rattle.fapp_model.specs.Tags.{IsTagOf, has_limit, least_tag, mode_level, triple_from}
use Rattle.fapp_model.specs.search.Dead.{Dead}
use Rattle.fapp_model.specs.search.Pairs.{limit_of}
use Rattle.fapp_model.specs.search.Partials.{IsPartial}
use Rattle.fapp_tables.specs.Measures.{pair_code}
use Rattle.dead_laws.proofs.DeadTests.{arcs-of}
use Rattle.choice_counts.specs.declared.rows.PathTallies.{PathTallies}
use Rattle.choice_counts.specs.declared.totals.Totals.{Totals}
use Rattle.choice_counts.specs.CountedSums.{IsCountedSum, IsCalm}
use Rattle.choice_counts.specs.ForwardStates.{ForwardState}
use Rattle.choice_counts.proofs.Bounds.{inside_small}
use Rattle.choice_counts.proofs.Calm.{bound_is}
use Rattle.choice_counts.proofs.CalmPaths.{calm_kept, kept_bound, kept_calm}
use Rattle.choice_counts.proofs.DeadByBound.{calm_or_dead, dead_is_over_bound, level_few, mode_few}
use Rattle.choice_counts.proofs.OpenSums.{least_most, open_most}
use Rattle.choice_counts.specs.declared.rows.TheConstants.{HARD}
use Rattle.choice_counts.specs.Tallies.{least_part}
use Rattle.forward_count.specs.Forwards.{IsForward}
use Rattle.fapp_model.specs.declared.level.TheConstants.{MAX_LEVELS}

-- what is kept of the fields is so of the state that callers see
pub seen : (instance : Instance) (level : ℕ) (pushed : List Literal) (slots : List (Option ℕ)) (rows : List PathTallies) (totals : Totals) (room : ℕ) → IsForward instance level pushed slots rows totals room →
    (st : ForwardState) → record { instance = instance; level = level; pushed = pushed } ≡ st → IsForward st.instance st.level st.pushed slots rows totals room
seen instance level pushed slots rows totals room f st e = subst (λ (s : ForwardState). IsForward s.instance s.level s.pushed slots rows totals room) e f

module _ (instance : Instance) (level : ℕ) (pushed : List Literal) (slots : List (Option ℕ)) (rows : List PathTallies) (totals : Totals) (room : ℕ) (f : IsForward instance level pushed slots rows totals room) where
  within : level ≤ MAX_LEVELS
  within = level_few instance level f.low

  pub calm_here : totals.conflicts ≡ 0 → totals.open_paths.stuck ≡ 0 → IsCalm instance level pushed
  calm_here conflicts stuck = kept_calm instance f.valid level within pushed f.partial slots rows totals f.kept conflicts stuck

  pub here_calm : IsCalm instance level pushed → (totals.conflicts ≡ 0) × (totals.open_paths.stuck ≡ 0)
  here_calm calm = calm_kept instance f.valid level within pushed f.partial slots rows totals f.kept calm

  pub bound_here : IsCalm instance level pushed → IsCountedSum instance level pushed (totals.twice_inside / 2 + totals.open_paths.least)
  bound_here calm =
      let even : totals.twice_inside / 2 * 2 ≡ totals.twice_inside = omega (arith, f.kept.counted.twice_inside) in
      kept_bound instance f.valid level within pushed f.partial slots rows totals f.kept calm (totals.twice_inside / 2) (totals.twice_inside / 2 + totals.open_paths.least) even refl

  pub bound_fits : totals.twice_inside / 2 + totals.open_paths.least < 2 ^ 63
  bound_fits =
      let inner = inside_small instance f.valid level within pushed f.partial.distinct in
      let most = open_most least_part slots rows HARD least_most in
      omega (arith, f.kept.counted.twice_inside, inner, most, f.kept.counted.open_paths.least, f.kept.counted.held.whole, f.valid.few_paths)

-- ---- dead at a tag

code_zero : (code : ℕ) → triple_from code ≡ least_tag → code ≡ 0
code_zero code e =
    let s : code % S_SPAN ≡ 0 = ap (λ (t : Triple). t.s) e in
    let v : code / S_SPAN % V_SPAN ≡ 0 = ap (λ (t : Triple). t.v) e in
    let k : code / S_SPAN / V_SPAN ≡ 0 = ap (λ (t : Triple). t.k) e in
    omega (arith, s, v, k, div-add-mod code S_SPAN, div-add-mod (code / S_SPAN) V_SPAN)

module _ (instance : Instance) (code : ℕ) (pushed : List Literal) (valid : IsInstance instance) (tag : IsTagOf instance (triple_from code)) (partial : IsPartial instance pushed) where
  pub dead_restless : (IsCalm instance (mode_level (triple_from code)) pushed → ⊥) → Dead instance (triple_from code) pushed
  dead_restless restless = elim (calm_or_dead instance (triple_from code) pushed valid partial) [
    | inl calm ↦ absurd (restless calm)
    | inr dead ↦ dead
  ]

  module _ (above : code ≡ 0 → ⊥) (n : ℕ) (calm : IsCalm instance (mode_level (triple_from code)) pushed) (bound : IsCountedSum instance (mode_level (triple_from code)) pushed n) where
    law : Dead instance (triple_from code) pushed ↔ ((triple_from code ≡ least_tag) ⊎ (IsTrue (has_limit (triple_from code)) × (pair_code (limit_of (triple_from code)) ≤ n)))
    law = dead_is_over_bound instance (triple_from code) pushed n valid tag partial calm bound

    pub dead_over : (m : ℕ) → m ≡ pair_code (limit_of (triple_from code)) → 0 < (triple_from code).v → IsTrue (leb m n) ↔ Dead instance (triple_from code) pushed
    dead_over m e some = (
      λ high. law.1 (inr (lt-ltb 0 (triple_from code).v some, omega (arith, e, leb-true m n high))),
      λ dead. elim (law.0 dead) [
        | inl lowest ↦ absurd (above (code_zero code lowest))
        | inr over ↦ le-leb m n (omega (arith, e, over.1))
      ],
    )

  -- without a limit calm literals are alive
  pub dead_free : (code ≡ 0 → ⊥) → IsCalm instance (mode_level (triple_from code)) pushed → (w : ℕ) → w ≡ (triple_from code).v → w ≤ 0 → IsTrue (ltb 0 w) ↔ Dead instance (triple_from code) pushed
  dead_free above calm w e none =
      let level = mode_level (triple_from code) in
      let arcs = arcs-of instance level valid in
      let low : level ≤ MAX_LEVELS = level_few instance level (mode_few instance (triple_from code) tag) in
      let bound = bound_is instance level arcs.0 arcs.1 pushed valid low partial calm in
      let law = dead_is_over_bound instance (triple_from code) pushed _ valid tag partial calm bound in (
        λ some. absurd (omega (arith, ltb-true 0 w some, none)),
        λ dead. elim (law.0 dead) [
          | inl lowest ↦ absurd (above (code_zero code lowest))
          | inr over ↦ absurd (omega (arith, ltb-true 0 (triple_from code).v over.0, e, none))
        ],
      )
