-- A look-up goes through the buckets of the literals that are set.
use Rattle.std.proofs.Common.{◌≡◌, ℕ, zero, suc, ◌-◌, ◌<◌, ◌≤◌, Bool, true, false, ◌==◌, ◌&&◌, List, [], ◌∷◌, length, get_or, map, slice_index, All, Contains, Option, Some, None, refl, sym, ap, ◌∙◌, subst, inl, inr, arith}
use mathlib.Core.Logic.{dite}
use native.Mathlib.Decide.{ℕ_discrete}
use Rattle.std.specs.List.{slice_get, list_any}
use Rattle.std.proofs.lemmas.Bool.{cases_lt, eqb-true, or_cases, true≢false}
use Rattle.std.proofs.lemmas.List.{length-map}
use Rattle.std.proofs.lemmas.List.Elements.{All-contains}
use Rattle.fapp_model.specs.declared.literal.Literal.{Literal}
use Rattle.fapp_model.proofs.Members.{any-some}
use Rattle.nogood.specs.Partials.{GivesChoice, choice_given}
use Rattle.search_log.specs.declared.shared.Cite.{Cite}
use Rattle.search_log.specs.Shares.{FitsPart, row_content}
use Rattle.search_log.specs.Contents.{KnownRow}
use Rattle.row_copies.specs.Filed.{AreFiled, IsFoundIn, bucket, is_empty, known_cite, known_cites, literals_of}

and-right : (a b : Bool) → (a && b) ≡ true → b ≡ true
and-right true b e = e
and-right false b e = absurd (true≢false (sym e))

module _ (width : ℕ) (cites : List Cite) (filed before last : List ℕ) (paths : ℕ) (h : AreFiled width cites filed before last paths) (part : List (Option ℕ)) (target : ℕ) where
  abbrev pub FitsNot : ℕ → ℕ → Type 0
  FitsNot b left = (i : ℕ) (cite : Cite) → left ≤ i → slice_get cites i ≡ Some cite → slice_index filed i ≡ b → FitsPart part target (row_content cite.content) → ⊥

  -- the first step
  pub begins : (b : ℕ) → FitsNot b (slice_index last b)
  begins b i cite low at same fit = let most = h.last_most i (within cites i cite at) in absurd (omega (arith, most, ap (slice_index last) same, low))
    where
      within : (xs : List Cite) (i : ℕ) (x : Cite) → slice_get xs i ≡ Some x → i < length xs
      within [] zero x e = absurd cc
      within [] (suc i) x e = absurd cc
      within (y ∷ xs) zero x e = omega arith
      within (y ∷ xs) (suc i) x e = let l = within xs i x e in omega arith

  -- one row of a bucket doesn't fit
  pub goes-on : (b left : ℕ) → 0 < left → left ≤ length cites → (0 < left → slice_index filed (left - 1) ≡ b) → FitsNot b left →
      ((cite : Cite) → slice_get cites (left - 1) ≡ Some cite → FitsPart part target (row_content cite.content) → ⊥) →
      (slice_index before (left - 1) ≤ length cites) × (0 < slice_index before (left - 1) → slice_index filed (slice_index before (left - 1) - 1) ≡ b) × FitsNot b (slice_index before (left - 1))
  goes-on b left some small of_b nots here =
      let low = h.before_low (left - 1) in (
        omega (arith, low, small, some),
        λ more. h.before_in (left - 1) more ∙ of_b some,
        λ i cite next at same fit. elim (cases_lt i left) [
          | inl less ↦ dite (ℕ_discrete i (left - 1))
              (λ it. here cite (subst (λ k. slice_get cites k ≡ Some cite) it at) fit)
              (λ ne. let most = h.before_most i (left - 1) (omega (arith, less, ne)) (omega (arith, small, some)) (same ∙ sym (of_b some)) in absurd (omega (arith, most, next)))
          | inr more ↦ nots i cite more at same fit
        ],
      )

  at-index : (xs : List Cite) (k : ℕ) → k < length xs → (cite : Cite) × (slice_get xs k ≡ Some cite) × Contains xs cite × ((d : KnownRow) → get_or (map known_cite xs) k d ≡ known_cite cite)
  at-index [] k l = absurd (omega arith)
  at-index (x ∷ xs) zero l = (x, refl, (0, omega arith, refl), λ d. refl)
  at-index (x ∷ xs) (suc k) l = let r = at-index xs k (omega arith) in (r.0, r.1, (suc r.2.0, (let w = r.2.1 in omega arith), r.2.2), r.3)

  -- no row fits
  pub none-fits : IsFoundIn cites filed width part target None → ((p choice : ℕ) → p < paths → choice_given part p ≡ Some choice → IsFoundIn cites filed (bucket width p choice) part target None) →
      All (λ (row : KnownRow). FitsPart part target row.content → ⊥) (known_cites cites)
  none-fits empty each k d inside fit =
      let r = at-index cites k (omega (arith, inside, length-map cites known_cite)) in
      let cite = r.0 in
      let fits : FitsPart part target (row_content cite.content) = subst (λ (row : KnownRow). FitsPart part target row.content) (r.3 d) fit in
      let its = h.its k cite r.1 in
      let named = All-contains (λ (one : Cite). All (λ (a : Literal). a.path < paths) (literals_of one)) cites cite h.named r.2 in
      elim (or_cases (list_any (λ (a : Literal). bucket width a.path a.choice == slice_index filed k) (literals_of cite)) (is_empty (literals_of cite) && (slice_index filed k == width)) its.its) [
        | inl some ↦ (
            let a = any-some (λ (a : Literal). bucket width a.path a.choice == slice_index filed k) (literals_of cite) some in
            let small = All-contains (λ (a : Literal). a.path < paths) (literals_of cite) a.0 named a.1 in
            let given = All-contains (GivesChoice part) (literals_of cite) a.0 fits.within a.1 in
            each a.0.path a.0.choice small given k cite r.1 (sym (eqb-true (bucket width a.0.path a.0.choice) (slice_index filed k) a.2)) fits)
        | inr none ↦ empty k cite r.1 (eqb-true (slice_index filed k) width (and-right (is_empty (literals_of cite)) (slice_index filed k == width) none)) fits
      ]

-- the same of the lists as they are lent
pub none-seen : (width : ℕ) (cites : List Cite) (filed before last : List ℕ) (paths : ℕ) (h : AreFiled width cites filed before last paths) (part : List (Option ℕ)) (target : ℕ) (seen lent : List Cite) (lent_filed : List ℕ) (past : ℕ) →
    seen ≡ cites → lent ≡ cites → lent_filed ≡ filed → paths ≤ past → IsFoundIn lent lent_filed width part target None →
    ((p choice : ℕ) → p < past → choice_given part p ≡ Some choice → IsFoundIn lent lent_filed (bucket width p choice) part target None) →
    All (λ (row : KnownRow). FitsPart part target row.content → ⊥) (known_cites seen)
none-seen width cites filed before last paths h part target seen lent lent_filed past is_seen is_lent is_filed all empty each =
    let to : (b : ℕ) → IsFoundIn lent lent_filed b part target None → IsFoundIn cites filed b part target None =
    λ b f. subst (λ (c : List Cite). IsFoundIn c filed b part target None) is_lent (subst (λ (l : List ℕ). IsFoundIn lent l b part target None) is_filed f) in
    subst (λ (c : List Cite). All (λ (row : KnownRow). FitsPart part target row.content → ⊥) (known_cites c)) (sym is_seen)
    (none-fits width cites filed before last paths h part target (to width empty) (λ p choice low given. to (bucket width p choice) (each p choice (omega (arith, low, all)) given)))
