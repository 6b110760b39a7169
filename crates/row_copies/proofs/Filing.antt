-- One more row is filed.
use Rattle.std.proofs.Common.{◌≡◌, ◌≢◌, ⊎_elim, ℕ, zero, suc, ◌+◌, ◌-◌, ◌<◌, ◌≤◌, List, [], ◌∷◌, ◌++◌, length, set, replicate, slice_index, All, Some, refl, sym, ap, ◌∙◌, subst, inl, inr, arith}
use mathlib.Core.Logic.{dite}
use native.Mathlib.Decide.{ℕ_discrete}
use Rattle.std.specs.List.{slice_get}
use Rattle.std.proofs.lemmas.Bool.{cases_order}
use Rattle.std.proofs.lemmas.List.{get_or_append_left, get_or_push, get_or-set_same, get_or-set_other, length-append, length-set}
use Rattle.std.proofs.lemmas.List.Elements.{All-nil, All-push, All-weaker}
use Rattle.fapp_model.specs.declared.literal.Literal.{Literal}
use Rattle.search_log.proofs.ByPlace.{front-or-last, get-front, last-is}
use Rattle.search_log.specs.declared.shared.Cite.{Cite}
use Rattle.row_copies.specs.Filed.{AreFiled, IsBucketFor, literals_of}

past-end : (xs : List ℕ) (i : ℕ) → length xs ≤ i → slice_index xs i ≡ 0
past-end [] i l = refl
past-end (x ∷ xs) zero l = absurd (omega arith)
past-end (x ∷ xs) (suc i) l = past-end xs i (omega arith)

all-zero : (n i : ℕ) → slice_index (replicate n 0) i ≡ 0
all-zero zero i = refl
all-zero (suc n) zero = refl
all-zero (suc n) (suc i) = all-zero n i

none-at : {X : Type 0} (i : ℕ) (x : X) → slice_get [] i ≡ Some x → ⊥
none-at zero x e = absurd cc
none-at (suc i) x e = absurd cc

pub filed-none : (width : ℕ) (last : List ℕ) → 0 < width → last ≡ replicate (width + 1) 0 → length last ≡ width + 1 → AreFiled width [] [] [] last 0
filed-none width last some is long =
    let zeros : (b : ℕ) → slice_index last b ≡ 0 = λ b. ap (λ l. slice_index l b) is ∙ all-zero (width + 1) b in
    record {
      some = some;
      filed_all = refl;
      before_all = refl;
      last_all = long;
      paths_few = omega arith;
      named = All-nil _;
      its = λ i cite e. absurd (none-at i cite e);
      last_low = λ b. omega (arith, zeros b);
      last_in = λ b some. absurd (omega (arith, zeros b, some));
      last_most = λ i less. absurd (omega (arith, less));
      before_low = λ i. omega arith;
      before_in = λ i some. absurd (omega (arith, some));
      before_most = λ i j less inside. absurd (omega (arith, inside));
    }

pub filed-start : (width : ℕ) (cites : List Cite) (filed before last : List ℕ) → cites ≡ [] → filed ≡ [] → before ≡ [] → 0 < width → last ≡ replicate (width + 1) 0 → length last ≡ width + 1 → AreFiled width cites filed before last 0
filed-start width cites filed before last is_cites is_filed is_before some is long =
    subst (λ (c : List Cite). AreFiled width c filed before last 0) (sym is_cites) (subst (λ (f : List ℕ). AreFiled width [] f before last 0) (sym is_filed)
    (subst (λ (f : List ℕ). AreFiled width [] [] f last 0) (sym is_before) (filed-none width last some is long)))

module _ (width : ℕ) (cites : List Cite) (filed before last : List ℕ) (paths more b : ℕ) (cite : Cite) (h : AreFiled width cites filed before last paths) (its : IsBucketFor width (literals_of cite) b)
    (up : paths ≤ more) (few : more ≤ 65536) (named : All (λ (a : Literal). a.path < more) (literals_of cite)) where
  filed-front : (i : ℕ) → i < length cites → slice_index (filed ++ b ∷ []) i ≡ slice_index filed i
  filed-front i l = get_or_append_left filed (b ∷ []) 0 i (omega (arith, l, h.filed_all))

  filed-here : slice_index (filed ++ b ∷ []) (length cites) ≡ b
  filed-here = get_or_push filed b 0 (length cites) h.filed_all

  before-front : (i : ℕ) → i < length cites → slice_index (before ++ slice_index last b ∷ []) i ≡ slice_index before i
  before-front i l = get_or_append_left before (slice_index last b ∷ []) 0 i (omega (arith, l, h.before_all))

  before-here : slice_index (before ++ slice_index last b ∷ []) (length cites) ≡ slice_index last b
  before-here = get_or_push before (slice_index last b) 0 (length cites) h.before_all

  before-past : (i : ℕ) → length cites < i → slice_index (before ++ slice_index last b ∷ []) i ≡ 0
  before-past i l = past-end (before ++ slice_index last b ∷ []) i (omega (arith, l, h.before_all, length-append before (slice_index last b ∷ [])))

  last-here : slice_index (set last b (length cites + 1)) b ≡ length cites + 1
  last-here = get_or-set_same last b (length cites + 1) 0 (omega (arith, its.below, h.last_all))

  last-else : (c : ℕ) → c ≢ b → slice_index (set last b (length cites + 1)) c ≡ slice_index last c
  last-else c ne = get_or-set_other last b c (length cites + 1) 0 ne

  its-all : (i : ℕ) (one : Cite) → slice_get (cites ++ cite ∷ []) i ≡ Some one → IsBucketFor width (literals_of one) (slice_index (filed ++ b ∷ []) i)
  its-all i one e = ⊎_elim
      (λ l. subst (IsBucketFor width (literals_of one)) (sym (filed-front i l)) (h.its i one (get-front cites (cite ∷ []) i one l e)))
      (λ l. subst (λ (x : Cite). IsBucketFor width (literals_of x) (slice_index (filed ++ b ∷ []) i)) (last-is cites cite one i l e)
      (subst (λ k. IsBucketFor width (literals_of cite) (slice_index (filed ++ b ∷ []) k)) (sym l) (subst (IsBucketFor width (literals_of cite)) (sym filed-here) its)))
      (front-or-last cites cite i one e)

  last-in : (c : ℕ) → 0 < slice_index (set last b (length cites + 1)) c → slice_index (filed ++ b ∷ []) (slice_index (set last b (length cites + 1)) c - 1) ≡ c
  last-in c some = dite (ℕ_discrete c b)
      (λ same.
      let here : slice_index (set last b (length cites + 1)) c ≡ length cites + 1 = ap (slice_index (set last b (length cites + 1))) same ∙ last-here in
      let place : slice_index (set last b (length cites + 1)) c - 1 ≡ length cites = omega (arith, here) in
      ap (slice_index (filed ++ b ∷ [])) place ∙ (filed-here ∙ sym same))
      (λ ne.
      let else = last-else c ne in
      let place : slice_index (set last b (length cites + 1)) c - 1 ≡ slice_index last c - 1 = omega (arith, else) in
      ap (slice_index (filed ++ b ∷ [])) place ∙ (filed-front (slice_index last c - 1) (omega (arith, some, else, h.last_low c)) ∙ h.last_in c (omega (arith, some, else))))

  last-low : (c : ℕ) → slice_index (set last b (length cites + 1)) c ≤ length (cites ++ cite ∷ [])
  last-low c = dite (ℕ_discrete c b)
      (λ same.
      let here : slice_index (set last b (length cites + 1)) c ≡ length cites + 1 = ap (slice_index (set last b (length cites + 1))) same ∙ last-here in
      omega (arith, here, length-append cites (cite ∷ [])))
      (λ ne. omega (arith, last-else c ne, h.last_low c, length-append cites (cite ∷ [])))

  last-most : (i : ℕ) → i < length (cites ++ cite ∷ []) → i + 1 ≤ slice_index (set last b (length cites + 1)) (slice_index (filed ++ b ∷ []) i)
  last-most i inside = dite (ℕ_discrete (slice_index (filed ++ b ∷ []) i) b)
      (λ same.
      let here : slice_index (set last b (length cites + 1)) (slice_index (filed ++ b ∷ []) i) ≡ length cites + 1 = ap (slice_index (set last b (length cites + 1))) same ∙ last-here in
      omega (arith, here, inside, length-append cites (cite ∷ [])))
      (λ ne. dite (ℕ_discrete i (length cites))
      (λ end. absurd (ne (ap (slice_index (filed ++ b ∷ [])) end ∙ filed-here)))
      (λ before_end.
      let small : i < length cites = omega (arith, inside, length-append cites (cite ∷ []), before_end) in
      omega (arith, last-else (slice_index (filed ++ b ∷ []) i) ne, ap (slice_index last) (filed-front i small), h.last_most i small)))

  before-low : (i : ℕ) → slice_index (before ++ slice_index last b ∷ []) i ≤ i
  before-low i = elim (cases_order i (length cites)) [
    | inl same ↦ (let here = ap (slice_index (before ++ slice_index last b ∷ [])) same ∙ before-here in omega (arith, here, h.last_low b, same))
    | inr apart ↦ elim apart [
      | inl less ↦ omega (arith, before-front i less, h.before_low i)
      | inr past ↦ omega (arith, before-past i past)
    ]
  ]

  before-in : (i : ℕ) → 0 < slice_index (before ++ slice_index last b ∷ []) i →
      slice_index (filed ++ b ∷ []) (slice_index (before ++ slice_index last b ∷ []) i - 1) ≡ slice_index (filed ++ b ∷ []) i
  before-in i some = elim (cases_order i (length cites)) [
    | inl same ↦ (
        let here = ap (slice_index (before ++ slice_index last b ∷ [])) same ∙ before-here in
        let place : slice_index (before ++ slice_index last b ∷ []) i - 1 ≡ slice_index last b - 1 = omega (arith, here) in
        ap (slice_index (filed ++ b ∷ [])) place ∙ (filed-front (slice_index last b - 1) (omega (arith, some, here, h.last_low b)) ∙ (h.last_in b (omega (arith, some, here)) ∙
        sym (ap (slice_index (filed ++ b ∷ [])) same ∙ filed-here))))
    | inr apart ↦ elim apart [
      | inl less ↦ (
          let front = before-front i less in
          let place : slice_index (before ++ slice_index last b ∷ []) i - 1 ≡ slice_index before i - 1 = omega (arith, front) in
          ap (slice_index (filed ++ b ∷ [])) place ∙ (filed-front (slice_index before i - 1) (omega (arith, some, front, h.before_low i, less)) ∙ (h.before_in i (omega (arith, some, front)) ∙
          sym (filed-front i less))))
      | inr past ↦ absurd (omega (arith, some, before-past i past))
    ]
  ]

  before-most : (i j : ℕ) → i < j → j < length (cites ++ cite ∷ []) → slice_index (filed ++ b ∷ []) i ≡ slice_index (filed ++ b ∷ []) j → i + 1 ≤ slice_index (before ++ slice_index last b ∷ []) j
  before-most i j less inside same = dite (ℕ_discrete j (length cites))
      (λ end.
      let small : i < length cites = omega (arith, less, end) in
      let of_b : slice_index filed i ≡ b = sym (filed-front i small) ∙ (same ∙ (ap (slice_index (filed ++ b ∷ [])) end ∙ filed-here)) in
      omega (arith, ap (slice_index (before ++ slice_index last b ∷ [])) end, before-here, h.last_most i small, ap (slice_index last) of_b))
      (λ ne.
      let low : j < length cites = omega (arith, inside, length-append cites (cite ∷ []), ne) in
      let small : i < length cites = omega (arith, less, low) in
      omega (arith, before-front j low, h.before_most i j less low (sym (filed-front i small) ∙ (same ∙ filed-front j low))))

  filed-more : AreFiled width (cites ++ cite ∷ []) (filed ++ b ∷ []) (before ++ slice_index last b ∷ []) (set last b (length cites + 1)) more
  filed-more = record {
    some = h.some;
    filed_all = omega (arith, h.filed_all, length-append filed (b ∷ []), length-append cites (cite ∷ []));
    before_all = omega (arith, h.before_all, length-append before (slice_index last b ∷ []), length-append cites (cite ∷ []));
    last_all = length-set last b (length cites + 1) ∙ h.last_all;
    paths_few = few;
    named = All-push (λ (one : Cite). All (λ (a : Literal). a.path < more) (literals_of one)) cites cite
        (All-weaker (λ (one : Cite). All (λ (a : Literal). a.path < paths) (literals_of one)) (λ (one : Cite). All (λ (a : Literal). a.path < more) (literals_of one))
        (λ one was. All-weaker (λ (a : Literal). a.path < paths) (λ (a : Literal). a.path < more) (λ a low. omega (arith, low, up)) (literals_of one) was) cites h.named) named;
    its = its-all;
    last_low = last-low;
    last_in = last-in;
    last_most = last-most;
    before_low = before-low;
    before_in = before-in;
    before_most = before-most;
  }

pub filed-add : (width : ℕ) (cites : List Cite) (filed before last : List ℕ) (paths more b : ℕ) (cite : Cite) (newer : List Cite) (filed_newer before_newer : List ℕ) (len : ℕ) (lits : List Literal) →
    AreFiled width cites filed before last paths → lits ≡ literals_of cite → IsBucketFor width lits b → paths ≤ more → more ≤ 65536 → All (λ (a : Literal). a.path < more) lits →
    newer ≡ cites ++ cite ∷ [] → filed_newer ≡ filed ++ b ∷ [] → before_newer ≡ before ++ slice_index last b ∷ [] → len ≡ length cites + 1 →
    AreFiled width newer filed_newer before_newer (set last b len) more
filed-add width cites filed before last paths more b cite newer filed_newer before_newer len lits h same its up few named is_newer is_filed is_before is_len =
    let whole = filed-more width cites filed before last paths more b cite h (subst (λ l. IsBucketFor width l b) same its) up few (subst (All (λ (a : Literal). a.path < more)) same named) in
    subst (λ (n : ℕ). AreFiled width newer filed_newer before_newer (set last b n) more) (sym is_len)
    (subst (λ (f : List ℕ). AreFiled width newer filed_newer f (set last b (length cites + 1)) more) (sym is_before)
    (subst (λ (f : List ℕ). AreFiled width newer f (before ++ slice_index last b ∷ []) (set last b (length cites + 1)) more) (sym is_filed)
    (subst (λ (c : List Cite). AreFiled width c (filed ++ b ∷ []) (before ++ slice_index last b ∷ []) (set last b (length cites + 1)) more) (sym is_newer) whole)))
