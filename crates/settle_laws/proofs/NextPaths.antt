-- The next path of the work order after a prefix.
use Rattle.std.proofs.Common.{◌≡◌, ◌≢◌, ℕ, zero, suc, ◌-◌, ◌<◌, ◌≤◌, false, eqb, List, [], ◌∷◌, ◌++◌, length, AllPairs, Contains, Some, None, IsTrue, sym, ap, subst, ◌∙◌, ⊎_elim, arith}
use Rattle.std.specs.List.{slice_get}
use Rattle.std.proofs.lemmas.Bool.{cases_Bool, eqb-true}
use Rattle.std.proofs.lemmas.List.{length-append}
use Rattle.std.proofs.lemmas.List.Elements.{All-contains}
use Rattle.std.proofs.lemmas.Option.{slice_get_within, get_or_from_slice_get}
use Rattle.fapp_model.specs.declared.instance.Instance.{Instance}
use Rattle.fapp_model.specs.declared.literal.Literal.{Literal}
use Rattle.fapp_model.specs.Assignments.{count_at}
use Rattle.fapp_model.specs.search.Partials.{literal, names}
use Rattle.fapp_model.specs.search.Prefixes.{IsAlong, IsPrefix}
use Rattle.fapp_model.specs.search.WorkOrder.{comes_before, degree, work_order}
use Rattle.fapp_model.proofs.Anys.{no-member}
use Rattle.fapp_model.proofs.Members.{front_or_behind, no_member}
use Rattle.fapp_model.proofs.InOrder.{pairs-head, pairs-tail, pairs-weaker}
use Rattle.fapp_model.proofs.WorkOrders.{first-asym, order-is, order-length}

pub get-contains : {X : Type 0} (xs : List X) (n : ℕ) (x : X) → slice_get xs n ≡ Some x → Contains xs x
get-contains xs n x e = (n, slice_get_within xs n x e, get_or_from_slice_get xs n x x e)

pub past : {X : Type 0} (xs : List X) (n : ℕ) → slice_get xs n ≡ None → length xs ≤ n
past [] n e = omega arith
past (x ∷ xs) zero e = cc
past (x ∷ xs) (suc n) e = let l = past xs n e in omega arith

along-apart : (instance : Instance) (paths : List ℕ) (lits : List Literal) (path : ℕ) → AllPairs (λ p q. p ≢ q) paths → IsAlong instance paths lits → slice_get paths (length lits) ≡ Some path → (a : Literal) → Contains lits a → a.path ≡ path → ⊥
along-apart instance paths [] path apart along next a m e = no_member a m
along-apart instance [] (b ∷ lits) path apart along next a m e = absurd along
along-apart instance (p ∷ paths) (b ∷ lits) path apart along next a m e = ⊎_elim
    (λ here. All-contains (λ q. p ≢ q) paths path (pairs-head (λ u v. u ≢ v) p paths apart) (get-contains paths (length lits) path next) (sym along.0 ∙ (ap (λ (x : Literal). x.path) here ∙ e)))
    (λ later. along-apart instance paths lits path (pairs-tail (λ u v. u ≢ v) p paths apart) along.2 next a later e)
    (front_or_behind b lits a m)

along-next : (instance : Instance) (paths : List ℕ) (lits : List Literal) (path i : ℕ) → IsAlong instance paths lits → slice_get paths (length lits) ≡ Some path → i < count_at instance path → IsAlong instance paths (lits ++ literal path i ∷ [])
along-next instance [] [] path i along next below = cc
along-next instance (p ∷ paths) [] path i along next below = let e : p ≡ path = cc in (sym e, subst (λ q. i < count_at instance q) (sym e) below, tt)
along-next instance [] (b ∷ lits) path i along next below = absurd along
along-next instance (p ∷ paths) (b ∷ lits) path i along next below = (along.0, along.1, along-next instance paths lits path i along.2 next below)

along-short : (instance : Instance) (paths : List ℕ) (lits : List Literal) → IsAlong instance paths lits → length lits ≤ length paths
along-short instance paths [] along = omega arith
along-short instance [] (b ∷ lits) along = absurd along
along-short instance (p ∷ paths) (b ∷ lits) along = let l = along-short instance paths lits along.2 in omega arith

pub prefix-short : (instance : Instance) (prefix : List Literal) → IsPrefix instance prefix → length prefix ≤ length (work_order instance)
prefix-short instance prefix is = along-short instance (work_order instance) prefix is

module _ (instance : Instance) (prefix : List Literal) (is : IsPrefix instance prefix) (path : ℕ) (next : slice_get (work_order instance) (length prefix) ≡ Some path) where
  pub next-small : path < length instance.paths
  next-small = All-contains (λ p. p < length instance.paths) (work_order instance) path (order-is instance).in_range (get-contains (work_order instance) (length prefix) path next)

  -- it does not name every path
  pub next-short : length prefix < length instance.paths
  next-short = omega (arith, slice_get_within (work_order instance) (length prefix) path next, order-length instance)

  pub next-apart : names prefix path ≡ false
  next-apart = no-member (λ (a : Literal). eqb a.path path) prefix (λ a m. ⊎_elim
      (λ yes. absurd (along-apart instance (work_order instance) prefix path
      (pairs-weaker (λ a b. IsTrue (comes_before instance a b)) (λ p q. p ≢ q)
      (λ p q before e.
      let loop : IsTrue (comes_before instance q q) = subst (λ z. IsTrue (comes_before instance z q)) e before in
      first-asym (degree instance q) (degree instance q) q q loop loop)
      (work_order instance) (order-is instance).ordered)
      is next a m (eqb-true a.path path yes)))
      (λ no. no)
      (cases_Bool (eqb a.path path)))

  pub next-prefix : (i : ℕ) → i < count_at instance path → IsPrefix instance (prefix ++ literal path i ∷ [])
  next-prefix i below = along-next instance (work_order instance) prefix path i is next below

  pub next-shorter : (i : ℕ) → length (work_order instance) - length (prefix ++ literal path i ∷ []) < length (work_order instance) - length prefix
  next-shorter i = omega (arith, slice_get_within (work_order instance) (length prefix) path next, length-append prefix (literal path i ∷ []))
