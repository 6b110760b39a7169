-- The live views after a step of one seat, after a split and after a join.
use Rattle.std.proofs.Common.{sum_by, ◌≡◌, ◌≢◌, ◌⊎◌, inl, inr, ⊎_elim, ℕ, zero, suc, ◌+◌, ◌≤◌, Bool, true, false, List, [], ◌∷◌, ◌++◌, set, sym, refl, ap, ◌∙◌, subst, arith}
use mathlib.Core.Logic.{dite}
use mathlib.Core.Option.{some, some-injective, some-ne-none}
use native.Mathlib.Decide.{ℕ_discrete}
use lib.ListN.{get_elem?}
use Rattle.std.proofs.lemmas.Bool.{true≢false, cond-true, cond-false, cases_Bool}
use Rattle.std.proofs.lemmas.List.Sums.{sum_by-cons}
use Rattle.atomic_table.proofs.Lists.{at_set, at_snoc, at_longer, set_else}
use Rattle.seat_laws.specs.Shares.{Live, EachLive, SomeLive, part_of, IsShared, WholeIsAlone}
use Rattle.seat_laws.proofs.Sums.{sum_set, sum_more, two_within}

pub set_at : {A : Type 0} (l : List A) (i : ℕ) (a b : A) → get_elem? l i ≡ some a → get_elem? (set l i b) i ≡ some b
set_at [] i a b e = absurd (some-ne-none a (sym e))
set_at (x ∷ xs) zero a b e = refl
set_at (x ∷ xs) (suc i) a b e = set_at xs i a b e

module _ {V : Type 0} (spent : V → Bool) where
  pub same_view : (views : List V) (i j : ℕ) (u v : V) → i ≡ j → Live spent views i u → Live spent views j v → u ≡ v
  same_view views i j u v e a b = some-injective u v (sym a.there ∙ ap (get_elem? views) e ∙ b.there)

  -- ---- one view changes

  pub live_set : (views : List V) (id : ℕ) (w : V) (j : ℕ) (u : V) → Live spent (set views id w) j u → ((j ≡ id) × (w ≡ u)) ⊎ ((j ≢ id) × Live spent views j u)
  live_set views id w j u l = ⊎_elim (λ t. inl t) (λ t. inr (t.0, record { there = t.1; unspent = l.unspent })) (at_set views id j w u l.there)

  pub live_else : (views : List V) (id : ℕ) (w : V) (j : ℕ) (u : V) → j ≢ id → Live spent views j u → Live spent (set views id w) j u
  live_else views id w j u n l = record { there = set_else views id j w n ∙ l.there; unspent = l.unspent }

  pub live_here : (views : List V) (id : ℕ) (v w : V) → Live spent views id v → spent w ≡ false → Live spent (set views id w) id w
  live_here views id v w l un = record { there = set_at views id v w l.there; unspent = un }

  pub each_set : (P Q : V → Type 0) (views : List V) (id : ℕ) (w : V) → ((u : V) → P u → Q u) → Q w → EachLive spent P views → EachLive spent Q (set views id w)
  each_set P Q views id w more q each j u l = ⊎_elim
      (λ (t : (j ≡ id) × (w ≡ u)). subst Q t.1 q)
      (λ (t : (j ≢ id) × Live spent views j u). more u (each j u t.1))
      (live_set views id w j u l)

  pub some_set : (P : V → Type 0) (views : List V) (id : ℕ) (v w : V) → Live spent views id v → spent w ≡ false → (P v → P w) → SomeLive spent P views → SomeLive spent P (set views id w)
  some_set P views id v w l un more o = dite (ℕ_discrete o.0 id)
      (λ e. (id, w, live_here views id v w l un, more (subst P (same_view views o.0 id o.1 v e o.2 l) o.3)))
      (λ ne. (o.0, o.1, live_else views id w o.0 o.1 ne o.2, o.3))

  -- ---- a split: one view changes and another comes behind all

  pub live_split : (views : List V) (id : ℕ) (left right : V) (j : ℕ) (u : V) → Live spent (set views id left ++ right ∷ []) j u → (right ≡ u) ⊎ (left ≡ u) ⊎ Live spent views j u
  live_split views id left right j u l = ⊎_elim
      (λ h. ⊎_elim (λ (t : (j ≡ id) × (left ≡ u)). inr (inl t.1)) (λ (t : (j ≢ id) × Live spent views j u). inr (inr t.1)) (live_set views id left j u (record { there = h; unspent = l.unspent })))
      (λ e. inl e)
      (at_snoc (set views id left) right u j l.there)

  pub each_split : (P : V → Type 0) (views : List V) (id : ℕ) (left right : V) → P left → P right → EachLive spent P views → EachLive spent P (set views id left ++ right ∷ [])
  each_split P views id left right p q each j u l = ⊎_elim
      (λ e. subst P e q)
      (⊎_elim (λ e. subst P e p) (λ o. each j u o))
      (live_split views id left right j u l)

  pub some_split : (P : V → Type 0) (views : List V) (id : ℕ) (v left right : V) → Live spent views id v → spent left ≡ false → (P v → P left) → SomeLive spent P views → SomeLive spent P (set views id left ++ right ∷ [])
  some_split P views id v left right l un more o =
      let p = some_set P views id v left l un more o in
      (p.0, p.1, record { there = at_longer (set views id left) (right ∷ []) p.0 p.1 p.2.there; unspent = p.2.unspent }, p.3)

  -- ---- a join: one view takes in another, which is spent then

  pub live_joined : (views : List V) (id other : ℕ) (both gone : V) → spent gone ≡ true → (j : ℕ) (u : V) → Live spent (set (set views id both) other gone) j u → (both ≡ u) ⊎ Live spent views j u
  live_joined views id other both gone is j u l = ⊎_elim
      (λ (t : (j ≡ other) × (gone ≡ u)). absurd (true≢false (sym is ∙ (ap spent t.1 ∙ l.unspent))))
      (λ (t : (j ≢ other) × Live spent (set views id both) j u). ⊎_elim (λ (h : (j ≡ id) × (both ≡ u)). inl h.1) (λ (h : (j ≢ id) × Live spent views j u). inr h.1) (live_set views id both j u t.1))
      (live_set (set views id both) other gone j u l)

  pub each_join : (P : V → Type 0) (views : List V) (id other : ℕ) (both gone : V) → spent gone ≡ true → P both → EachLive spent P views → EachLive spent P (set (set views id both) other gone)
  each_join P views id other both gone is p each j u l = ⊎_elim (λ e. subst P e p) (λ o. each j u o) (live_joined views id other both gone is j u l)

  pub some_join : (P : V → Type 0) (views : List V) (id other : ℕ) (v w both gone : V) → id ≢ other → Live spent views id v → Live spent views other w → spent both ≡ false → (P v → P both) → (P w → P both) → SomeLive spent P views → SomeLive spent P (set (set views id both) other gone)
  some_join P views id other v w both gone apart l r un from_v from_w o =
      let vs : List V = set views id both in
      let here : Live spent (set vs other gone) id both = live_else vs other gone id both apart (live_here views id v both l un) in
      dite (ℕ_discrete o.0 id)
      (λ e. (id, both, here, from_v (subst P (same_view views o.0 id o.1 v e o.2 l) o.3)))
      (λ ne. dite (ℕ_discrete o.0 other)
      (λ e. (id, both, here, from_w (subst P (same_view views o.0 other o.1 w e o.2 r) o.3)))
      (λ no_other. (o.0, o.1, live_else vs other gone o.0 o.1 no_other (live_else views id both o.0 o.1 ne o.2), o.3)))

module _ {V : Type 0} (spent : V → Bool) (share : V → ℕ) where
  pub part_live : (v : V) → spent v ≡ false → part_of spent share v ≡ share v
  part_live v un = rw un refl

  pub part_gone : (v : V) → spent v ≡ true → part_of spent share v ≡ 0
  part_gone v is = rw is refl

  pub shared_set : (whole : ℕ) (views : List V) (id : ℕ) (v w : V) → IsShared spent share whole views → Live spent views id v → spent w ≡ false → share w ≡ share v → IsShared spent share whole (set views id w)
  shared_set whole views id v w b l un sh =
      let sv = part_live v l.unspent in
      let sw = part_live w un in
      let change = sum_set (part_of spent share) views id v w l.there in
      let sum = b.sum in
      let part = b.parts id v l in
      record {
        parts = each_set spent (λ u. 1 ≤ share u) (λ u. 1 ≤ share u) views id w (λ u p. p) (omega arith) b.parts;
        sum = omega arith;
      }

  pub shared_split : (whole : ℕ) (views : List V) (id : ℕ) (v left right : V) → IsShared spent share whole views → Live spent views id v → spent left ≡ false → spent right ≡ false → 1 ≤ share left → 1 ≤ share right → share left + share right ≡ share v → IsShared spent share whole (set views id left ++ right ∷ [])
  shared_split whole views id v left right b l un_left un_right some_left some_right both =
      let sv = part_live v l.unspent in
      let sl = part_live left un_left in
      let sr = part_live right un_right in
      let change = sum_set (part_of spent share) views id v left l.there in
      let more = sum_more (part_of spent share) (set views id left) right in
      let sum = b.sum in
      record {
        parts = each_split spent (λ u. 1 ≤ share u) views id left right some_left some_right b.parts;
        sum = omega arith;
      }

  pub shared_join : (whole : ℕ) (views : List V) (id other : ℕ) (v w both gone : V) → IsShared spent share whole views → id ≢ other → Live spent views id v → Live spent views other w → spent both ≡ false → spent gone ≡ true → share both ≡ share v + share w → IsShared spent share whole (set (set views id both) other gone)
  shared_join whole views id other v w both gone b apart l r un is sh =
      let sv = part_live v l.unspent in
      let sw = part_live w r.unspent in
      let sb = part_live both un in
      let sg = part_gone gone is in
      let first = sum_set (part_of spent share) views id v both l.there in
      let second = sum_set (part_of spent share) (set views id both) other w gone (set_else views id other both (λ e. apart (sym e)) ∙ r.there) in
      let sum = b.sum in
      let part = b.parts id v l in
      record {
        parts = each_join spent (λ u. 1 ≤ share u) views id other both gone is (omega arith) b.parts;
        sum = omega arith;
      }

  -- two live views' shares are within the whole
  pub within_whole : (whole : ℕ) (views : List V) → IsShared spent share whole views → (i j : ℕ) (u v : V) → i ≢ j → Live spent views i u → Live spent views j v → share u + share v ≤ whole
  within_whole whole views b i j u v ne lu lv =
      let t = two_within (part_of spent share) views i j u v ne lu.there lv.there in
      let su = part_live u lu.unspent in
      let sv = part_live v lv.unspent in
      let sum = b.sum in
      omega arith

  pub alone-seat : (whole : ℕ) → WholeIsAlone spent share whole
  alone-seat whole views b i j u v lu all lv = dite (ℕ_discrete i j)
      (λ e. e)
      (λ ne. let two = within_whole whole views b i j u v ne lu lv in let some = b.parts j v lv in absurd (omega arith))

  pub alone : (whole : ℕ) (views : List V) → IsShared spent share whole views → (i j : ℕ) (u v : V) → Live spent views i u → share u ≡ whole → Live spent views j v → u ≡ v
  alone whole views b i j u v lu all lv = same_view spent views i j u v (alone-seat whole views b i j u v lu all lv) lu lv

  -- what is counted over the live views is the count of the one that has the whole share
  pub alone_sum : (count : V → ℕ) (whole : ℕ) (views : List V) → IsShared spent share whole views → (id : ℕ) (v : V) → Live spent views id v → share v ≡ whole → sum_by (part_of spent count) views ≡ count v
  alone_sum count whole views b id v l all =
      only_one views id v l.there others ∙ cond-false (spent v) 0 (count v) l.unspent
    where
      part : V → ℕ
      part u = part_of spent count u

      others : (j : ℕ) (u : V) → j ≢ id → get_elem? views j ≡ some u → part u ≡ 0
      others j u ne at = ⊎_elim
          (λ gone. cond-true (spent u) 0 (count u) gone)
          (λ live. let two = within_whole whole views b id j v u (λ e. ne (sym e)) l (record { there = at; unspent = live }) in let some_share = b.parts j u (record { there = at; unspent = live }) in absurd (omega arith))
          (cases_Bool (spent u))

      none_sum : (xs : List V) → ((j : ℕ) (u : V) → get_elem? xs j ≡ some u → part u ≡ 0) → sum_by part xs ≡ 0
      none_sum [] none_of = refl
      none_sum (x ∷ xs) none_of = let here = none_of 0 x refl in let rest = none_sum xs (λ j u e. none_of (suc j) u e) in omega (arith, sum_by-cons part x xs)

      only_one : (xs : List V) (i : ℕ) (u : V) → get_elem? xs i ≡ some u → ((j : ℕ) (w : V) → j ≢ i → get_elem? xs j ≡ some w → part w ≡ 0) → sum_by part xs ≡ part u
      only_one [] i u at none_of = absurd (some-ne-none u (sym at))
      only_one (x ∷ xs) zero u at none_of = let is : part x ≡ part u = ap part (some-injective x u at) in let rest = none_sum xs (λ j w e. none_of (suc j) w (λ z. omega arith) e) in omega (arith, sum_by-cons part x xs)
      only_one (x ∷ xs) (suc i) u at none_of = let here = none_of 0 x (λ z. omega arith) refl in let rest = only_one xs i u at (λ j w ne e. none_of (suc j) w (λ z. ne (omega arith)) e) in omega (arith, sum_by-cons part x xs)
