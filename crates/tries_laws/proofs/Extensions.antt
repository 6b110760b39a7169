-- The prefixes that go on from a prefix.
use Rattle.std.proofs.Common.{◌≡◌, ◌≢◌, ◌↔◌, ℕ, zero, suc, ◌+◌, ◌<◌, ◌≤◌, Some, List, [], ◌∷◌, ◌++◌, length, drop, slice_get, AllPairs, Contains, sum_by, refl, sym, subst, inl, inr, arith}
use Rattle.std.specs.List.{range_with_len}
use Rattle.std.proofs.lemmas.List.{append_cancel_left, drop_all, length-append}
use Rattle.fapp_model.specs.declared.instance.Instance.{Instance}
use Rattle.fapp_model.specs.declared.literal.Literal.{Literal}
use Rattle.fapp_model.specs.declared.triple.Triple.{Triple}
use Rattle.fapp_model.specs.Assignments.{count_at}
use Rattle.fapp_model.specs.search.Dead.{Dead}
use Rattle.fapp_model.specs.search.Partials.{literal}
use Rattle.fapp_model.specs.search.Prefixes.{GoesOn, IsAlong, IsPrefix, extensions, lists_along}
use Rattle.fapp_model.specs.search.Tries.{IsTries, IsTriesBy}
use Rattle.fapp_model.specs.search.WorkOrder.{work_order}
use Rattle.tries_laws.proofs.Lists.{from-lists_along, in-lists_along, once-lists_along}
use Rattle.fapp_model.proofs.Members.{from-map, in-map}
use Rattle.fapp_model.proofs.InOrder.{pairs-map, pairs-weaker}
use Rattle.tries_laws.proofs.TriesCounts.{along-drop}
use Rattle.fapp_model.proofs.WorkOrders.{order-length}

pub along-append : (instance : Instance) (paths : List ℕ) (start more : List Literal) → IsAlong instance paths start → IsAlong instance (drop (length start) paths) more → IsAlong instance paths (start ++ more)
along-append instance paths [] more h k = k
along-append instance [] (a ∷ start) more h k = absurd h
along-append instance (path ∷ paths) (a ∷ start) more h k = (h.0, h.1, along-append instance paths start more h.2 k)

pub extensions-all : (instance : Instance) (prefix literals : List Literal) → IsPrefix instance prefix → Contains (extensions instance prefix) literals ↔ (IsPrefix instance literals × GoesOn prefix literals)
extensions-all instance prefix literals h =
    let rest = drop (length prefix) (work_order instance) in (
      λ m.
          let back = from-map (λ more. prefix ++ more) (lists_along instance rest) literals m in (
            subst (IsPrefix instance) back.2 (along-append instance (work_order instance) prefix back.0 h (from-lists_along instance rest back.0 back.1)),
            (back.0, sym back.2),
          ),
      λ k.
          let more = k.1 in
          let along = along-drop instance (work_order instance) prefix more.0 (subst (IsPrefix instance) more.1 k.0) in
          subst (λ z. Contains (extensions instance prefix) z) (sym more.1)
          (in-map (λ z. prefix ++ z) (lists_along instance rest) more.0 (in-lists_along instance rest more.0 along)),
    )

pub extensions-once : (instance : Instance) (prefix : List Literal) → AllPairs (λ a b. a ≢ b) (extensions instance prefix)
extensions-once instance prefix =
    let lists = lists_along instance (drop (length prefix) (work_order instance)) in
    pairs-map (λ a b. a ≢ b) (λ more. prefix ++ more) lists
    (pairs-weaker (λ a b. a ≢ b) (λ a b. prefix ++ a ≢ prefix ++ b) (λ a b apart e. apart (append_cancel_left prefix a b e)) lists
    (once-lists_along instance (drop (length prefix) (work_order instance))))

-- ---- tries by the next path

by_none : (instance : Instance) (IsDead : List Literal → Type 0) (paths : List ℕ) (literals : List Literal) → IsDead literals → IsTriesBy IsDead (count_at instance) paths literals 0
by_none instance IsDead [] literals dead = inl (dead, refl)
by_none instance IsDead (path ∷ paths) literals dead = inl (dead, refl)

pub tries-dead : (instance : Instance) (t : Triple) (prefix : List Literal) → Dead instance t prefix → IsTries instance t prefix 0
tries-dead instance t prefix dead = by_none instance (Dead instance t) (drop (length prefix) (work_order instance)) prefix dead

pub tries-last : (instance : Instance) (t : Triple) (prefix : List Literal) → (Dead instance t prefix → ⊥) → length instance.paths ≤ length prefix → IsTries instance t prefix 1
tries-last instance t prefix alive long =
    let none : drop (length prefix) (work_order instance) ≡ [] = drop_all (length prefix) (work_order instance) (omega (arith, order-length instance)) in
    subst (λ paths. IsTriesBy (Dead instance t) (count_at instance) paths prefix 1) (sym none) (inr (alive, (0, refl, refl)))

drop_at_some : (paths : List ℕ) (n path : ℕ) → slice_get paths n ≡ Some path → drop n paths ≡ path ∷ drop (suc n) paths
drop_at_some [] n path e = cc
drop_at_some (x ∷ paths) zero path e = cc
drop_at_some (x ∷ paths) (suc n) path e = drop_at_some paths n path e

pub tries-next : (instance : Instance) (t : Triple) (prefix : List Literal) (path : ℕ) (tries : ℕ → ℕ) → (Dead instance t prefix → ⊥) → slice_get (work_order instance) (length prefix) ≡ Some path → ((index : ℕ) → index < count_at instance path → IsTries instance t (prefix ++ literal path index ∷ []) (tries index)) → IsTries instance t prefix (1 + sum_by tries (range_with_len 0 (count_at instance path)))
tries-next instance t prefix path tries alive e each =
    let rest = drop (suc (length prefix)) (work_order instance) in
    let next : drop (length prefix) (work_order instance) ≡ path ∷ rest = drop_at_some (work_order instance) (length prefix) path e in
    subst (λ paths. IsTriesBy (Dead instance t) (count_at instance) paths prefix (1 + sum_by tries (range_with_len 0 (count_at instance path)))) (sym next)
    (inr (
      alive,
      (
        sum_by tries (range_with_len 0 (count_at instance path)),
        refl,
        record {
          part = tries;
          each = λ index l.
              let long : length (prefix ++ literal path index ∷ []) ≡ suc (length prefix) = omega (arith, length-append prefix (literal path index ∷ [])) in
              subst (λ n. IsTriesBy (Dead instance t) (count_at instance) (drop n (work_order instance)) (prefix ++ literal path index ∷ []) (tries index)) long (each index l);
          sum = refl;
        },
      ),
    ))
