-- A prefix of the work order is a partial assignment.
use Rattle.std.proofs.Common.{◌≢◌, ℕ, ◌<◌, List, [], ◌∷◌, length, All, AllPairs, Contains, IsTrue, ap, sym, subst, ◌∙◌, ⊎_elim, arith}
use Rattle.std.proofs.lemmas.List.Elements.{All-nil, All-cons, All-head, All-tail, All-contains}
use Rattle.fapp_model.specs.declared.instance.Instance.{Instance}
use Rattle.fapp_model.specs.declared.literal.Literal.{Literal}
use Rattle.fapp_model.specs.Assignments.{count_at}
use Rattle.fapp_model.specs.search.Partials.{IsLiteral, IsPartial}
use Rattle.fapp_model.specs.search.Prefixes.{IsAlong, IsPrefix}
use Rattle.fapp_model.specs.search.WorkOrder.{work_order, comes_before, degree}
use Rattle.fapp_model.proofs.Members.{at_front, behind, front_or_behind, no_member, All-from_members}
use Rattle.fapp_model.proofs.InOrder.{pairs-nil, pairs-cons, pairs-head, pairs-tail, pairs-weaker}
use Rattle.fapp_model.proofs.WorkOrders.{order-is, first-asym}

along-literals : (instance : Instance) (paths : List ℕ) (literals : List Literal) → All (λ p. p < length instance.paths) paths → IsAlong instance paths literals → All (IsLiteral instance) literals
along-literals instance paths [] small h = All-nil (IsLiteral instance)
along-literals instance [] (a ∷ more) small h = absurd h
along-literals instance (path ∷ paths) (a ∷ more) small h =
    All-cons (IsLiteral instance) a more
    (record {
      path = let l = All-head (λ p. p < length instance.paths) path paths small in let e = h.0 in omega arith;
      choice = subst (λ p. a.choice < count_at instance p) (sym h.0) h.1;
    })
    (along-literals instance paths more (All-tail (λ p. p < length instance.paths) path paths small) h.2)

-- a path that literals along some paths name is one of those
along-paths : (instance : Instance) (paths : List ℕ) (literals : List Literal) → IsAlong instance paths literals → (a : Literal) → Contains literals a → Contains paths a.path
along-paths instance paths [] h a m = absurd (no_member a m)
along-paths instance [] (b ∷ more) h a m = absurd h
along-paths instance (path ∷ paths) (b ∷ more) h a m = ⊎_elim
    (λ e. subst (λ p. Contains (path ∷ paths) p) (sym h.0 ∙ ap (λ z. z.path) e) (at_front path paths))
    (λ later. behind path paths a.path (along-paths instance paths more h.2 a later))
    (front_or_behind b more a m)

along-distinct : (instance : Instance) (paths : List ℕ) (literals : List Literal) → AllPairs (λ p q. p ≢ q) paths → IsAlong instance paths literals → AllPairs (λ a b. a.path ≢ b.path) literals
along-distinct instance paths [] apart h = pairs-nil (λ a b. a.path ≢ b.path)
along-distinct instance [] (a ∷ more) apart h = absurd h
along-distinct instance (path ∷ paths) (a ∷ more) apart h =
    pairs-cons (λ u v. u.path ≢ v.path) a more
    (All-from_members (λ b. a.path ≢ b.path) more (λ b m e.
    All-contains (λ q. path ≢ q) paths b.path (pairs-head (λ p q. p ≢ q) path paths apart) (along-paths instance paths more h.2 b m) (sym h.0 ∙ e)))
    (along-distinct instance paths more (pairs-tail (λ p q. p ≢ q) path paths apart) h.2)

pub prefix-is_partial : (instance : Instance) (prefix : List Literal) → IsPrefix instance prefix → IsPartial instance prefix
prefix-is_partial instance prefix h =
    let order = order-is instance in
    record {
      in_range = along-literals instance (work_order instance) prefix order.in_range h;
      distinct = along-distinct instance (work_order instance) prefix
          (pairs-weaker (λ a b. IsTrue (comes_before instance a b)) (λ p q. p ≢ q)
          (λ p q before e.
          let loop : IsTrue (comes_before instance q q) = subst (λ z. IsTrue (comes_before instance z q)) e before in
          first-asym (degree instance q) (degree instance q) q q loop loop)
          (work_order instance) order.ordered) h;
    }
