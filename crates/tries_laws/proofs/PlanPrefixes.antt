-- Each assignment extends one prefix of the jobs.
use Rattle.std.proofs.Common.{◌≡◌, ℕ, ◌<◌, List, [], ◌∷◌, length, get_or, take, map, All, Contains, refl, ap, sym, ◌∙◌, arith}
use Rattle.std.proofs.lemmas.List.{length-map}
use Rattle.std.proofs.lemmas.List.Elements.{All-head, All-tail, All-map, All-take}
use Rattle.fapp_model.specs.declared.instance.Instance.{Instance}
use Rattle.fapp_model.specs.declared.literal.Literal.{Literal}
use Rattle.fapp_model.specs.Assignments.{IsAssignment}
use Rattle.fapp_model.specs.search.Jobs.{depth, prefixes}
use Rattle.fapp_model.specs.search.Partials.{Extends, literal}
use Rattle.fapp_model.specs.search.Prefixes.{IsAlong}
use Rattle.fapp_model.specs.search.WorkOrder.{work_order}
use Rattle.tries_laws.proofs.Lists.{in-choice_lists, from-choice_lists}
use Rattle.fapp_model.proofs.WorkOrders.{order-is}

-- what a plan chooses of some paths
abbrev pub literals_of : List ℕ → List ℕ → List Literal
literals_of plan paths = map (λ path. literal path (get_or plan path 0)) paths

literals-along : (instance : Instance) (plan paths : List ℕ) → IsAssignment instance plan → All (λ p. p < length instance.paths) paths → IsAlong instance paths (literals_of plan paths)
literals-along instance plan [] h small = tt
literals-along instance plan (path ∷ paths) h small =
    (refl, h.in_range path (All-head (λ p. p < length instance.paths) path paths small), literals-along instance plan paths h (All-tail (λ p. p < length instance.paths) path paths small))

pub plan-prefix : (instance : Instance) (split : ℕ) (plan : List ℕ) → IsAssignment instance plan → (prefix : List Literal) × Contains (prefixes instance split) prefix × Extends plan prefix
plan-prefix instance split plan h =
    let paths : List ℕ = take (depth instance split) (work_order instance) in
    let small : All (λ p. p < length instance.paths) paths = All-take (λ p. p < length instance.paths) (depth instance split) (work_order instance) (order-is instance).in_range in (
      literals_of plan paths,
      in-choice_lists instance paths (literals_of plan paths) (literals-along instance plan paths h small) (length-map paths (λ path. literal path (get_or plan path 0))),
      All-map (λ a. get_or plan a.path 0 ≡ a.choice) (λ path. literal path (get_or plan path 0)) paths (λ k d l. refl),
    )

same_literals : (instance : Instance) (plan paths : List ℕ) (a b : List Literal) → IsAlong instance paths a → IsAlong instance paths b → length a ≡ length paths → length b ≡ length paths → Extends plan a → Extends plan b → a ≡ b
same_literals instance plan paths [] [] h k l m e f = refl
same_literals instance plan paths [] (b ∷ others) h k l m e f = absurd (omega arith)
same_literals instance plan paths (a ∷ more) [] h k l m e f = absurd (omega arith)
same_literals instance plan [] (a ∷ more) (b ∷ others) h k l m e f = absurd h
same_literals instance plan (path ∷ paths) (a ∷ more) (b ∷ others) h k l m e f =
    let Chosen : Literal → Type 0 = λ z. get_or plan z.path 0 ≡ z.choice in
    let rest : more ≡ others = same_literals instance plan paths more others h.2 k.2 (omega arith) (omega arith) (All-tail Chosen a more e) (All-tail Chosen b others f) in
    let one : a ≡ literal path (get_or plan path 0) = chosen plan path a h.0 (All-head Chosen a more e) in
    let two : b ≡ literal path (get_or plan path 0) = chosen plan path b k.0 (All-head Chosen b others f) in
    let same : a ≡ b = one ∙ sym two in
    cc
  where
    chosen : (plan : List ℕ) (path : ℕ) (a : Literal) → a.path ≡ path → get_or plan a.path 0 ≡ a.choice → a ≡ literal path (get_or plan path 0)
    chosen plan path a p c = ap (λ z. literal z a.choice) p ∙ ap (λ z. literal path z) (sym c ∙ ap (λ z. get_or plan z 0) p)

pub one-prefix : (instance : Instance) (split : ℕ) (plan : List ℕ) (a b : List Literal) → Contains (prefixes instance split) a → Contains (prefixes instance split) b → Extends plan a → Extends plan b → a ≡ b
one-prefix instance split plan a b ma mb e f =
    let paths : List ℕ = take (depth instance split) (work_order instance) in
    let h = from-choice_lists instance paths a ma in
    let k = from-choice_lists instance paths b mb in
    same_literals instance plan paths a b h.0 k.0 h.1 k.1 e f
