-- Small facts on lists that stand side by side, on tags and on literals.
use Rattle.std.proofs.Common.{◌≡◌, List, [], ◌∷◌, Contains, Option, Some, subst, ⊎_elim}
use Rattle.std.specs.List.{AllZip}
use Rattle.fapp_model.proofs.Members.{at_front, behind, front_or_behind, no_member}

-- what stands beside a member in two ways
pub zip-both : {X Y : Type 0} (R S : X → Y → Type 0) (xs : List X) (ys : List Y) → AllZip R xs ys → AllZip S xs ys → (x : X) → Contains xs x → (y : Y) × Contains ys y × R x y × S x y
zip-both R S [] [] h g x m = absurd (no_member x m)
zip-both R S [] (z ∷ ys) h g x m = absurd h
zip-both R S (w ∷ xs) [] h g x m = absurd h
zip-both R S (w ∷ xs) (z ∷ ys) h g x m = ⊎_elim
    (λ here. (z, at_front z ys, subst (λ u. R u z) here h.0, subst (λ u. S u z) here g.0))
    (λ later. let r = zip-both R S xs ys h.1 g.1 x later in (r.0, behind z ys r.0 r.1, r.2, r.3))
    (front_or_behind w xs x m)

pub same-some : {X : Type 0} (x y : X) (o : Option X) → o ≡ Some x → o ≡ Some y → x ≡ y
same-some x y o e g = cc
