-- What is taken from the end of a list.
use Rattle.std.proofs.Common.{◌≡◌, List, [], ◌∷◌, ◌++◌, length, All, Option, Some, refl, ap, ◌∙◌, subst, arith}
use Rattle.std.specs.Prelude.{option_to_list}
use Rattle.std.proofs.lemmas.List.Elements.{All-contains, Contains-append_right}

pub last-of : {X : Type 0} (P : X → Type 0) (xs rest : List X) (popped : Option X) (x : X) → All P xs → xs ≡ rest ++ option_to_list popped → popped ≡ Some x → P x
last-of P xs rest popped x all are is =
    All-contains P (rest ++ x ∷ []) x (subst (All P) (are ∙ ap (λ o. rest ++ option_to_list o) is) all) (Contains-append_right rest (x ∷ []) x (0, omega arith, refl))
