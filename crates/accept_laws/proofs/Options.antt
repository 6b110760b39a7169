-- Where no fault was found.
use Rattle.std.proofs.Common.{◌≡◌, Bool, true, false, List, [], ◌∷◌, refl, Option, Some, None, All}
use Rattle.std.specs.Option.{option_or, option_map}
use Rattle.std.proofs.lemmas.List.Elements.{All-cons, All-nil, All-head, All-tail}
use Rattle.cert_lines.specs.declared.reject.RejectCause.{RejectCause}
use Rattle.cert_lines.specs.acceptance.LineFaults.{first_of, cause_unless}

pub neither : {X : Type 0} (x y : Option X) → option_or x y ≡ None → (x ≡ None) × (y ≡ None)
neither None y h = (refl, h)
neither (Some x) y h = absurd (cc)

pub cause_unless-none : (b : Bool) (cause : RejectCause) → cause_unless b cause ≡ None → b ≡ true
cause_unless-none true cause h = refl
cause_unless-none false cause h = absurd (cc)

pub first_of-none : {X Y : Type 0} (f : X → Option Y) (xs : List X) → first_of f xs ≡ None → All (λ x. f x ≡ None) xs
first_of-none f [] h = All-nil (λ x. f x ≡ None)
first_of-none f (x ∷ xs) h = let parts = neither (f x) (first_of f xs) h in All-cons (λ y. f y ≡ None) x xs parts.0 (first_of-none f xs parts.1)

pub mapped-none : {X Y : Type 0} (f : X → Y) (o : Option X) → option_map f o ≡ None → o ≡ None
mapped-none f None h = refl
mapped-none f (Some x) h = absurd (cc)

-- the other way round
pub both-none : {X : Type 0} (x y : Option X) → x ≡ None → y ≡ None → option_or x y ≡ None
both-none None y h g = g
both-none (Some x) y h g = absurd (cc)

pub none-first_of : {X Y : Type 0} (f : X → Option Y) (xs : List X) → All (λ x. f x ≡ None) xs → first_of f xs ≡ None
none-first_of f [] h = refl
none-first_of f (x ∷ xs) h = both-none (f x) (first_of f xs) (All-head (λ y. f y ≡ None) x xs h) (none-first_of f xs (All-tail (λ y. f y ≡ None) x xs h))
