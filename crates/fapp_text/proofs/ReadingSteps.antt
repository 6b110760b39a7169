-- What a reading that went well says of its steps, and how a step that fails ends it.
use Rattle.std.proofs.Common.{◌≡◌, ◌⊎◌, ℕ, Bool, true, false, cond, Option, Some, None, Result, Ok, Err, refl, inl, inr}
use Rattle.fapp_text.specs.Reading.{◌>>=◌, unless, allowed, or_fault, at_line}

pub ok_is : {E A : Type 0} (x y : A) → ◌≡◌ {A = Result A E} (Ok x) (Ok y) → x ≡ y
ok_is x y h = cc

pub bind_ok : {E A B : Type 0} (r : Result A E) (f : A → Result B E) (y : B) → r >>= f ≡ Ok y → (x : A) × (r ≡ Ok x) × (f x ≡ Ok y)
bind_ok (Ok x) f y h = (x, refl, h)
bind_ok (Err e) f y h = absurd cc

pub bind_err : {E A B C : Type 0} (r : Result A E) (f : A → Result B E) (g : A → Result C E) (e : E) → ((x : A) → f x ≡ Err e → g x ≡ Err e) → r >>= f ≡ Err e → r >>= g ≡ Err e
bind_err (Ok x) f g e later h = later x h
bind_err (Err d) f g e later h = let same : d ≡ e = cc in rw same refl

pub bind_same : {E A B : Type 0} (r : Result A E) (f g : A → Result B E) → ((x : A) → f x ≡ g x) → r >>= f ≡ r >>= g
bind_same (Ok x) f g later = later x
bind_same (Err e) f g later = refl

pub unless_ok : {E A : Type 0} (fault : Option E) (x y : A) → ◌≡◌ {A = Result A E} (unless fault x) (Ok y) → (fault ≡ None) × (x ≡ y)
unless_ok (Some e) x y h = absurd cc
unless_ok None x y h = (refl, cc)

pub allowed_ok : {E A : Type 0} (test : Bool) (e : E) (x y : A) → allowed test e x ≡ Ok y → (test ≡ true) × (x ≡ y)
allowed_ok true e x y h = (refl, cc)
allowed_ok false e x y h = absurd cc

pub or_fault_ok : {E F A : Type 0} (fault : F) (r : Result A E) (x : A) → or_fault fault r ≡ Ok x → r ≡ Ok x
or_fault_ok fault (Ok y) x h = let same : y ≡ x = cc in rw same refl
or_fault_ok fault (Err e) x h = absurd cc

pub at_line_ok : {C A : Type 0} (line : ℕ) (r : Result A C) (x : A) → at_line line r ≡ Ok x → r ≡ Ok x
at_line_ok line (Ok y) x h = let same : y ≡ x = cc in rw same refl
at_line_ok line (Err e) x h = absurd cc

-- a test that must fail
pub refused_ok : {E A : Type 0} (test : Bool) (e : E) (r : Result A E) (y : A) → cond test (Err e) r ≡ Ok y → (test ≡ false) × (r ≡ Ok y)
refused_ok true e r y h = absurd cc
refused_ok false e r y h = (refl, h)

-- a test that must pass
pub required_ok : {E A : Type 0} (test : Bool) (e : E) (r : Result A E) (y : A) → cond test r (Err e) ≡ Ok y → (test ≡ true) × (r ≡ Ok y)
required_ok true e r y h = (refl, h)
required_ok false e r y h = absurd cc

pub no_fault : {E : Type 0} (test : Bool) (e : E) (later : Option E) → ◌≡◌ {A = Option E} (cond test (Some e) later) None → (test ≡ false) × (later ≡ None)
no_fault true e later h = absurd cc
no_fault false e later h = (refl, h)

-- which of two values is chosen
pub chosen : {A : Type 0} (test : Bool) (x y z : A) → cond test x y ≡ z → ((test ≡ true) × (x ≡ z)) ⊎ ((test ≡ false) × (y ≡ z))
chosen true x y z h = inl (refl, h)
chosen false x y z h = inr (refl, h)
