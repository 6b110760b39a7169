-- What is left, and what was taken, after one more piece.
use Rattle.std.proofs.Common.{◌≡◌, ℕ, ◌+◌, ◌<◌, ◌≤◌, List, [], ◌∷◌, ◌++◌, length, take, drop, refl, sym, ◌∙◌, ap, subst, arith, append_assoc, length-append, length-drop}
use Rattle.std.specs.Prelude.{Option, None, Some}
use Rattle.std.specs.Io.KnownBytes.{Consumes}
use Rattle.std.proofs.Math.Seq.{drop-append-add, drop-append_seam, take-append_seam}
use Rattle.std.proofs.lemmas.List.{append-nil, take-append-drop, take_all}
use Rattle.fapp_io.specs.Known.{Stays, Drops, BytesGrow}
use Rattle.fapp_io.specs.Source.{GivesBytes}
use Rattle.fapp_io.specs.Whole.{IsAllOf, GrowsByFront}

-- what was given so far, and the next piece
pub consumes_more : (a b c : Option (List ℕ)) (given room : List ℕ) (n : ℕ) → Consumes a b given → GivesBytes b room n → Drops b c n → Consumes a c (given ++ take n room)
consumes_more None b c given room n so_far gives drops = tt
consumes_more (Some xs) None c given room n so_far gives drops = absurd so_far
consumes_more (Some xs) (Some ys) c given room n so_far gives drops =
    subst (λ (o : Option (List ℕ)). Consumes (Some xs) o (given ++ take n room)) (sym drops.1) (so_far ∙ ap (λ (l : List ℕ). given ++ l) (sym (take-append-drop n ys) ∙ ap (λ (l : List ℕ). l ++ drop n ys) (sym gives.0)) ∙ sym (append_assoc given (take n room) (drop n ys)))

-- where no more is left, what was given is all
pub all_given : (a b c : Option (List ℕ)) (given room : List ℕ) → Consumes a b given → GivesBytes b room 0 → Drops b c 0 → IsAllOf a c given
all_given None b c given room so_far gives drops = tt
all_given (Some xs) None c given room so_far gives drops = absurd so_far
all_given (Some xs) (Some ys) c given room so_far gives drops =
    let none : ys ≡ [] = gives.1.0 refl in
    (sym (so_far ∙ ap (λ (l : List ℕ). given ++ l) none ∙ append-nil given), drops.1 ∙ ap (λ (l : List ℕ). Some (drop 0 l)) none)

-- what was given and n more are gone
pub drops_more : (a b c : Option (List ℕ)) (given : List ℕ) (n : ℕ) → Consumes a b given → Drops b c n → Drops a c (length given + n)
drops_more None b c given n so_far drops = tt
drops_more (Some xs) None c given n so_far drops = absurd so_far
drops_more (Some xs) (Some ys) c given n so_far drops = (
  omega (arith, ap length so_far, length-append given ys, drops.0),
  drops.1 ∙ ap (λ (l : List ℕ). Some l) (sym (drop-append-add given ys n) ∙ ap (λ (l : List ℕ). drop (length given + n) l) (sym so_far)),
)

-- what was given is gone
pub drops_given : (a b c : Option (List ℕ)) (given : List ℕ) → Consumes a b given → Stays b c → Drops a c (length given)
drops_given None b c given so_far stays = tt
drops_given (Some xs) None c given so_far stays = absurd so_far
drops_given (Some xs) (Some ys) c given so_far stays = (
  omega (arith, ap length so_far, length-append given ys),
  stays ∙ ap (λ (l : List ℕ). Some l) (sym (drop-append_seam given ys) ∙ ap (λ (l : List ℕ). drop (length given) l) (sym so_far)),
)

-- before the first piece
pub nothing_given : (a : Option (List ℕ)) → Consumes a a []
nothing_given None = tt
nothing_given (Some xs) = refl

-- some front of the piece was taken, and the rest is to come
pub record IsHalfway (a b : Option (List ℕ)) (piece rest : List ℕ) : Type 0 where
  pub front : List ℕ
  pub split : piece ≡ front ++ rest
  pub grown : BytesGrow a b front

pub none_taken : (a : Option (List ℕ)) (piece : List ℕ) → IsHalfway a a piece piece
none_taken None piece = record { front = []; split = refl; grown = tt }
none_taken (Some xs) piece = record { front = []; split = refl; grown = ap (λ (l : List ℕ). Some l) (sym (append-nil xs)) }

grows_more : (a b c : Option (List ℕ)) (front more : List ℕ) → BytesGrow a b front → BytesGrow b c more → BytesGrow a c (front ++ more)
grows_more None b c front more old new = tt
grows_more (Some xs) b c front more old new =
    let next : BytesGrow (Some (xs ++ front)) c more = subst (λ (o : Option (List ℕ)). BytesGrow o c more) old new in
    next ∙ ap (λ (l : List ℕ). Some l) (append_assoc xs front more)

-- n bytes more of the rest were taken
pub more_taken : (a b c : Option (List ℕ)) (piece rest : List ℕ) (n m : ℕ) → IsHalfway a b piece rest → BytesGrow b c (take n rest) → length rest ≤ n + m → IsHalfway a c piece (take m (drop n rest))
more_taken a b c piece rest n m half new long =
    let whole : take m (drop n rest) ≡ drop n rest = take_all m (drop n rest) (omega (arith, length-drop n rest)) in
    record {
      front = half.front ++ take n rest;
      split = half.split ∙ ap (λ (l : List ℕ). half.front ++ l) (sym (take-append-drop n rest) ∙ ap (λ (l : List ℕ). take n rest ++ l) (sym whole)) ∙ sym (append_assoc half.front (take n rest) (take m (drop n rest)));
      grown = grows_more a b c half.front (take n rest) half.grown new;
    }

-- with no rest the whole piece was taken
pub all_taken : (a b : Option (List ℕ)) (piece rest : List ℕ) → IsHalfway a b piece rest → length rest ≡ 0 → BytesGrow a b piece
all_taken a b piece rest half none =
    let whole : half.front ≡ piece = sym (half.split ∙ ap (λ (l : List ℕ). half.front ++ l) (nil_of_length rest none) ∙ append-nil half.front) in
    subst (λ (l : List ℕ). BytesGrow a b l) whole half.grown
  where
    nil_of_length : (xs : List ℕ) → length xs ≡ 0 → xs ≡ []
    nil_of_length [] e = refl
    nil_of_length (x ∷ xs) e = absurd (omega arith)

grows_still : (a b c : Option (List ℕ)) (front : List ℕ) → BytesGrow a b front → Stays b c → BytesGrow a c front
grows_still None b c front grown stays = tt
grows_still (Some xs) b c front grown stays = subst (λ (o : Option (List ℕ)). Stays o c) grown stays

-- after a fault with a rest to come a front of the piece was taken
pub front_taken : (a b c : Option (List ℕ)) (piece rest : List ℕ) → IsHalfway a b piece rest → Stays b c → 0 < length rest → GrowsByFront a c piece
front_taken a b c piece rest half stays more =
    let grown = grows_still a b c half.front half.grown stays in (
      length half.front,
      omega (arith, ap length half.split, length-append half.front rest),
      subst (λ (l : List ℕ). BytesGrow a c l) (sym (take-append_seam half.front rest) ∙ ap (λ (l : List ℕ). take (length half.front) l) (sym half.split)) grown,
    )
