-- What a call does to the bytes that a source has left or that a sink took. Where they are not
-- told, nothing is said.
use Rattle.std.specs.Prelude.{◌≡◌, ◌≤◌, ℕ, List, ◌++◌, length, drop, Option, Some, IfSome}

-- the bytes that were told are told still, and are the same
abbrev pub Stays : Option (List ℕ) → Option (List ℕ) → Type 0
Stays old new = IfSome old (λ bytes. new ≡ Some bytes)

-- the first n bytes are gone, and the others are told still
abbrev pub Drops : Option (List ℕ) → Option (List ℕ) → ℕ → Type 0
Drops old new n = IfSome old (λ bytes. (n ≤ length bytes) × (new ≡ Some (drop n bytes)))

-- these bytes came to the end of those that were told
abbrev pub BytesGrow : Option (List ℕ) → Option (List ℕ) → List ℕ → Type 0
BytesGrow old new more = IfSome old (λ bytes. new ≡ Some (bytes ++ more))
