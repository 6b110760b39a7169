-- The words of `solve` and `check`.
use Rattle.std.specs.Prelude.{◌≡◌, ◌&&◌, ◌||◌, ◌==◌, Bool, not, nat_le, nat_lt, true, false, List, [], ◌∷◌, ◌++◌, length, Option, Some, None, codes, find, option_map, if◌then◌else◌}
use Rattle.std.specs.List.{list_any}
use Rattle.std.specs.Str.{bytes_eq}
use Rattle.std.specs.List.{position_or_len, before_first, after_first}
use Rattle.std.specs.Option.{option_map_or}
use Rattle.clap.specs.Words.{Text}
use Rattle.fapp_text.specs.Numbers.{is_numeral}

-- the options that have a number
pub data Name : Type 0 where
  workers : Name
  fuel : Name
  split : Name
  pool : Name
  cert : Name

abbrev pub text_of : Name → Text
text_of workers = codes "workers"
text_of fuel = codes "fuel"
text_of split = codes "split"
text_of pool = codes "pool"
text_of cert = codes "cert"

-- one option as it is written: `--name VALUE`, `--name=VALUE`, or `--answer-only`
pub data Piece : Type 0 where
  apart : Name → Text → Piece
  joined : Name → Text → Piece
  bare : Piece

abbrev pub words_of : Piece → List Text
words_of (apart name value) = (codes "--" ++ text_of name) ∷ value ∷ []
words_of (joined name value) = (codes "--" ++ (text_of name ++ (codes "=" ++ value))) ∷ []
words_of bare = codes "--answer-only" ∷ []

abbrev pub key_of : Piece → Text
key_of (apart name value) = text_of name
key_of (joined name value) = text_of name
key_of bare = codes "answer-only"

-- 1 to 10 decimal digits, leading zeros too
abbrev pub is_short_numeral : Text → Bool
is_short_numeral text = nat_le (length text) 10 && is_numeral text

-- what an option has is a numeral
abbrev pub HasNumeral : Piece → Type 0
HasNumeral (apart name value) = is_short_numeral value ≡ true
HasNumeral (joined name value) = is_short_numeral value ≡ true
HasNumeral bare = Unit {0}

-- an option of this name is among the pieces
abbrev pub names : Text → List Piece → Bool
names name = list_any (λ p. bytes_eq (key_of p) name)

-- no option is one of those before it
abbrev pub AreNew : List Piece → List Piece → Type 0
AreNew before [] = Unit {0}
AreNew before (p ∷ ps) = (names (key_of p) before ≡ false) × AreNew (before ++ p ∷ []) ps

abbrev pub value_of : Piece → Text
value_of (apart name value) = value
value_of (joined name value) = value
value_of bare = codes "true"

-- the value of an option, where it is written
abbrev pub given : Text → List Piece → Option Text
given name ps = option_map value_of (find (λ p. bytes_eq (key_of p) name) ps)

-- ---- the forms of words, one after another

abbrev pub is_name : Text → Bool
is_name word =
    list_any (λ name. bytes_eq word (codes "--" ++ text_of name))
    (workers ∷ fuel ∷ split ∷ pool ∷ cert ∷ [])

-- what stands before and after the first `=` (61)
abbrev pub split_equals : Text → Option (Text × Text)
split_equals word =
    if nat_lt (position_or_len (λ b. b == 61) word) (length word)
    then Some (before_first (λ b. b == 61) word, after_first (λ b. b == 61) word) else None

abbrev pub is_joined : Text → Bool
is_joined word = option_map_or (λ p. is_name p.0 && is_short_numeral p.1) (split_equals word) false

abbrev pub is_bare : Text → Bool
is_bare word = bytes_eq word (codes "--answer-only")

-- the words are pieces, where the first is a value if one is wanted
abbrev pub are_pieces : Bool → List Text → Bool
are_pieces wanted [] = not wanted
are_pieces true (word ∷ rest) = is_short_numeral word && are_pieces false rest
are_pieces false (word ∷ rest) =
    if is_name word then are_pieces true rest
    else ((is_bare word || is_joined word) && are_pieces false rest)

-- the word is `--workers=VALUE`
abbrev pub is_workers : Text → Bool
is_workers word =
    option_map_or (λ p. bytes_eq p.0 (codes "--workers") && is_short_numeral p.1)
    (split_equals word) false

-- the words of `check` behind its name: none, or the option `workers` with its value
abbrev pub is_at_most_workers : List Text → Bool
is_at_most_workers [] = true
is_at_most_workers (word ∷ []) = is_workers word
is_at_most_workers (name ∷ value ∷ []) = bytes_eq name (codes "--workers") && is_short_numeral value
is_at_most_workers (word ∷ name ∷ value ∷ rest) = false
