-- Words in their forms are pieces, and pieces have such words.
use Rattle.std.proofs.Common.{◌≡◌, ℕ, suc, ◌+◌, ◌<◌, ◌⊎◌, Bool, List, [], ◌∷◌, ◌++◌, ◌&&◌, ◌||◌, ◌==◌, length, take, drop, true, false, Option, Some, None, codes, refl, ap, ◌∙◌, sym, subst, arith, inl, inr, lt-ltb, ltb-true, append_assoc}
use Rattle.std.specs.Prelude.{flat_map, nat_lt, if◌then◌else◌}
use Rattle.std.specs.List.{All, position_or_len, before_first, after_first}
use Rattle.std.specs.Option.{option_map_or}
use Rattle.std.specs.Str.{bytes_eq}
use Rattle.std.proofs.lemmas.Bool.{false≢true}
use Rattle.std.proofs.lemmas.Bool.Decides.{nat_tests}
use Rattle.std.proofs.lemmas.List.Elements.{All-nil, All-cons, All-head, All-tail}
use Rattle.std.proofs.lemmas.Slice.Eq.{bytes_eq-Decides}
use Rattle.clap.proofs.WalkLemmas.{both}
use Rattle.clap.specs.Words.{Text}
use Rattle.fapp_words.specs.Solving.{Name, text_of, workers, fuel, split, pool, cert, Piece, apart, joined, bare, words_of, HasNumeral, is_short_numeral, is_name, is_joined, is_bare, split_equals, are_pieces, is_workers}

-- the words that are some pieces
abbrev pub ArePieces : List Text → Type 0
ArePieces words = (ps : List Piece) × (words ≡ flat_map words_of ps) × All HasNumeral ps

-- ---- pieces have such words

joined_word : Name → Text → Text
joined_word name v = codes "--" ++ (text_of name ++ (codes "=" ++ v))

cut_if : Text → Bool → Option (Text × Text)
cut_if word b = if b then Some (before_first (λ b. b == 61) word, after_first (λ b. b == 61) word) else None

split_here : (name : Name) (v : Text) → split_equals (joined_word name v) ≡ Some (codes "--" ++ text_of name, v)
unfolding joined_word cut_if
split_here workers v = ap (cut_if (joined_word workers v)) (lt-ltb 9 (length (joined_word workers v)) (omega arith))
split_here fuel v = ap (cut_if (joined_word fuel v)) (lt-ltb 6 (length (joined_word fuel v)) (omega arith))
split_here split v = ap (cut_if (joined_word split v)) (lt-ltb 7 (length (joined_word split v)) (omega arith))
split_here pool v = ap (cut_if (joined_word pool v)) (lt-ltb 6 (length (joined_word pool v)) (omega arith))
split_here cert v = ap (cut_if (joined_word cert v)) (lt-ltb 6 (length (joined_word cert v)) (omega arith))

name_passes : (name : Name) → is_name (codes "--" ++ text_of name) ≡ true
name_passes workers = refl
name_passes fuel = refl
name_passes split = refl
name_passes pool = refl
name_passes cert = refl

joined_passes : (name : Name) (v : Text) → is_short_numeral v ≡ true → is_joined (codes "--" ++ (text_of name ++ (codes "=" ++ v))) ≡ true
unfolding joined_word
joined_passes name v digits = ap (λ o. option_map_or (λ p. is_name p.0 && is_short_numeral p.1) o false) (split_here name v) ∙ rw (name_passes name) digits

pub workers_pass : (v : Text) → is_short_numeral v ≡ true → is_workers (codes "--workers=" ++ v) ≡ true
unfolding joined_word
workers_pass v digits = ap (λ o. option_map_or (λ p. bytes_eq p.0 (codes "--workers") && is_short_numeral p.1) o false) (split_here workers v) ∙ digits

pub pieces_pass : (ps : List Piece) → All HasNumeral ps → are_pieces false (flat_map words_of ps) ≡ true
pieces_pass [] h = refl
pieces_pass (apart workers v ∷ ps) h = rw (All-head HasNumeral (apart workers v) ps h) (pieces_pass ps (All-tail HasNumeral (apart workers v) ps h))
pieces_pass (apart fuel v ∷ ps) h = rw (All-head HasNumeral (apart fuel v) ps h) (pieces_pass ps (All-tail HasNumeral (apart fuel v) ps h))
pieces_pass (apart split v ∷ ps) h = rw (All-head HasNumeral (apart split v) ps h) (pieces_pass ps (All-tail HasNumeral (apart split v) ps h))
pieces_pass (apart pool v ∷ ps) h = rw (All-head HasNumeral (apart pool v) ps h) (pieces_pass ps (All-tail HasNumeral (apart pool v) ps h))
pieces_pass (apart cert v ∷ ps) h = rw (All-head HasNumeral (apart cert v) ps h) (pieces_pass ps (All-tail HasNumeral (apart cert v) ps h))
pieces_pass (joined workers v ∷ ps) h = rw (joined_passes workers v (All-head HasNumeral (joined workers v) ps h)) (pieces_pass ps (All-tail HasNumeral (joined workers v) ps h))
pieces_pass (joined fuel v ∷ ps) h = rw (joined_passes fuel v (All-head HasNumeral (joined fuel v) ps h)) (pieces_pass ps (All-tail HasNumeral (joined fuel v) ps h))
pieces_pass (joined split v ∷ ps) h = rw (joined_passes split v (All-head HasNumeral (joined split v) ps h)) (pieces_pass ps (All-tail HasNumeral (joined split v) ps h))
pieces_pass (joined pool v ∷ ps) h = rw (joined_passes pool v (All-head HasNumeral (joined pool v) ps h)) (pieces_pass ps (All-tail HasNumeral (joined pool v) ps h))
pieces_pass (joined cert v ∷ ps) h = rw (joined_passes cert v (All-head HasNumeral (joined cert v) ps h)) (pieces_pass ps (All-tail HasNumeral (joined cert v) ps h))
pieces_pass (bare ∷ ps) h = pieces_pass ps (All-tail HasNumeral bare ps h)

-- ---- words in their forms are pieces

pub bytes_same : (xs ys : Text) → bytes_eq xs ys ≡ true → xs ≡ ys
bytes_same xs ys e = (bytes_eq-Decides xs ys).0 e

either : (a b : Bool) → (a || b) ≡ true → (a ≡ true) ⊎ (b ≡ true)
either true b e = inl refl
either false b e = inr e

name_of : (word : Text) → is_name word ≡ true → (name : Name) × (word ≡ codes "--" ++ text_of name)
name_of word e = elim (either _ _ e) [
  | inl a ↦ (workers, bytes_same word (codes "--workers") a)
  | inr rest ↦ elim (either _ _ rest) [
    | inl b ↦ (fuel, bytes_same word (codes "--fuel") b)
    | inr rest' ↦ elim (either _ _ rest') [
      | inl c ↦ (split, bytes_same word (codes "--split") c)
      | inr rest'' ↦ elim (either _ _ rest'') [
        | inl d ↦ (pool, bytes_same word (codes "--pool") d)
        | inr rest''' ↦ elim (either _ _ rest''') [
          | inl e ↦ (cert, bytes_same word (codes "--cert") e)
          | inr none ↦ absurd (false≢true none)
        ]
      ]
    ]
  ]
]

abbrev is_equals : ℕ → Bool
is_equals b = b == 61

cut_later : (n m : ℕ) (x : ℕ) (xs : Text) → m ≡ suc n → x ∷ (take n xs ++ 61 ∷ drop (n + 1) xs) ≡ take m (x ∷ xs) ++ 61 ∷ drop (m + 1) (x ∷ xs)
cut_later n m x xs e =
    let next : suc n + 1 ≡ suc (n + 1) = omega arith in
    rw (e, next) refl

-- what is cut at the first `=`
cut_join : (word : Text) → position_or_len is_equals word < length word → word ≡ before_first is_equals word ++ 61 ∷ after_first is_equals word
cut_join [] inside = absurd (omega (arith, inside))
cut_join (x ∷ xs) inside = go (x == 61) refl (cut_join xs)
  where
    go : (t : Bool) → (x == 61) ≡ t → (position_or_len is_equals xs < length xs → xs ≡ before_first is_equals xs ++ 61 ∷ after_first is_equals xs) → x ∷ xs ≡ before_first is_equals (x ∷ xs) ++ 61 ∷ after_first is_equals (x ∷ xs)
    go true e rest = let is : x ≡ 61 = grind (arith, nat_tests) in rw (e, is) refl
    go false e rest =
        let within : position_or_len is_equals xs < length xs = omega (arith, rw e at inside) in
        rw e (ap (λ ys. x ∷ ys) (rest within) ∙ cut_later (position_or_len is_equals xs) (1 + position_or_len is_equals xs) x xs (omega arith))

-- a word that is a name that passes a test, a `=` and a numeral
pub cut_by : (test : Text → Bool) (word : Text) → option_map_or (λ p. test p.0 && is_short_numeral p.1) (split_equals word) false ≡ true →
    (a : Text) × (b : Text) × (word ≡ a ++ 61 ∷ b) × (test a ≡ true) × (is_short_numeral b ≡ true)
cut_by test word e = go (nat_lt (position_or_len is_equals word) (length word)) refl
  where
    go : (t : Bool) → nat_lt (position_or_len is_equals word) (length word) ≡ t → (a : Text) × (b : Text) × (word ≡ a ++ 61 ∷ b) × (test a ≡ true) × (is_short_numeral b ≡ true)
    go false so = absurd (false≢true (rw so at e))
    go true so =
        let parts = both (test (before_first is_equals word)) (is_short_numeral (after_first is_equals word)) (rw so at e) in
        (before_first is_equals word, after_first is_equals word, cut_join word (ltb-true _ _ so), parts.0, parts.1)

joined_of : (word : Text) → is_joined word ≡ true → (name : Name) × (v : Text) × (word ≡ codes "--" ++ (text_of name ++ (codes "=" ++ v))) × (is_short_numeral v ≡ true)
joined_of word e =
    let cut = cut_by is_name word e in
    let name = name_of cut.0 cut.3 in
    (name.0, cut.1, cut.2 ∙ (ap (λ a. a ++ 61 ∷ cut.1) name.1 ∙ append_assoc (codes "--") (text_of name.0) (61 ∷ cut.1)), cut.4)

more : (p : Piece) (words rest : List Text) → HasNumeral p → words ≡ words_of p ++ rest → ArePieces rest → ArePieces words
more p words rest has is tail = (p ∷ tail.0, is ∙ ap (λ xs. words_of p ++ xs) tail.1, All-cons HasNumeral p tail.0 has tail.2)

abbrev Wanted : List Text → Type 0
Wanted words = (name : Name) → are_pieces true words ≡ true → ArePieces ((codes "--" ++ text_of name) ∷ words)

abbrev Idle : List Text → Type 0
Idle words = are_pieces false words ≡ true → ArePieces words

-- the next word, where none is wanted
idle_more : (word : Text) (rest : List Text) → Idle rest → Wanted rest → Idle (word ∷ rest)
idle_more word rest idle wanted e = go (is_name word) refl
  where
    go : (t : Bool) → is_name word ≡ t → ArePieces (word ∷ rest)
    go true so =
        let name = name_of word so in
        subst (λ w. ArePieces (w ∷ rest)) (sym name.1) (wanted name.0 (rw so at e))
    go false so =
        let parts = both (is_bare word || is_joined word) (are_pieces false rest) (rw so at e) in
        let tail = idle parts.1 in
        elim (either (is_bare word) (is_joined word) parts.0) [
          | inl b ↦ more bare (word ∷ rest) rest tt (ap (λ w. w ∷ rest) (bytes_same word (codes "--answer-only") b)) tail
          | inr j ↦ let is = joined_of word j in more (joined is.0 is.1) (word ∷ rest) rest is.3 (ap (λ w. w ∷ rest) is.2) tail
        ]

-- a value that is wanted
wanted_more : (v : Text) (rest : List Text) → Idle rest → Wanted (v ∷ rest)
wanted_more v rest idle name e =
    let parts = both (is_short_numeral v) (are_pieces false rest) e in
    more (apart name v) ((codes "--" ++ text_of name) ∷ v ∷ rest) rest parts.0 refl (idle parts.1)

all_pieces : (words : List Text) → Idle words × Wanted words
all_pieces [] = (λ e. ([], refl, All-nil HasNumeral), λ name e. absurd (false≢true e))
all_pieces (word ∷ rest) = let tail = all_pieces rest in (idle_more word rest tail.0 tail.1, wanted_more word rest tail.0)

pub pieces_of : (words : List Text) → are_pieces false words ≡ true → ArePieces words
pieces_of words = (all_pieces words).0
