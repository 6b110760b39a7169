-- Where clap refuses the words of `solve`.
use Rattle.std.proofs.Common.{◌≡◌, Bool, List, [], ◌∷◌, ◌++◌, length, true, false, codes, refl, ap, ◌∙◌, sym, map, arith, append-nil, append_assoc}
use Rattle.std.proofs.lemmas.List.{map-append}
use Rattle.std.specs.Prelude.{fold, flat_map}
use Rattle.std.specs.List.{All}
use Rattle.std.proofs.lemmas.List.Elements.{All-head, All-tail}
use Rattle.clap.specs.Words.{Row, Shape, Text, Kinds}
use Rattle.clap.specs.Kinds.{or_else}
use Rattle.clap.specs.Walk.{Held, has_row, walk_from}
use Rattle.clap.specs.Faults.{settle_fault, turn_fault, use_fault, walk_fault}
use Rattle.clap.specs.declared.error.kind.ErrorKind.TheVariants.{ArgumentConflict}
use Rattle.fapp_words.specs.Solving.{Name, text_of, workers, fuel, split, pool, cert, Piece, apart, joined, bare, words_of, key_of, names, AreNew}
use Rattle.fapp_words.proofs.BuiltProgram.{option_rule, flag_rule, rules, leaf}
use Rattle.fapp_words.proofs.SolveWalk.{IsPlain, IsPlainPiece, after, waits, name_walked, value_walked, joined_walked, bare_walked}
use Rattle.fapp_words.proofs.SolveRows.{all_rows, row_of, after-rows, has_row-names}

-- ---- one step after another

pub or_else-both : (a b : Kinds) → or_else a b ≡ [] → (a ≡ []) × (b ≡ [])
or_else-both [] b h = (refl, h)
or_else-both (k ∷ ks) b h = absurd (omega (arith, ap length h))

pub or_else-none : (a b : Kinds) → a ≡ [] → b ≡ [] → or_else a b ≡ []
or_else-none a b none next = ap (λ x. or_else x b) none ∙ next

pub or_else-last : (a : Kinds) → or_else a [] ≡ a
or_else-last [] = refl
or_else-last (k ∷ ks) = refl

-- ---- one use of an option

abbrev pub solve : Shape
solve = leaf (codes "solve") rules

abbrev pub settles : Held → Kinds
settles = settle_fault rules false

-- what a use comes to
abbrev used_once : Piece → List Row → Kinds
used_once bare rows = use_fault false flag_rule [] rows
used_once (apart name v) rows = use_fault false (option_rule (text_of name)) (v ∷ []) rows
used_once (joined name v) rows = use_fault false (option_rule (text_of name)) (v ∷ []) rows

use_new : (p : Piece) (rows : List Row) → has_row (key_of p) rows ≡ false → used_once p rows ≡ []
use_new bare rows h = rw h refl
use_new (apart name v) rows h = rw h refl
use_new (joined name v) rows h = rw h refl

use_again : (p : Piece) (rows : List Row) → has_row (key_of p) rows ≡ true → used_once p rows ≡ ArgumentConflict ∷ []
use_again bare rows h = rw h refl
use_again (apart name v) rows h = rw h refl
use_again (joined name v) rows h = rw h refl

new_use : (p : Piece) (rows : List Row) → used_once p rows ≡ [] → has_row (key_of p) rows ≡ false
new_use p rows none = go (has_row (key_of p) rows) refl
  where
    go : (b : Bool) → has_row (key_of p) rows ≡ b → b ≡ false
    go false e = refl
    go true e = absurd (omega (arith, ap length (sym (use_again p rows e) ∙ none)))

-- ---- a piece after what is held

settles_apart : (name : Name) (v : Text) (h : Held) → settles (after h (apart name v)) ≡ used_once (apart name v) (all_rows h)
settles_apart workers v h = refl
settles_apart fuel v h = refl
settles_apart split v h = refl
settles_apart pool v h = refl
settles_apart cert v h = refl

-- what the words of a piece come to, and what is found at the next one
abbrev now_fault : Piece → Held → Kinds
now_fault (apart name v) h = settles h
now_fault (joined name v) h = or_else (settles h) (used_once (joined name v) (all_rows h))
now_fault bare h = or_else (settles h) (used_once bare (all_rows h))

name_fault : (name : Name) (h : Held) → turn_fault solve [] (walk_from h) (codes "--" ++ text_of name) ≡ settles h
name_fault workers h = or_else-last (settles h)
name_fault fuel h = or_else-last (settles h)
name_fault split h = or_else-last (settles h)
name_fault pool h = or_else-last (settles h)
name_fault cert h = or_else-last (settles h)

value_fault : (name : Name) (v : Text) (h : Held) → IsPlain v → turn_fault solve [] (waits (text_of name) h) v ≡ []
value_fault workers v h plain = rw (plain.dashes, plain.long, plain.short) refl
value_fault fuel v h plain = rw (plain.dashes, plain.long, plain.short) refl
value_fault split v h plain = rw (plain.dashes, plain.long, plain.short) refl
value_fault pool v h plain = rw (plain.dashes, plain.long, plain.short) refl
value_fault cert v h plain = rw (plain.dashes, plain.long, plain.short) refl

joined_fault : (name : Name) (v : Text) (h : Held) → turn_fault solve [] (walk_from h) (codes "--" ++ (text_of name ++ (codes "=" ++ v))) ≡ now_fault (joined name v) h
joined_fault workers v h = or_else-last (now_fault (joined workers v) h)
joined_fault fuel v h = or_else-last (now_fault (joined fuel v) h)
joined_fault split v h = or_else-last (now_fault (joined split v) h)
joined_fault pool v h = or_else-last (now_fault (joined pool v) h)
joined_fault cert v h = or_else-last (now_fault (joined cert v) h)

bare_fault : (h : Held) → turn_fault solve [] (walk_from h) (codes "--answer-only") ≡ now_fault bare h
bare_fault h = or_else-last (now_fault bare h)

piece_faulted : (p : Piece) (h : Held) (rest : List Text) → IsPlainPiece p →
    walk_fault solve [] (walk_from h) (words_of p ++ rest) ≡ or_else (now_fault p h) (walk_fault solve [] (walk_from (after h p)) rest)
unfolding walk_fault
piece_faulted (apart name v) h rest plain =
    let word = codes "--" ++ text_of name in
    let then = value_walked name v h plain in
    rw (name_walked name h, name_fault name h, value_fault name v h plain, then) refl
piece_faulted (joined name v) h rest plain = rw (joined_walked name v h, joined_fault name v h) refl
piece_faulted bare h rest plain = rw (bare_walked h, bare_fault h) refl

-- ---- all pieces

-- the first settles what was held
first_settles : (ps : List Piece) (h : Held) → All IsPlainPiece ps → walk_fault solve [] (walk_from h) (flat_map words_of ps) ≡ [] → settles (fold after h ps) ≡ [] → settles h ≡ []
first_settles [] h plain walk end = end
first_settles (p ∷ ps) h plain walk end =
    now_settles p (or_else-both (now_fault p h) _ (sym (piece_faulted p h (flat_map words_of ps) (All-head IsPlainPiece p ps plain)) ∙ walk)).0
  where
    now_settles : (p : Piece) → now_fault p h ≡ [] → settles h ≡ []
    now_settles (apart name v) none = none
    now_settles (joined name v) none = (or_else-both (settles h) _ none).0
    now_settles bare none = (or_else-both (settles h) _ none).0

-- what a piece is found to be, once it is settled
piece_new : (p : Piece) (h : Held) → now_fault p h ≡ [] → settles (after h p) ≡ [] → has_row (key_of p) (all_rows h) ≡ false
piece_new (apart name v) h now next = new_use (apart name v) (all_rows h) (sym (settles_apart name v h) ∙ next)
piece_new (joined name v) h now next = new_use (joined name v) (all_rows h) (or_else-both (settles h) _ now).1
piece_new bare h now next = new_use bare (all_rows h) (or_else-both (settles h) _ now).1

new_piece : (p : Piece) (h : Held) → settles h ≡ [] → has_row (key_of p) (all_rows h) ≡ false → (now_fault p h ≡ []) × (settles (after h p) ≡ [])
new_piece (apart name v) h before new = (before, settles_apart name v h ∙ use_new (apart name v) (all_rows h) new)
new_piece (joined name v) h before new = (or_else-none (settles h) _ before (use_new (joined name v) (all_rows h) new), refl)
new_piece bare h before new = (or_else-none (settles h) _ before (use_new bare (all_rows h) new), refl)

abbrev HasRows : Held → List Piece → Type 0
HasRows h ps = all_rows h ≡ map row_of ps

is_new : (p : Piece) (h : Held) (before : List Piece) → HasRows h before → has_row (key_of p) (all_rows h) ≡ names (key_of p) before
is_new p h before rows = ap (has_row (key_of p)) rows ∙ has_row-names (key_of p) before

one_more : (p : Piece) (h : Held) (before : List Piece) → HasRows h before → has_row (key_of p) (all_rows h) ≡ false → HasRows (after h p) (before ++ p ∷ [])
one_more p h before rows new = after-rows p h new ∙ (ap (λ xs. xs ++ row_of p ∷ []) rows ∙ sym (map-append row_of before (p ∷ [])))

-- where no option is written twice, clap takes the words
pub taken : (before ps : List Piece) (h : Held) → All IsPlainPiece ps → HasRows h before → settles h ≡ [] → AreNew before ps →
    (walk_fault solve [] (walk_from h) (flat_map words_of ps) ≡ []) × (settles (fold after h ps) ≡ []) × HasRows (fold after h ps) (before ++ ps)
unfolding walk_fault
taken before [] h plain rows settled new = (refl, settled, rows ∙ ap (map row_of) (sym (append-nil before)))
taken before (p ∷ ps) h plain rows settled new =
    let fresh = is_new p h before rows ∙ new.0 in
    let step = new_piece p h settled fresh in
    let rest = taken (before ++ p ∷ []) ps (after h p) (All-tail IsPlainPiece p ps plain) (one_more p h before rows fresh) step.1 new.1 in (
      piece_faulted p h (flat_map words_of ps) (All-head IsPlainPiece p ps plain) ∙ or_else-none (now_fault p h) _ step.0 rest.0,
      rest.1,
      rest.2 ∙ ap (map row_of) (append_assoc before (p ∷ []) ps),
    )

-- where clap takes the words, no option is written twice
pub taken-new : (before ps : List Piece) (h : Held) → All IsPlainPiece ps → HasRows h before → walk_fault solve [] (walk_from h) (flat_map words_of ps) ≡ [] → settles (fold after h ps) ≡ [] →
    AreNew before ps
taken-new before [] h plain rows walk end = tt
taken-new before (p ∷ ps) h plain rows walk end =
    let tail = All-tail IsPlainPiece p ps plain in
    let parts = or_else-both (now_fault p h) _ (sym (piece_faulted p h (flat_map words_of ps) (All-head IsPlainPiece p ps plain)) ∙ walk) in
    let fresh = piece_new p h parts.0 (first_settles ps (after h p) tail parts.1 end) in (
      sym (is_new p h before rows) ∙ fresh,
      taken-new (before ++ p ∷ []) ps (after h p) tail (one_more p h before rows fresh) parts.1 end,
    )
