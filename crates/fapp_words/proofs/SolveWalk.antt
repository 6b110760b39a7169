-- How clap walks over the words of `solve`.
use Rattle.std.proofs.Common.{◌≡◌, List, [], ◌∷◌, ◌++◌, false, Some, None, codes, refl, ap, ◌∙◌}
use Rattle.std.specs.Prelude.{fold, flat_map}
use Rattle.std.specs.List.{All}
use Rattle.std.proofs.lemmas.List.Sums.{fold-append}
use Rattle.std.proofs.lemmas.List.Elements.{All-head, All-tail}
use Rattle.std.specs.Str.{bytes_eq}
use Rattle.clap.specs.Lexer.{long_of, short_of}
use Rattle.clap.specs.Words.{Text}
use Rattle.clap.specs.Walk.{Held, Walk, option, plain_word, reacted, settled, walk_from, walked, word_met}
use Rattle.fapp_words.specs.Solving.{Name, text_of, workers, fuel, split, pool, cert, Piece, apart, joined, bare, words_of}
use Rattle.fapp_words.proofs.BuiltProgram.{option_rule, flag_rule, rules}

-- a word that is no flag
pub record IsPlain (v : Text) : Type 0 where
  pub dashes : bytes_eq v (45 ∷ 45 ∷ []) ≡ false
  pub long : long_of v ≡ None
  pub short : short_of v ≡ None

abbrev pub IsPlainPiece : Piece → Type 0
IsPlainPiece (apart name v) = IsPlain v
IsPlainPiece (joined name v) = Unit {0}
IsPlainPiece bare = Unit {0}

-- what is held after a piece
abbrev pub after : Held → Piece → Held
after h (apart name v) = record (settled rules h) { pending = Some (text_of name, v ∷ []) }
after h (joined name v) = reacted rules (option_rule (text_of name)) (v ∷ []) h
after h bare = reacted rules flag_rule [] h

value_met : (id v : Text) (h : Held) → IsPlain v → word_met rules [] false (option id) 1 v h ≡ plain_word rules (option id) v h
value_met id v h plain = rw (plain.dashes, plain.long, plain.short) refl

abbrev pub waits : Text → Held → Walk
waits id h = record (walk_from (record (settled rules h) { pending = Some (id, []) })) { waiting = option id }

-- the name of an option
pub name_walked : (name : Name) (h : Held) → walked rules [] (walk_from h) (codes "--" ++ text_of name) ≡ waits (text_of name) h
unfolding walked
name_walked workers h = refl
name_walked fuel h = refl
name_walked split h = refl
name_walked pool h = refl
name_walked cert h = refl

-- its value
pub value_walked : (name : Name) (v : Text) (h : Held) → IsPlain v → walked rules [] (waits (text_of name) h) v ≡ walk_from (after h (apart name v))
unfolding walked
value_walked workers v h plain = rw (plain.dashes, plain.long, plain.short) refl
value_walked fuel v h plain = rw (plain.dashes, plain.long, plain.short) refl
value_walked split v h plain = rw (plain.dashes, plain.long, plain.short) refl
value_walked pool v h plain = rw (plain.dashes, plain.long, plain.short) refl
value_walked cert v h plain = rw (plain.dashes, plain.long, plain.short) refl

pub joined_walked : (name : Name) (v : Text) (h : Held) → walked rules [] (walk_from h) (codes "--" ++ (text_of name ++ (codes "=" ++ v))) ≡ walk_from (after h (joined name v))
unfolding walked
joined_walked workers v h = refl
joined_walked fuel v h = refl
joined_walked split v h = refl
joined_walked pool v h = refl
joined_walked cert v h = refl

pub bare_walked : (h : Held) → walked rules [] (walk_from h) (codes "--answer-only") ≡ walk_from (after h bare)
unfolding walked
bare_walked h = refl

pub piece_walked : (p : Piece) (h : Held) → IsPlainPiece p → fold (walked rules []) (walk_from h) (words_of p) ≡ walk_from (after h p)
piece_walked (apart name v) h plain = ap (λ w. walked rules [] w v) (name_walked name h) ∙ value_walked name v h plain
piece_walked (joined name v) h plain = joined_walked name v h
piece_walked bare h plain = bare_walked h

pub pieces_walked : (ps : List Piece) (h : Held) → All IsPlainPiece ps → fold (walked rules []) (walk_from h) (flat_map words_of ps) ≡ walk_from (fold after h ps)
pieces_walked [] h plain = refl
pieces_walked (p ∷ ps) h plain =
    fold-append (walked rules []) (walk_from h) (words_of p) (flat_map words_of ps)
    ∙ (ap (λ w. fold (walked rules []) w (flat_map words_of ps)) (piece_walked p h (All-head IsPlainPiece p ps plain)) ∙ pieces_walked ps (after h p) (All-tail IsPlainPiece p ps plain))
