-- The rows that clap has after the words of `solve`.
use Rattle.std.proofs.Common.{◌≡◌, Bool, List, [], ◌∷◌, ◌++◌, ◌||◌, true, false, Some, None, codes, refl, ap, ◌∙◌, sym, map, append-nil}
use Rattle.std.proofs.lemmas.Bool.{false≢true}
use Rattle.std.specs.Str.{bytes_eq}
use Rattle.clap.specs.Words.{Row, Text}
use Rattle.clap.specs.Walk.{Held, at_row, has_row, more_values, settled, with_values, without}
use Rattle.clap.specs.declared.builder.value_parser.Reading.{Reading}
use Rattle.clap.specs.declared.parser.matches.ValueSource.{ValueSource}
use Rattle.clap.specs.declared.parser.matches.ValueSource.TheVariants.{CommandLine}
use Rattle.clap.specs.declared.builder.value_parser.ValueParser.TheVariants as vp
use Rattle.clap.specs.Words.{reading_of}
use Rattle.fapp_words.specs.Solving.{text_of, workers, fuel, split, pool, cert, Piece, apart, joined, bare, key_of, value_of, names}
use Rattle.fapp_words.proofs.BuiltProgram.{rules}
use Rattle.fapp_words.proofs.SolveWalk.{after}

-- ---- rows by their ids

pub or_false : (a b : Bool) → (a || b) ≡ false → (a ≡ false) × (b ≡ false)
or_false true b h = absurd (false≢true (sym h))
or_false false b h = (refl, h)

pub at_row-missing : (id : Text) (change : Row → List Row) (missing rows : List Row) → has_row id rows ≡ false → at_row id change missing rows ≡ rows ++ missing
at_row-missing id change missing [] h = refl
at_row-missing id change missing (r ∷ rs) h = let parts = or_false (bytes_eq r.id id) (has_row id rs) h in rw parts.0 (ap (λ xs. r ∷ xs) (at_row-missing id change missing rs parts.1))

pub with_values-missing : (id : Text) (how : Reading) (s : ValueSource) (values : List Text) (rows : List Row) → has_row id rows ≡ false →
    with_values id how s values (without id rows) ≡ rows ++ record { id = id; values = values; count = None; source = Some s; reading = how } ∷ []
with_values-missing id how s values rows h =
    let same : without id rows ≡ rows = at_row-missing id (λ _. []) [] rows h ∙ append-nil rows in
    rw same (at_row-missing id (more_values s values) (record { id = id; values = values; count = None; source = Some s; reading = how } ∷ []) rows h)

-- ---- the rows of pieces

abbrev pub row_of : Piece → Row
row_of p = record {
  id = key_of p;
  values = value_of p ∷ [];
  count = None;
  source = Some CommandLine;
  reading = reading_by_piece p;
}
  where
    reading_by_piece : Piece → Reading
    reading_by_piece bare = reading_of vp.Bool
    reading_by_piece _ = reading_of vp.String

abbrev pub all_rows : Held → List Row
all_rows h = (settled rules h).rows

-- one more row
pub after-rows : (p : Piece) (h : Held) → has_row (key_of p) (all_rows h) ≡ false → all_rows (after h p) ≡ all_rows h ++ row_of p ∷ []
after-rows (apart workers v) h new = with_values-missing (codes "workers") (reading_of vp.String) CommandLine (v ∷ []) (all_rows h) new
after-rows (apart fuel v) h new = with_values-missing (codes "fuel") (reading_of vp.String) CommandLine (v ∷ []) (all_rows h) new
after-rows (apart split v) h new = with_values-missing (codes "split") (reading_of vp.String) CommandLine (v ∷ []) (all_rows h) new
after-rows (apart pool v) h new = with_values-missing (codes "pool") (reading_of vp.String) CommandLine (v ∷ []) (all_rows h) new
after-rows (apart cert v) h new = with_values-missing (codes "cert") (reading_of vp.String) CommandLine (v ∷ []) (all_rows h) new
after-rows (joined name v) h new = with_values-missing (text_of name) (reading_of vp.String) CommandLine (v ∷ []) (all_rows h) new
after-rows bare h new = with_values-missing (codes "answer-only") (reading_of vp.Bool) CommandLine (codes "true" ∷ []) (all_rows h) new

-- a row is there where its piece is
pub has_row-names : (id : Text) (ps : List Piece) → has_row id (map row_of ps) ≡ names id ps
has_row-names id [] = refl
has_row-names id (p ∷ ps) = ap (λ b. bytes_eq (key_of p) id || b) (has_row-names id ps)
