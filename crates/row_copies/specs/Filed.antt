-- Copied rows, each filed in the bucket of one of its literals.
use Rattle.std.specs.Prelude.{◌≡◌, ℕ, ◌+◌, ◌*◌, ◌-◌, ◌%◌, ◌<◌, ◌≤◌, Bool, ◌==◌, ◌&&◌, ◌||◌, List, length, map, slice_index, slice_get, All, IsTrue, Option, Some, None}
use Rattle.std.specs.List.{list_any}
use Rattle.fapp_model.specs.declared.literal.Literal.{Literal}
use Rattle.search_log.specs.Contents.{KnownRow, known_row}
use Rattle.search_log.specs.declared.shared.Cite.{Cite}
use Rattle.search_log.specs.Shares.{FitsPart, row_content}

pub record CopiesState : Type 0 where
  pub cites : List Cite
  pub room : ℕ

abbrev pub known_cite : Cite → KnownRow
known_cite cite = known_row cite.row (row_content cite.content)

abbrev pub known_cites : List Cite → List KnownRow
known_cites cites = map known_cite cites

-- the bucket of a literal, of so many
abbrev pub bucket : ℕ → ℕ → ℕ → ℕ
bucket width path choice = (path * 40503 + choice) % width

abbrev pub literals_of : Cite → List Literal
literals_of cite = (row_content cite.content).lits

abbrev pub is_empty : List Literal → Bool
is_empty lits = length lits == 0

-- the bucket of one of the literals, or the one behind all for no literal
abbrev pub is_bucket_for : ℕ → List Literal → ℕ → Bool
is_bucket_for width lits b =
    list_any (λ a. bucket width a.path a.choice == b) lits || (is_empty lits && (b == width))

pub record IsBucketFor (width : ℕ) (lits : List Literal) (b : ℕ) : Type 0 where
  pub below : b ≤ width
  pub its : IsTrue (is_bucket_for width lits b)

-- Each row is filed in such a bucket, and all its paths are below a number. The last row of a
-- bucket is known, 1 and its place, and before each row the one before it in its bucket, or 0 where
-- there is none. None is left out.
pub record AreFiled (width : ℕ) (cites : List Cite) (filed before last : List ℕ)
    (paths : ℕ) : Type 0 where
  pub some : 0 < width
  pub filed_all : length filed ≡ length cites
  pub before_all : length before ≡ length cites
  pub last_all : length last ≡ width + 1
  pub paths_few : paths ≤ 65536
  pub named : All (λ cite. All (λ a. a.path < paths) (literals_of cite)) cites
  pub its : (i : ℕ) (cite : Cite) → slice_get cites i ≡ Some cite →
      IsBucketFor width (literals_of cite) (slice_index filed i)
  pub last_low : (b : ℕ) → slice_index last b ≤ length cites
  pub last_in : (b : ℕ) → 0 < slice_index last b → slice_index filed (slice_index last b - 1) ≡ b
  pub last_most : (i : ℕ) → i < length cites → i + 1 ≤ slice_index last (slice_index filed i)
  pub before_low : (i : ℕ) → slice_index before i ≤ i
  pub before_in : (i : ℕ) → 0 < slice_index before i →
      slice_index filed (slice_index before i - 1) ≡ slice_index filed i
  pub before_most : (i j : ℕ) → i < j → j < length cites →
      slice_index filed i ≡ slice_index filed j → i + 1 ≤ slice_index before j

-- the place of a row that fits, or no row of the bucket does
abbrev pub IsFoundIn : List Cite → List ℕ → ℕ → List (Option ℕ) → ℕ → Option ℕ → Type 0
IsFoundIn cites filed b part target (Some place) =
    (place < length cites) × ((cite : Cite) → slice_get cites place ≡ Some cite →
    FitsPart part target (row_content cite.content))
IsFoundIn cites filed b part target None =
    (i : ℕ) (cite : Cite) → slice_get cites i ≡ Some cite → slice_index filed i ≡ b →
    FitsPart part target (row_content cite.content) → ⊥
