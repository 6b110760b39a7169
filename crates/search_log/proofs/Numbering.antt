-- Rows that are numbered in their order.
use Rattle.std.proofs.Common.{◌≡◌, ℕ, zero, suc, ◌+◌, ◌<◌, false, List, [], ◌∷◌, ◌++◌, length, get_or, All, Contains, Option, Some, refl, sym, ap, subst, ⊎_elim, arith, ◌∙◌}
use Rattle.std.proofs.lemmas.List.Elements.{All-contains, All-contains_itself, All-nil}
use Rattle.std.proofs.lemmas.Option.{slice_get-get_or}
use Rattle.fapp_model.specs.declared.instance.Instance.{Instance}
use Rattle.fapp_model.proofs.Members.{All-from_members, at_front, behind, front_or_behind, no_member}
use Rattle.nogood.specs.declared.row.Row.{Row}
use Rattle.search_log.specs.Contents.{KnownRow, known_row}
use Rattle.search_log.specs.Shares.{Finds, FitsPart, IsServedContent, LooksUp, SharedState, row_content}
use Rattle.search_log.specs.declared.shared.Cite.{Cite}
use Rattle.search_log.specs.NumberedRows.{IsFitting, numbered_from, numbered_rows}

length-from : (n : ℕ) (rows : List Row) → length (numbered_from n rows ++ []) ≡ length rows
length-from n [] = refl
length-from n (row ∷ rows) = ap (λ (k : ℕ). suc k) (length-from (n + 1) rows)

pub numbered-length : (rows : List Row) → length (numbered_rows rows ++ []) ≡ length rows
numbered-length rows = length-from 0 rows

at-from : (n : ℕ) (rows : List Row) (k : ℕ) (d : Row) → k < length rows → Contains (numbered_from n rows) (known_row (n + k) (row_content (get_or rows k d)))
at-from n [] k d l = absurd (omega arith)
at-from n (row ∷ rows) zero d l = subst (λ (m : ℕ). Contains (numbered_from n (row ∷ rows)) (known_row m (row_content row))) (omega arith) (at_front (known_row n (row_content row)) (numbered_from (n + 1) rows))
at-from n (row ∷ rows) (suc k) d l = subst (λ (m : ℕ). Contains (numbered_from n (row ∷ rows)) (known_row m (row_content (get_or rows k d)))) (omega arith)
    (behind (known_row n (row_content row)) (numbered_from (n + 1) rows) (known_row (n + 1 + k) (row_content (get_or rows k d))) (at-from (n + 1) rows k d (omega arith)))

pub numbered-at : (rows : List Row) (k : ℕ) (d : Row) → k < length rows → Contains (numbered_rows rows) (known_row k (row_content (get_or rows k d)))
numbered-at rows k d l = subst (λ (m : ℕ). Contains (numbered_rows rows) (known_row m (row_content (get_or rows k d)))) (omega arith) (at-from 0 rows k d l)

-- each numbered row is one of the rows
pub from-numbered : (n : ℕ) (rows : List Row) (a : KnownRow) → Contains (numbered_from n rows) a → (row : Row) × Contains rows row × (a.content ≡ row_content row)
from-numbered n [] a m = absurd (no_member a m)
from-numbered n (row ∷ rows) a m = ⊎_elim
    (λ here. (row, at_front row rows, ap (λ (k : KnownRow). k.content) (sym here)))
    (λ later. let r = from-numbered (n + 1) rows a later in (r.0, behind row rows r.0 r.1, r.2))
    (front_or_behind (known_row n (row_content row)) (numbered_from (n + 1) rows) a m)

pub none-finds : (rows : List Row) (part : List (Option ℕ)) (target : ℕ) → All (λ row. FitsPart part target (row_content row) → ⊥) rows → All (λ row. FitsPart part target row.content → ⊥) (numbered_rows rows)
none-finds rows part target h = All-from_members (λ (row : KnownRow). FitsPart part target row.content → ⊥) (numbered_rows rows) (λ a m fits.
    let r = from-numbered 0 rows a m in
    All-contains (λ (row : Row). FitsPart part target (row_content row) → ⊥) rows r.0 h r.1 (subst (FitsPart part target) r.2 fits))

abbrev pub stated : List Row → SharedState
stated rows = record { copied = numbered_rows rows; published = []; takes = false; refusals = 0 }

-- a look-up changes nothing
pub stated-looks : (rows : List Row) (part : List (Option ℕ)) (target : ℕ) (answer : Option Cite) → Finds (numbered_rows rows) part target answer → LooksUp (stated rows) (stated rows) part target answer
stated-looks rows part target answer h = record {
  kept = All-contains_itself (numbered_rows rows);
  brought = All-nil (Contains (numbered_rows rows));
  published = refl;
  takes = refl;
  refusals = omega arith;
  finds = h;
}

pub some-finds : (rows : List Row) (part : List (Option ℕ)) (target place : ℕ) (r : Row) → r ≡ get_or rows place r → IsFitting rows part target (Some place) → Finds (numbered_rows rows) part target (Some (record { row = place; content = r }))
some-finds rows part target place r e h = (
  subst (λ (x : Row). Contains (numbered_rows rows) (known_row place (row_content x))) (sym e) (numbered-at rows place r h.0),
  h.1 r (slice_get-get_or rows place r h.0 ∙ ap (λ (x : Row). Some x) (sym e)),
)

pub some-served : (instance : Instance) (rows : List Row) (place : ℕ) (r : Row) → place < length rows → r ≡ get_or rows place r → All (λ row. IsServedContent instance (row_content row)) rows → IsServedContent instance (row_content r)
some-served instance rows place r l e h = subst (λ (x : Row). IsServedContent instance (row_content x)) (sym e) (h place r l)
