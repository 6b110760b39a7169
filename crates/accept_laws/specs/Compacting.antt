-- Lines with Delete lines for what is cited no more.
use Rattle.std.specs.Prelude.{ℕ, zero, suc, ◌+◌, ◌-◌, Bool, true, false, not, ◌&&◌, ◌==◌, ◌<◌, ◌≤◌, nat_lt, nat_le, refl, List, [], ◌∷◌, ◌++◌, length, map, filter, drop, All, ◌≡◌, if◌then◌else◌}
use Rattle.std.specs.List.{list_any, range_with_len}
use Rattle.fapp_model.specs.declared.instance.Instance.{Instance}
use Rattle.fapp_model.specs.Instances.{IsNumber}
use Rattle.cert_lines.specs.declared.answer.Line.{Line}
use Rattle.cert_lines.specs.declared.answer.Rule.TheVariants.{Delete}
use Rattle.cert_lines.specs.WellFormed.{IsLineOrDelete, IsLine}
use Rattle.cert_lines.specs.acceptance.Deleted.{is_delete}
use Rattle.cert_lines.specs.acceptance.Excluded.{line_at}
use Rattle.accept_laws.specs.Lines.{AreGood}
use Rattle.cert_lines.specs.Renumbering.{cited, renumbered}
use Rattle.cert_lines.specs.Stripping.{stripped}

abbrev pub cites : Line → ℕ → Bool
cites line k = list_any (λ m. m == k) (cited line.rule)

-- a line behind the first n cites line k
abbrev pub is_cited_behind : List Line → ℕ → ℕ → Bool
is_cited_behind lines n k = list_any (λ line. cites line k) (drop n lines)

-- the line of a number is the last to cite that of a lower one, which has two or more literals
abbrev pub is_last_cite : List Line → ℕ → ℕ → Bool
is_last_cite lines n k =
    (nat_lt 0 k && nat_le 2 (length (line_at lines k).lits))
    && (cites (line_at lines n) k && not (is_cited_behind lines n k))

abbrev pub ended : List Line → ℕ → List ℕ
ended lines n = filter (is_last_cite lines n) (range_with_len 0 n)

abbrev pub is_empty : List ℕ → Bool
is_empty [] = true
is_empty (k ∷ more) = false

-- how many of the first lines end others
abbrev pub ending : List Line → ℕ → ℕ
ending lines zero = 0
ending lines (suc n) = ending lines n + (if is_empty (ended lines (suc n)) then 0 else 1)

-- the number that a line has where Delete lines stand behind those that end others
abbrev pub compacted_number : List Line → ℕ → ℕ
compacted_number lines k = k + ending lines (k - 1)

abbrev pub delete_line : List ℕ → Line
delete_line numbers =
    record { tag = record { code = 0; of_tag = refl }; lits = []; rule = Delete numbers }

abbrev pub delete_behind : List Line → ℕ → List Line
delete_behind lines n =
    if is_empty (ended lines n) then [] else (delete_line
    (map (compacted_number lines) (ended lines n)) ∷ [])

-- a line renumbered, and the Delete line of what it ends
abbrev pub compacted_at : List Line → ℕ → List Line
compacted_at lines n = renumbered (compacted_number lines) (line_at lines n) ∷ delete_behind lines n

-- the first n lines so
abbrev pub compacted_to : List Line → ℕ → List Line
compacted_to lines zero = []
compacted_to lines (suc n) = compacted_to lines n ++ compacted_at lines (suc n)

unfoldable pub compacted : List Line → List Line
compacted lines = compacted_to lines (length lines)

-- Good lines stay good with Delete lines for what is cited no more.
abbrev pub CompactedLinesAreGood : Type 0
CompactedLinesAreGood =
    (instance : Instance) (lines : List Line) → All (IsLine instance) lines →
    AreGood instance lines → AreGood instance (compacted lines)

-- the line of a number cites earlier lines, and none at the tag (0, 0, 0)
pub record IsCompactable (lines : List Line) (n : ℕ) : Type 0 where
  pub earlier : All (λ k. (0 < k) × (k < n)) (cited (line_at lines n).rule)
  pub bare : (line_at lines n).tag.code ≡ 0 → cited (line_at lines n).rule ≡ []

-- Without these Delete lines the lines are as before, where none of them was one.
abbrev pub StrippedAgain : Type 0
StrippedAgain =
    (lines : List Line) → All (λ line. is_delete line.rule ≡ false) lines →
    ((n : ℕ) → 0 < n → n ≤ length lines → IsCompactable lines n) →
    stripped (compacted lines) ≡ lines

-- The lines with these Delete lines are well formed in version 2.
abbrev pub CompactedLinesAreFormed : Type 0
CompactedLinesAreFormed =
    (instance : Instance) (lines : List Line) → All (IsLine instance) lines →
    IsNumber (length (compacted lines)) →
    ((n : ℕ) → 0 < n → n ≤ length lines → IsCompactable lines n) →
    All (IsLineOrDelete instance) (compacted lines)
