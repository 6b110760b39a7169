-- The first fault of a certificate line, judged from the lines before it alone.
use Rattle.std.specs.Prelude.{◌≡◌, ℕ, ◌+◌, Bool, not, ◌&&◌, ◌||◌, ◌==◌, nat_lt, nat_le, List, [], ◌∷◌, length, take, Option, Some, None, option_map, if◌then◌else◌}
use Rattle.std.specs.List.{list_any, list_all, range_with_len}
use Rattle.std.specs.Option.{option_or}
use Rattle.fapp_model.specs.declared.instance.Instance.{Instance}
use Rattle.fapp_model.specs.declared.literal.Literal.{Literal}
use Rattle.fapp_model.specs.declared.tag.Tag.{Tag}
use Rattle.fapp_model.specs.Assignments.{count_at}
use Rattle.fapp_model.specs.search.Partials.{literal, names}
use Rattle.fapp_model.specs.Tags.{triple_from}
use Rattle.cert_lines.specs.declared.answer.Child.{Child}
use Rattle.cert_lines.specs.declared.answer.Line.{Line}
use Rattle.cert_lines.specs.declared.answer.Rule.{Rule}
use Rattle.cert_lines.specs.declared.answer.Rule.TheVariants.{Count, Branch, Delete}
use Rattle.cert_lines.specs.declared.reject.RejectCause.{RejectCause}
use Rattle.cert_lines.specs.declared.reject.RejectCause.TheVariants.{CiteNotEarlier, CiteNotContained, CiteTagTooLow, NotDead, WrongPath, CiteDeleted, DeleteNotEarlier, DeletedTwice}
use Rattle.cert_lines.specs.declared.reject.Rejected.{Rejected}
use Rattle.cert_lines.specs.acceptance.Contained.{has_all, has_all_but_one}
use Rattle.cert_lines.specs.acceptance.Deleted.{deletes, is_deleted}
use Rattle.cert_lines.specs.acceptance.Excluded.{line_at, is_excluded}
use Rattle.cert_lines.specs.acceptance.Judged.{judged_dead}

-- the first fault of some things in order
abbrev pub first_of : {X Y : Type 0} → (X → Option Y) → List X → Option Y
first_of f [] = None
first_of f (x ∷ xs) = option_or (f x) (first_of f xs)

-- nothing where a test passes, and else a cause
abbrev pub cause_unless : Bool → RejectCause → Option RejectCause
cause_unless passes cause = if passes then None else Some cause

-- the first fault of a cite; what the cited literals have to pass is a test
abbrev pub cite_fault : List Line → Tag → (List Literal → Bool) → ℕ → Option RejectCause
cite_fault earlier t contains n =
    option_or (cause_unless (nat_lt 0 n && nat_le n (length earlier)) CiteNotEarlier)
    (option_or (cause_unless (not (is_deleted earlier n)) CiteDeleted)
    (option_or (cause_unless (contains (line_at earlier n).lits) CiteNotContained)
    (cause_unless (nat_le t.code (line_at earlier n).tag.code) CiteTagTooLow)))

-- the literals are judged dead, by earlier lines of one literal and by the cited ones
abbrev pub is_dead : Instance → List Line → Tag → List ℕ → List Literal → Bool
is_dead instance earlier t cites literals =
    judged_dead (is_excluded earlier t cites literals) instance (triple_from t.code) literals

abbrev pub count_fault : Instance → List Line → Tag → List Literal → List ℕ → Option RejectCause
count_fault instance earlier t literals cites =
    option_or (first_of (cite_fault earlier t (has_all_but_one literals)) cites)
    (cause_unless (is_dead instance earlier t cites literals) NotDead)

abbrev pub child_fault : List Line → Tag → List Literal → ℕ → Child → Option RejectCause
child_fault earlier t literals path child =
    cite_fault earlier t (has_all (literal path child.choice ∷ literals)) child.cite

-- a choice has a child, or the literals with it are judged dead without cites
abbrev pub is_settled : Instance → List Line → Tag → List Literal → ℕ → List Child → ℕ → Bool
is_settled instance earlier t literals path children index =
    list_any (λ child. child.choice == index) children
    || is_dead instance earlier t [] (literal path index ∷ literals)

abbrev pub branch_fault : Instance → List Line → Tag → List Literal → ℕ → List Child →
    Option RejectCause
branch_fault instance earlier t literals path children =
    option_or (cause_unless (not (names literals path)) WrongPath)
    (option_or (first_of (child_fault earlier t literals path) children)
    (cause_unless (list_all (is_settled instance earlier t literals path children)
    (range_with_len 0 (count_at instance path))) NotDead))

-- a deleted number is that of an earlier line, which none deletes
abbrev pub delete_fault : List Line → ℕ → Option RejectCause
delete_fault earlier n =
    option_or (cause_unless (nat_lt 0 n && nat_le n (length earlier)) DeleteNotEarlier)
    (cause_unless (not (is_deleted earlier n)) DeletedTwice)

-- the fault of a Count or Branch line above (0, 0, 0); a Delete line has none here
abbrev pub rule_fault : Instance → List Line → Tag → List Literal → Rule → Option RejectCause
rule_fault instance earlier t literals (Count cites) = count_fault instance earlier t literals cites
rule_fault instance earlier t literals (Branch path children) =
    branch_fault instance earlier t literals path children
rule_fault instance earlier t literals (Delete cites) = None

-- what a Delete line says has to be so; another line of the tag (0, 0, 0) has no fault
unfoldable pub line_fault : Instance → List Line → Line → Option RejectCause
line_fault instance earlier line =
    option_or (first_of (delete_fault earlier) (deletes line.rule))
    (if line.tag.code == 0 then None else rule_fault instance earlier line.tag line.lits line.rule)

abbrev pub rejected_at : ℕ → RejectCause → Rejected
rejected_at n cause = record { line = n; cause = cause }

-- the first fault of the line behind the first n ones, judged from these alone
abbrev pub fault_at : Instance → List Line → ℕ → Option Rejected
fault_at instance lines n =
    option_map (rejected_at (n + 1)) (line_fault instance (take n lines) (line_at lines (n + 1)))

-- that line is good
abbrev pub IsGoodLine : Instance → List Line → ℕ → Type 0
IsGoodLine instance lines n = fault_at instance lines n ≡ None

-- the first fault of the lines, in their order
unfoldable pub lines_fault : Instance → List Line → Option Rejected
lines_fault instance lines = first_of (fault_at instance lines) (range_with_len 0 (length lines))
