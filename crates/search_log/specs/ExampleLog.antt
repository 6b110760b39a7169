-- A log of five lines on three paths of which no two may have one frequency, and each way not to be
-- good.
use Rattle.std.specs.Prelude.{ℕ, List, [], ◌∷◌, Some, None, refl}
use Rattle.fapp_model.specs.declared.literal.Literal.{Literal}
use Rattle.fapp_model.specs.declared.tag.Tag.{Tag}
use Rattle.fapp_model.specs.search.Partials.{literal}
use Rattle.dead_laws.specs.ExampleInstances.{three_alike}
use Rattle.search_log.specs.declared.line.ChoiceRef.{ChoiceRef}
use Rattle.search_log.specs.declared.line.LogLine.{LogLine}
use Rattle.search_log.specs.declared.line.Ref.{Ref}
use Rattle.search_log.specs.declared.line.Ref.TheVariants.{Own, Row}
use Rattle.search_log.specs.declared.line.Segment.{Segment}
use Rattle.search_log.specs.Contents.{Content, KnownRow, known_row}
use Rattle.search_log.specs.Segments.{IsGoodLog}

-- (11, 0, 0): some record is bad at level 10
abbrev pub bad_at_ten : Tag
bad_at_ten = record { code = 49539595901075456; of_tag = refl }

-- (10, 0, 0): some record is bad at level 9
abbrev pub bad_at_nine : Tag
bad_at_nine = record { code = 45035996273704960; of_tag = refl }

abbrev pub least : Tag
least = record { code = 0; of_tag = refl }

abbrev pub by : ℕ → Ref → ChoiceRef
by choice line = record { choice = choice; line = line }

abbrev pub example_count : List Literal → List ChoiceRef → LogLine
example_count lits refs = record { tag = bad_at_ten; lits = lits; path = None; refs = refs }

abbrev pub example_branch : List Literal → ℕ → List ChoiceRef → LogLine
example_branch lits path refs =
    record { tag = bad_at_ten; lits = lits; path = Some path; refs = refs }

abbrev pub says : Tag → List Literal → Content
says t lits = record { tag = t.code; lits = lits }

-- the rows of the pool that are known: row 2 has a lower tag, rows 7 and 9 are published from the
-- log, and row 3 says what row 9 says
abbrev pub known_rows : List KnownRow
known_rows =
    known_row 2 (says bad_at_nine (literal 0 1 ∷ []))
    ∷ known_row 4 (says bad_at_ten (literal 0 1 ∷ []))
    ∷ known_row 7 (says bad_at_ten (literal 0 0 ∷ []))
    ∷ known_row 9 (says bad_at_ten [])
    ∷ known_row 3 (says bad_at_ten []) ∷ []

-- two paths have one frequency
abbrev pub alike : LogLine
alike = example_count (literal 0 0 ∷ literal 1 0 ∷ []) []

-- the first path's choice: the second path's first choice is alike, and its second one leaves the
-- third path none
abbrev pub first_choice : LogLine
first_choice = example_branch (literal 0 0 ∷ []) 1 (by 0 (Own 0) ∷ [])

-- each choice of the first path is ruled out by what is cited
abbrev pub none_left : LogLine
none_left = example_count (literal 1 0 ∷ []) (by 0 (Own 1) ∷ by 0 (Row 4) ∷ [])

abbrev pub both_choices : LogLine
both_choices = example_branch [] 0 (by 0 (Row 7) ∷ by 1 (Row 4) ∷ [])

-- nothing is tested of it
abbrev pub least_line : LogLine
least_line =
    record { tag = least; lits = literal 2 0 ∷ []; path = Some 0; refs = by 0 (Own 3) ∷ [] }

-- the log with a line in the third place
abbrev pub log_with : LogLine → List LogLine
log_with line = alike ∷ first_choice ∷ line ∷ both_choices ∷ least_line ∷ []

abbrev pub segment : ℕ → ℕ → Segment
segment last row = record { last = last; row = row }

abbrev pub published : List Segment
published = segment 1 7 ∷ segment 3 9 ∷ []

-- the log with another third line isn't good
abbrev pub IsWrongLine : LogLine → Type 0
IsWrongLine line = IsGoodLog three_alike known_rows (log_with line) published → ⊥

-- the log with other segments isn't good
abbrev pub AreWrongSegments : List Segment → Type 0
AreWrongSegments segments = IsGoodLog three_alike known_rows (log_with none_left) segments → ⊥

-- The log is good, and it isn't with any of these changes.
pub record ExampleLog : Type 0 where
  pub good : IsGoodLog three_alike known_rows (log_with none_left) published
  pub no_such_choice : IsWrongLine (example_count (literal 0 2 ∷ []) [])
  pub literals_out_of_order : IsWrongLine (example_count (literal 1 0 ∷ literal 0 0 ∷ []) [])
  pub no_such_child : IsWrongLine (example_branch (literal 0 0 ∷ []) 1
      (by 0 (Own 0) ∷ by 2 (Row 7) ∷ []))
  pub no_such_path : IsWrongLine (example_branch [] 3 [])
  pub children_out_of_order : IsWrongLine (example_branch [] 0 (by 1 (Row 4) ∷ by 0 (Own 1) ∷ []))
  pub cites_itself : IsWrongLine (example_count (literal 1 0 ∷ []) (by 0 (Own 2) ∷ []))
  pub cites_an_unknown_row : IsWrongLine (example_count (literal 1 0 ∷ []) (by 0 (Row 5) ∷ []))
  pub two_literals_outside : IsWrongLine (example_count (literal 2 0 ∷ [])
      (by 0 (Own 0) ∷ by 0 (Row 7) ∷ by 0 (Row 4) ∷ []))
  pub outside_of_a_named_path : IsWrongLine
      (example_count (literal 0 1 ∷ literal 1 1 ∷ []) (by 0 (Row 7) ∷ []))
  pub child_of_another_choice : IsWrongLine (example_branch [] 0 (by 0 (Row 4) ∷ by 1 (Row 4) ∷ []))
  pub cited_tag_too_low : IsWrongLine (example_count (literal 1 0 ∷ [])
      (by 0 (Own 1) ∷ by 0 (Row 2) ∷ []))
  pub path_is_named : IsWrongLine (example_branch (literal 0 0 ∷ []) 0
      (by 0 (Own 1) ∷ by 1 (Row 4) ∷ []))
  pub count_not_dead : IsWrongLine (example_count (literal 0 0 ∷ []) [])
  pub choice_not_settled : IsWrongLine (example_branch [] 0 (by 1 (Row 4) ∷ []))
  pub last_line_is_not_the_row : AreWrongSegments (segment 0 7 ∷ [])
  pub row_below_what_it_cites : AreWrongSegments (segment 3 3 ∷ [])
  pub segments_out_of_order : AreWrongSegments (segment 3 9 ∷ segment 1 7 ∷ [])
