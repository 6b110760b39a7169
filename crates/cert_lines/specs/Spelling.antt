-- The text of an answer: its lines, each a list of fields.
use Rattle.std.specs.Prelude.{ℕ, ◌==◌, List, [], ◌∷◌, ◌++◌, length, map, codes, decimal, if◌then◌else◌}
use Rattle.std.specs.Fmt.{signed_decimal}
use Rattle.std.specs.List.{flat_map, join_with_byte}
use Rattle.fapp_model.specs.declared.choice.Choice.{Choice}
use Rattle.fapp_model.specs.declared.instance.Path.{Path}
use Rattle.fapp_model.specs.declared.instance.Instance.{Instance}
use Rattle.fapp_model.specs.declared.literal.Literal.{Literal}
use Rattle.fapp_model.specs.declared.tag.Tag.{Tag}
use Rattle.fapp_model.specs.declared.triple.Triple.{Triple}
use Rattle.fapp_model.specs.Tags.{triple_from}
use Rattle.cert_lines.specs.declared.answer.Answer.{Answer}
use Rattle.cert_lines.specs.declared.answer.Child.{Child}
use Rattle.cert_lines.specs.declared.answer.Line.{Line}
use Rattle.cert_lines.specs.declared.answer.Rule.{Rule}
use Rattle.cert_lines.specs.declared.answer.Rule.TheVariants.{Count, Branch, Delete}
use Rattle.cert_lines.specs.declared.answer.Verdict.{Verdict}
use Rattle.cert_lines.specs.declared.answer.Verdict.TheVariants.{Best, NoneFeasible, Open}

-- a line: its fields with one space between them, and a line feed
abbrev pub line_text : List (List ℕ) → List ℕ
line_text fields = join_with_byte 32 fields ++ 10 ∷ []

abbrev pub triple_numbers : Triple → List ℕ
triple_numbers t = t.k ∷ t.v ∷ t.s ∷ []

abbrev pub tag_numbers : Tag → List ℕ
tag_numbers tag = triple_numbers (triple_from tag.code)

abbrev pub literal_numbers : Literal → List ℕ
literal_numbers literal = literal.path ∷ literal.choice ∷ []

-- how many there are, and each one
abbrev pub list_numbers : List Literal → List ℕ
list_numbers literals = length literals ∷ flat_map literal_numbers literals

abbrev pub child_numbers : Child → List ℕ
child_numbers child = child.choice ∷ child.cite ∷ []

abbrev pub rule_word : Rule → List ℕ
rule_word (Count cites) = codes "C"
rule_word (Branch path children) = codes "B"
rule_word (Delete cites) = codes "D"

abbrev pub rule_numbers : Rule → List ℕ
rule_numbers (Count cites) = length cites ∷ cites
rule_numbers (Branch path children) = path ∷ length children ∷ flat_map child_numbers children
rule_numbers (Delete cites) = length cites ∷ cites

-- the numbers before a rule's own: the tag and the literals, which a Delete line leaves out
abbrev pub front_numbers : Line → Rule → List ℕ
front_numbers line (Count cites) = tag_numbers line.tag ++ list_numbers line.lits
front_numbers line (Branch path children) = tag_numbers line.tag ++ list_numbers line.lits
front_numbers line (Delete cites) = []

-- the fields of a certificate line
abbrev pub certificate_fields : Line → List (List ℕ)
certificate_fields line =
    rule_word line.rule ∷ map decimal (front_numbers line line.rule ++ rule_numbers line.rule)

-- the fields of a verdict
abbrev pub verdict_fields : Verdict → List (List ℕ)
verdict_fields (Best t) = codes "BEST" ∷ map decimal (triple_numbers t)
verdict_fields NoneFeasible = codes "NONE" ∷ []
verdict_fields (Open best lower level prefix) = codes "OPEN" ∷ map decimal (triple_numbers best)
    ++ codes "LOWER" ∷ map decimal (tag_numbers lower)
    ++ codes "AT" ∷ map decimal (level ∷ list_numbers prefix)

-- the fields of what a plan chooses for a path
abbrev pub choice_fields : Path → Choice → List (List ℕ)
choice_fields path choice =
    codes "AL" ∷ decimal path.number ∷ decimal choice.freq ∷ signed_decimal choice.pol ∷ []

-- one line for each choice of a plan, in the order of the paths
abbrev pub plan_lines : List Path → List Choice → List (List (List ℕ))
plan_lines paths [] = []
plan_lines [] (choice ∷ choices) = []
plan_lines (path ∷ paths) (choice ∷ choices) = choice_fields path choice ∷ plan_lines paths choices

abbrev pub verdict_text : Verdict → List ℕ
verdict_text verdict = line_text (verdict_fields verdict)

-- the line that says the version, which version 1 has not
abbrev pub version_lines : ℕ → List (List (List ℕ))
version_lines version = if version == 2 then (codes "V" ∷ codes "2" ∷ []) ∷ [] else []

abbrev pub version_text : ℕ → List ℕ
version_text version = flat_map line_text (version_lines version)

-- the text before the certificate lines
abbrev pub head_text : Instance → Answer → List ℕ
head_text instance answer = flat_map line_text (plan_lines instance.paths answer.plan)
    ++ line_text (codes "--" ∷ []) ++ verdict_text answer.verdict ++ version_text answer.version

abbrev pub lines_text : List Line → List ℕ
lines_text lines = flat_map (λ line. line_text (certificate_fields line)) lines

-- the text of an answer
abbrev pub answer_text : Instance → Answer → List ℕ
answer_text instance answer =
    head_text instance answer ++ lines_text answer.lines ++ line_text (codes "END" ∷ [])
