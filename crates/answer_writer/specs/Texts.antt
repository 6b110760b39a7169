-- What is written of an answer.
use Rattle.std.specs.Prelude.{ℕ, Bool, List, ◌++◌, codes, if◌then◌else◌}
use Rattle.std.specs.List.{flat_map}
use Rattle.fapp_model.specs.declared.choice.Choice.{Choice}
use Rattle.fapp_model.specs.declared.instance.Instance.{Instance}
use Rattle.cert_lines.specs.declared.answer.Answer.{Answer}
use Rattle.cert_lines.specs.declared.answer.Verdict.{Verdict}
use Rattle.cert_lines.specs.Spelling.{line_text, plan_lines, verdict_text, answer_text}

-- a line for each choice of a plan, in the order of the paths
abbrev pub plan_text : Instance → List Choice → List ℕ
plan_text instance plan = flat_map line_text (plan_lines instance.paths plan)

-- the answer's text, or the lines of its plan alone
abbrev pub written_text : Instance → Answer → Bool → List ℕ
written_text instance answer answer_only =
    if answer_only then plan_text instance answer.plan else answer_text instance answer

-- what tells of an accepted answer
abbrev pub accepted_text : Verdict → List ℕ
accepted_text verdict = codes "ACCEPTED " ++ verdict_text verdict
