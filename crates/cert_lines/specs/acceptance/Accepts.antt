-- When an answer is accepted.
use Rattle.std.specs.Prelude.{◌≡◌, Option, None}
use Rattle.std.specs.Option.{option_or, option_map}
use Rattle.fapp_model.specs.declared.instance.Instance.{Instance}
use Rattle.cert_lines.specs.declared.answer.Answer.{Answer}
use Rattle.cert_lines.specs.declared.reject.Rejected.{Rejected}
use Rattle.cert_lines.specs.acceptance.LineFaults.{lines_fault, rejected_at}
use Rattle.cert_lines.specs.acceptance.PlanFaults.{plan_fault}
use Rattle.cert_lines.specs.acceptance.RootFaults.{root_fault}

-- the first fault of an answer: the plan's, then a line's, then the root's
unfoldable pub answer_fault : Instance → Answer → Option Rejected
answer_fault instance answer =
    option_or (option_map (rejected_at 0) (plan_fault instance answer.plan answer.verdict))
    (option_or (lines_fault instance answer.lines)
    (option_map (rejected_at 0) (root_fault instance answer.verdict answer.lines)))

-- the plan, each line and the root have no fault
abbrev pub Accepts : Instance → Answer → Type 0
Accepts instance answer = answer_fault instance answer ≡ None
