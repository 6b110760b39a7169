use Rattle.std.proofs.Common.{◌∙◌, ◌<◌, ◌≤◌, List, length, subst, sym, ℕ}
use Rattle.cert_lines.specs.declared.answer.Line.{Line}
use Rattle.cert_lines.specs.Stripping.{IsStrippable}
use Rattle.cert_lines.proofs.StripExample.{ready}
use Rattle.cert_lines.proofs.strip_rows.strips.Goals as goal

pub strip-requires : goal.strip-requires
strip-requires g c = subst (λ (ls : List Line). (n : ℕ) → 0 < n → n ≤ length ls → IsStrippable ls n) (sym (c.deref-2.ensures.value ∙ c.in_ok-lines.ensures)) (ready _ _)
